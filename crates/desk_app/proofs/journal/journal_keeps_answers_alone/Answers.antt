use Rattle.desk_app.proofs.Journalling.{keeps_answers_alone, leaves_others}
use Rattle.desk_app.proofs.journal.journal_keeps_answers_alone.Goals as goal

pub returns : goal.returns
returns c = record { kept = keeps_answers_alone; others = leaves_others }
