use Rattle.desk_app.proofs.Journalling.{keys_are_new}
use Rattle.desk_app.proofs.journal.journal_keys_are_new.Goals as goal

pub returns : goal.returns
returns c = keys_are_new
