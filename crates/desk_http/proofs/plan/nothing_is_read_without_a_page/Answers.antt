use Rattle.std.proofs.Common.{refl}
use Rattle.desk_http.proofs.Plain.{no_page}
use Rattle.desk_http.proofs.plan.nothing_is_read_without_a_page.Goals as goal

pub returns : goal.returns
returns c = record { planned = no_page; guarded = refl }
