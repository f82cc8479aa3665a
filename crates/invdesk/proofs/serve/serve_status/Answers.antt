use Rattle.std.proofs.Common.{inl, inr, refl, ap, ◌∙◌}
use Rattle.std.specs.Prelude.{Ok, Err}
use Rattle.desk_cli.specs.declared.look.Content.TheVariants.{Database}
use Rattle.invdesk.specs.Statuses.{status_on_file}
use Rattle.invdesk.proofs.Ending.{by_end}
use Rattle.invdesk.proofs.serve.serve_status.Goals as goal

pub returns-in-Some : goal.returns-in-Some
returns-in-Some c =
    rw c.in-Some.is
    (by_end c.serve_on_file.result c.serve_on_file.ensures.acts c.serve_on_file.ensures.none
    (λ end e acts. inr (refl, inl (refl, (Ok end, (Database, inl (refl, acts)), c.told_status.ensures ∙ ap status_on_file e))))
    (λ fault e none. inr (refl, inl (refl, (Err fault, (Database, inr none), c.told_status.ensures ∙ ap status_on_file e)))))

pub returns-in-None : goal.returns-in-None
returns-in-None c =
    rw c.in-None.is (inr (refl, inr (refl, (c.serve_in_memory.result, c.serve_in_memory.ensures, c.status_of.ensures))))
