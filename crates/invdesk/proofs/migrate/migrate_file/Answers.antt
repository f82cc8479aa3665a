use Rattle.std.proofs.Common.{inl, inr}
use Rattle.std.proofs.lemmas.Result.{err_from_is_err_and}
use Rattle.desk_cli.specs.declared.look.Content.TheVariants.{Absent}
use Rattle.invdesk.proofs.migrate.migrate_file.Goals as goal

pub returns : goal.returns
returns c = (c.in_ok-found.found, c.migrate_found.ensures)

pub returns-in_err-file_at : goal.returns-in_err-file_at
returns-in_err-file_at c =
    let p = err_from_is_err_and c.from_residual.result c.from_residual.ensures.1 in
    rw (p.1, p.2) (Absent, inr (inl c.in_err-file_at.ensures))

pub returns-in_err-found : goal.returns-in_err-found
returns-in_err-found c =
    let told = c.from_residual-in_err-found in
    let p = err_from_is_err_and told.result told.ensures.1 in
    rw (p.1, p.2) (Absent, inr (inl c.in_err-found.ensures))
