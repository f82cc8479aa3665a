use Rattle.std.proofs.Common.{subst}
use Rattle.sqlite.specs.Closing.{IsCopied}
use Rattle.sqlite.specs.Files.{IsClosed}
use Rattle.desk_core.specs.ShopView.{state_of}
use Rattle.desk_app.proofs.Closing.{kept_alone}
use Rattle.desk_app.proofs.close.close_desk.Goals as goal

pub returns-in-Ok-clause-alone : goal.returns-in-Ok-clause-alone
returns-in-Ok-clause-alone g c none honest =
    kept_alone (state_of c.args.desk.shop) c.args.desk.conn c.in-Ok.files (c.requires.books none)
    (subst (λ conn. IsCopied conn c.in-Ok.files) c.close.ensures (c.in-Ok.ensures.copied honest))

pub returns-in-Ok-clause-quiet : goal.returns-in-Ok-clause-quiet
returns-in-Ok-clause-quiet g c =
    let ok = c.in-Ok.ensures.ok in
    (ok.0, ok.1, subst (λ conn. IsClosed conn ok.0) c.close.ensures ok.2)

pub returns-in-Err-clause-kept : goal.returns-in-Err-clause-kept
returns-in-Err-clause-kept g c =
    subst (λ conn. IsClosed conn c.in-Err.database) c.close.ensures c.in-Err.ensures.err.0
