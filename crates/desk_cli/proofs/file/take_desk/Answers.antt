use Rattle.std.proofs.Common.{inl, inr}
use Rattle.std.proofs.lemmas.Result.{IfErr-weaker}
use Rattle.desk_cli.proofs.file.take_desk.Goals as goal

pub returns-then-is_bare-clause-crash : goal.returns-then-is_bare-clause-crash
returns-then-is_bare-clause-crash g c =
    let bare = c.is_bare.ensures.0 c.if-is_bare.true in
    IfErr-weaker c.make_desk.result _ _
    (λ e made clean trees found. elim (made clean trees found) [ inl before ↦ inl before | inr new ↦ inr (bare, new) ])
    c.make_desk.ensures.crash
