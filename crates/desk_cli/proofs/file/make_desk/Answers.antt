use Rattle.std.proofs.Common.{inl, inr}
use Rattle.desk_cli.proofs.Taking.{may_be_new}
use Rattle.desk_cli.proofs.file.make_desk.Goals as goal

pub returns-in-Ok-clause-new : goal.returns-in-Ok-clause-new
returns-in-Ok-clause-new g c =
    record { limits = c.args.limits; largest = c.requires.largest; state = c.in-Ok.ensures.new }

pub returns-in-Err-clause-crash : goal.returns-in-Err-clause-crash
returns-in-Err-clause-crash g c clean trees found =
    elim (c.in-Err.ensures.crash clean trees found) [
      | inl before ↦ inl before
      | inr made ↦
          inr (may_be_new c.args.limits c.requires.largest trees c.in-Err.fault c.from.result c.from.ensures made)
    ]
