use Rattle.std.proofs.Common.{◌∙◌, arith, sym, length, ◌==◌}
use Rattle.std.proofs.lemmas.List.{take_all}
use Rattle.std.proofs.lemmas.Bool.Decides.{nat_tests}
use Rattle.desk_http.proofs.Tokens.{line_before}
use Rattle.desk_http.proofs.token.first_line.Goals as goal

pub returns-then-b-eq10 : goal.returns-then-b-eq10
returns-then-b-eq10 c =
    line_before (λ b. b == 10) c.args.bytes.now c.loop-i.i (omega arith) c.loop-i.invariant
    (λ _. grind (arith, nat_tests))

pub returns : goal.returns
returns c =
    sym (take_all (length c.args.bytes.now) c.args.bytes.now (omega arith))
    ∙ line_before (λ b. b == 10) c.args.bytes.now (length c.args.bytes.now) (omega arith) (λ k h. c.loop-i.invariant k (omega arith))
    (λ h. absurd (omega arith))
