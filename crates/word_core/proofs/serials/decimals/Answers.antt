use Rattle.std.proofs.Common.{◌≡◌, true, string_bytes, ap, ◌∙◌, rules, arith}
use Rattle.std.proofs.lemmas.Grind.{common_steps}
use Rattle.word_core.specs.Serial.{is_serial}
use Rattle.word_core.proofs.Numerals.{is_serial-decimal, decimals_more}
use Rattle.word_core.proofs.serials.decimals.Goals as goal
use Rattle.word_core.proofs.serials.decimals.Goals.{else-loop-number-test}
use Rattle.word_core.proofs.serials.decimals.Goals.{then-loop-number-test+in_ok-text+in_ok-push+else-number-counter-last}

pub unwrap-requires : goal.unwrap-requires
unwrap-requires c =
    let e : is_serial (string_bytes c.in_ok-text.text) ≡ true =
    ap is_serial c.in_ok-text.ensures.ok ∙ is_serial-decimal c.loop-number.number-counter (omega arith) in
    search rules

pub loop-number-preserved : goal.loop-number-preserved
loop-number-preserved c =
    let k = c.loop-number.number-counter in
    let m = decimals_more c.args.first k (omega arith) in
    grind (arith, common_steps)

pub returns : goal.returns
returns c =
    elim c.loop-number-test.branch [
      | else-loop-number-test w ↦ absurd (omega arith)
      | then-loop-number-test+in_ok-text+in_ok-push+else-number-counter-last w ↦
          let m = decimals_more c.args.first c.args.last c.requires in grind (arith, common_steps)
    ]
