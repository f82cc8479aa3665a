use Rattle.std.proofs.Common.{◌≡◌, ◌&&◌, ◌∙◌, ◌-◌, length, take, drop, arith, refl, string_bytes}
use Rattle.desk_app.proofs.Checking.{all_readable, all_told, from_index, looked_at_none, looked_at_one}
use Rattle.desk_app.proofs.checked.faults_of_lines.Goals as goal
use Rattle.desk_app.proofs.checked.faults_of_lines.Goals.{then-fine, else-fine}

pub loop-at-init : goal.loop-at-init
loop-at-init c = record {
  looked =
      looked_at_none c.args.names c.args.bytes.now (string_bytes c.new-text.result) c.new-text.ensures.bytes;
  count = omega arith;
  bound = omega arith;
}

pub loop-at-preserved : goal.loop-at-preserved
loop-at-preserved c =
    let both : c.if-fine.fine ≡ (c.loop-at.fine && c.in_ok-readable.readable) =
    elim c.if-fine.branch [
      | then-fine w ↦ rw w.if-fine.true w.fine-is
      | else-fine w ↦ rw w.if-fine.false (w.fine-is ∙ w.if-fine.false)
    ] in
    let i = c.loop-at.invariant in
    record {
      looked =
          looked_at_one c.args.names c.args.bytes.now c.loop-at.at _ c.loop-at.number _ (string_bytes c.loop-at.text)
          (string_bytes c.look_at.new.text) c.loop-at.fine c.if-fine.fine c.in_ok-readable.readable
          (take (length c.args.bytes.now - c.loop-at.at) (drop c.loop-at.at c.args.bytes.now))
          c.first_line-line.result.now i.looked c.loop-at-test.true (from_index c.args.bytes.now c.loop-at.at)
          c.first_line-line.ensures.first refl refl c.in_ok-readable.ensures.text c.in_ok-readable.ensures.readable both;
      count = omega arith;
      bound = omega arith;
    }

pub returns-clause-text : goal.returns-clause-text
returns-clause-text c =
    all_told c.args.names c.args.bytes.now c.loop-at.at c.loop-at.number (string_bytes c.loop-at.text) c.loop-at.fine
    c.loop-at.invariant.looked (omega arith)

pub returns-clause-fine : goal.returns-clause-fine
returns-clause-fine c =
    all_readable c.args.names c.args.bytes.now c.loop-at.at c.loop-at.number (string_bytes c.loop-at.text) c.loop-at.fine
    c.loop-at.invariant.looked (omega arith)
