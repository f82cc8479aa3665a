use Rattle.std.proofs.Common.{◌≡◌, ◌&&◌, ◌∙◌, ◌-◌, length, take, drop, arith, refl}
use Rattle.desk_app.proofs.Checking.{from_index}
use Rattle.desk_app.proofs.Hearing.{all_fine, all_text, told_none, told_one}
use Rattle.desk_app.proofs.heard.shown_lines.Goals as goal
use Rattle.desk_app.proofs.heard.shown_lines.Goals.{then-fine, else-fine}

pub loop-at-init : goal.loop-at-init
loop-at-init c = record {
  told = told_none c.args.before c.args.body.now c.new-text.result.items c.new-text.ensures.items;
  bound = omega arith;
}

pub loop-at-preserved : goal.loop-at-preserved
loop-at-preserved c =
    let both : c.if-fine.fine ≡ (c.loop-at.fine && c.is_fine-line_fine.result) =
    elim c.if-fine.branch [
      | then-fine w ↦ rw w.if-fine.true w.fine-is
      | else-fine w ↦ rw w.if-fine.false (w.fine-is ∙ w.if-fine.false)
    ] in
    let i = c.loop-at.invariant in
    record {
      told =
          told_one c.args.before c.args.body.now c.loop-at.at _ c.loop-at.text.items c.push_line.new.text.items
          c.loop-at.fine c.if-fine.fine c.is_fine-line_fine.result
          (take (length c.args.body.now - c.loop-at.at) (drop c.loop-at.at c.args.body.now))
          c.first_line-line.result.now i.told c.loop-at-test.true (from_index c.args.body.now c.loop-at.at)
          c.first_line-line.ensures.first refl c.in_ok-push_line.ensures c.is_fine-line_fine.ensures both;
      bound = omega arith;
    }

pub returns-clause-text : goal.returns-clause-text
returns-clause-text c =
    all_text c.args.before c.args.body.now c.loop-at.at c.loop-at.text.items c.loop-at.fine c.loop-at.invariant.told
    (omega arith)

pub returns-clause-fine : goal.returns-clause-fine
returns-clause-fine c =
    all_fine c.args.before c.args.body.now c.loop-at.at c.loop-at.text.items c.loop-at.fine c.loop-at.invariant.told
    (omega arith)
