use Rattle.std.proofs.Common.{sym, ◌∙◌, drop}
use Rattle.std.specs.Vec.Iter.{into_iter_items}
use Rattle.word_core.specs.Forms.{shown_fields}
use Rattle.desk_core.specs.TextWriting.{in_order}
use Rattle.desk_core.proofs.NoneLeft.{none_left}
use Rattle.desk_core.proofs.texts.members.Goals as goal

-- no field is left
pub returns-in-None : goal.returns-in-None
returns-in-None c =
    let blanks = shown_fields (drop c.loop-name.name-index c.args.blanks.now) in
    let left = into_iter_items c.loop-name.left in
    let none = sym c.loop-name.invariant.1 ∙ c.in-None.ensures.cases.0 in
    sym (none_left blanks left (in_order c.loop-name.members.entries) none) ∙ c.loop-name.invariant.0
