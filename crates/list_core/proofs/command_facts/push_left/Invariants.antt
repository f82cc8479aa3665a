use Rattle.std.proofs.Common.{◌≡◌, ◌++◌, drop, filter, map}
use Rattle.desk_core.specs.ShopView.{state_of}
use Rattle.report_core.specs.Lines.{fields_of}
use Rattle.list_core.specs.Facts.{is_left, left_fact}
use Rattle.list_core.proofs.command_facts.push_left.Given as goal

-- the facts so far and those of the lines that are left are all facts
abbrev pub invariant-loop-line : goal.invariant-loop-line
invariant-loop-line l = let fact = left_fact (state_of l.shop) l.order in
    fields_of l.facts ++ map fact (filter (is_left l.order) (map (λ x. x.now) (drop l.line-index l.lines)))
    ≡ fields_of l.initial.facts ++ map fact (filter (is_left l.order) (map (λ x. x.now) l.lines))
