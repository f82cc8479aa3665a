use Rattle.std.proofs.Common.{◌≡◌, ◌++◌, drop, map}
use Rattle.desk_core.specs.ShopView.{state_of}
use Rattle.list_core.specs.Facts.{row_fact}
use Rattle.report_core.specs.Lines.{fields_of}
use Rattle.list_core.proofs.command_facts.row_facts.Given as goal

-- the facts so far and those of the rows that are left are all facts
abbrev pub invariant-loop-number : goal.invariant-loop-number
invariant-loop-number l = let fact = row_fact (state_of l.shop) l.name l.kind in
    fields_of l.facts ++ map fact (drop l.number-index l.numbers) ≡ map fact l.numbers
