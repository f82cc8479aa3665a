use Rattle.std.proofs.Common.{◌≡◌, ◌++◌, drop, filter, map}
use Rattle.desk_core.specs.ShopView.{state_of}
use Rattle.report_core.specs.Lines.{fields_of}
use Rattle.list_core.specs.Facts.{is_missing, missing_fact}
use Rattle.list_core.proofs.command_facts.push_missing.Given as goal

-- the facts so far and those of the lines that are left are all facts
abbrev pub invariant-loop-want : goal.invariant-loop-want
invariant-loop-want l = let fact = missing_fact (state_of l.shop) in
    fields_of l.facts ++ map fact (filter is_missing (drop l.want-index l.wants))
    ≡ fields_of l.initial.facts ++ map fact (filter is_missing l.wants)
