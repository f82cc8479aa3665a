use Rattle.std.proofs.Common.{◌≡◌, ◌++◌, drop, length}
use Rattle.word_core.specs.Forms.{shown_fields}
use Rattle.desk_core.specs.ShopView.{state_of}
use Rattle.list_core.specs.Facts.{facts_from}
use Rattle.report_core.specs.Lines.{fields_of}
use Rattle.list_core.proofs.command_facts.facts_from.Given as goal

-- the facts so far and those of the fields that are left are all facts
abbrev pub invariant-loop-name : goal.invariant-loop-name
invariant-loop-name l =
    let s = state_of l.shop in
    let n = length l.yielded in
    facts_from s (shown_fields l.blanks) l.fields
    ≡ fields_of l.facts ++ facts_from s (shown_fields (drop n l.blanks)) (drop n l.fields)
