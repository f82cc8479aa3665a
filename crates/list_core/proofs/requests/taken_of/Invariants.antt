use Rattle.std.proofs.Common.{◌≡◌, ◌++◌, drop, filter, map}
use Rattle.desk_core.specs.ShopView.{state_of}
use Rattle.report_core.specs.Lines.{fields_of}
use Rattle.list_core.specs.RequestFacts.{is_taken, taken_fact}
use Rattle.list_core.proofs.requests.taken_of.Given as goal

-- the facts so far and those of the serials that are left are all facts
abbrev pub invariant-loop-serial : goal.invariant-loop-serial
invariant-loop-serial l = let taken = is_taken (state_of l.shop) l.part in
    fields_of l.facts ++ map taken_fact (filter taken (drop l.serial-index l.serials))
    ≡ map taken_fact (filter taken l.serials)
