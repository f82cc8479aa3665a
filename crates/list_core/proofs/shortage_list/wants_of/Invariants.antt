use Rattle.std.proofs.Common.{◌≡◌, drop, map}
use Rattle.std.specs.Prelude.{flat_map}
use Rattle.std.specs.FinMap as table
use Rattle.sheet_core.specs.Sheet.{now_of}
use Rattle.desk_core.specs.ShopView.{state_of}
use Rattle.report_core.specs.Shortage.{wants_of}
use Rattle.list_core.specs.Gathered.{gathered}
use Rattle.list_core.proofs.shortage_list.wants_of.Given as goal

-- what is gathered so far, with what is left, is what all builds want
abbrev pub invariant-loop-build : goal.invariant-loop-build
invariant-loop-build l = let s = state_of l.shop in
    gathered (flat_map (λ b. wants_of b.number s) (map (λ b. b.now) (drop l.build-index l.builds))) (now_of l.wants)
    ≡ gathered (flat_map (λ b. wants_of b.number s) (map (λ b. b.now) l.builds)) table.empty
