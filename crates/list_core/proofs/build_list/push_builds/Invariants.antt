use Rattle.std.proofs.Common.{◌≡◌, ◌++◌, drop, flat_map, map}
use Rattle.desk_core.specs.ShopView.{state_of}
use Rattle.list_core.specs.BuildList.{build_rows}
use Rattle.report_core.specs.Lines.{lines_of}
use Rattle.list_core.proofs.build_list.push_builds.Given as goal

-- the rows so far and those of the builds that are left are all rows
abbrev pub invariant-loop-build : goal.invariant-loop-build
invariant-loop-build l = let rows = build_rows (state_of l.shop) in
    lines_of l.rows.items ++ flat_map rows (map (λ b. b.now) (drop l.build-index l.builds))
    ≡ lines_of l.initial.rows.items ++ flat_map rows (map (λ b. b.now) l.builds)
