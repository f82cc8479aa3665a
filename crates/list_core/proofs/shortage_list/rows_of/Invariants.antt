use Rattle.std.proofs.Common.{◌≡◌, ◌++◌, ◌∷◌, ℕ, List, drop, filter, map}
use Rattle.sheet_core.specs.Sheet.{now_of}
use Rattle.part_core.specs.declared.part.Part.{Part}
use Rattle.desk_core.specs.ShopView.{state_of}
use Rattle.list_core.specs.Gathered.{gathered_row, is_lacking, want_in}
use Rattle.report_core.specs.Lines.{lines_of}
use Rattle.list_core.specs.ShortageList.{wants_header}
use Rattle.list_core.proofs.shortage_list.rows_of.Given as goal

-- the lines so far and those of what is left are all lines
abbrev pub invariant-loop-part : goal.invariant-loop-part
invariant-loop-part l =
    let wants = now_of l.wants in
    let line : Part → List (List ℕ) = λ p. gathered_row (state_of l.shop) (want_in p.number wants) p in
    lines_of l.lines.items
    ++ map line (filter (is_lacking wants) (map (λ p. p.now) (drop l.part-index l.parts)))
    ≡ wants_header ∷ map line (filter (is_lacking wants) (map (λ p. p.now) l.parts))
