use Rattle.std.proofs.Common.{◌≡◌, ◌++◌, codes, drop, map}
use Rattle.yard_core.specs.Contents.{shown_content}
use Rattle.desk_core.specs.ShopView.{state_of}
use Rattle.list_core.specs.ItemList.{item_fields}
use Rattle.report_core.specs.Lines.{lines_of}
use Rattle.list_core.proofs.item_list.push_content.Given as goal

-- the lines so far and those of what is left are all lines
abbrev pub invariant-loop-inside : goal.invariant-loop-inside
invariant-loop-inside l = let line = item_fields (codes "inside") (state_of l.shop) in
    lines_of l.lines.items ++ map line (shown_content (drop l.inside-index l.content))
    ≡ lines_of l.initial.lines.items ++ map line (shown_content l.content)
