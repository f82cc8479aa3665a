use Rattle.std.proofs.Common.{◌≡◌, ◌++◌, ◌∷◌, drop, map}
use Rattle.part_core.specs.CatalogueView.{parts_of}
use Rattle.yard_core.specs.Contents.{shown_content}
use Rattle.report_core.specs.Content.{node_line}
use Rattle.report_core.specs.Lines.{lines_of}
use Rattle.report_core.proofs.content.tree_lines.Given as goal

-- the lines so far and those of what is left are all lines
abbrev pub invariant-loop-inside : goal.invariant-loop-inside
invariant-loop-inside l = let line = node_line (parts_of l.catalogue) in
    lines_of l.lines.items ++ map line (shown_content (drop l.inside-index l.content))
    ≡ line (l.item, 1) ∷ map line (shown_content l.content)
