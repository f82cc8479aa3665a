use Rattle.std.proofs.Common.{◌≡◌, ◌++◌, ◌-◌, codes}
use Rattle.std.specs.List.{repeat}
use Rattle.std.specs.String.{string_bytes}
use Rattle.report_core.proofs.columns.push_gap.Given as goal

-- the text so far and the spaces that are left are all
abbrev pub invariant-loop-space : goal.invariant-loop-space
invariant-loop-space l =
    string_bytes l.text ++ repeat (l.widest - l._space) (codes " ")
    ≡ string_bytes l.initial.text ++ repeat (l.widest - l.width) (codes " ")
