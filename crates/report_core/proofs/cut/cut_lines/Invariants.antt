use Rattle.std.proofs.Common.{◌≡◌, ◌++◌, drop, length, string_bytes}
use Rattle.std.specs.Str.{chars}
use Rattle.report_core.specs.Cut.{cut_chars, cut_lines}
use Rattle.report_core.proofs.cut.cut_lines.Given as goal

-- what was written, and what is shown of the characters that are left
abbrev pub invariant-loop-c : goal.invariant-loop-c
invariant-loop-c l =
    string_bytes l.cut ++ cut_chars l.most l.left (drop (length l.yielded) (chars l.text)) ≡ cut_lines l.most l.text
