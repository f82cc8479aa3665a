use Rattle.std.proofs.Common.{◌≡◌, ◌++◌, drop, length, string_bytes}
use Rattle.std.specs.Str.{chars}
use Rattle.report_core.specs.Escaped.{escaped, escaped_chars}
use Rattle.report_core.proofs.escape.escaped.Given as goal

-- what was written, and the characters that are left
abbrev pub invariant-loop-c : goal.invariant-loop-c
invariant-loop-c l = string_bytes l.line ++ escaped_chars (drop (length l.yielded) (chars l.text)) ≡ escaped l.text
