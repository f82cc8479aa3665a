use Rattle.std.proofs.Common.{◌≡◌, ◌++◌, [], replicate}
use Rattle.report_core.specs.Lines.{fields_of}
use Rattle.list_core.proofs.rows.push_empty.Given as goal

-- as many empty fields came as the loop has gone round
abbrev pub invariant-loop-field : goal.invariant-loop-field
invariant-loop-field l = fields_of l.row ≡ fields_of l.initial.row ++ replicate l._field []
