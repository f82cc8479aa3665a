use Rattle.std.proofs.Common.{◌≡◌, ◌++◌, take, drop}
use Rattle.desk_app.specs.Cuts.{has_end, first_of, rest_of}
use Rattle.desk_app.proofs.pieces.end_of.Given as goal

abbrev pub invariant-loop-i : goal.invariant-loop-i
invariant-loop-i l = record {
  ends : has_end l.piece ≡ has_end (drop l.i l.piece);
  first : first_of l.piece ≡ take l.i l.piece ++ first_of (drop l.i l.piece);
  rest : rest_of l.piece ≡ rest_of (drop l.i l.piece);
}
