use Rattle.std.proofs.Common.{◌≡◌, ◌++◌, drop, map}
use Rattle.std.specs.Prelude.{flat_map}
use Rattle.list_core.specs.Origins.{origins_of}
use Rattle.list_core.proofs.origins.origin_rows.Given as goal

-- the rows so far and those of what is left are all
abbrev pub invariant-loop-kept : goal.invariant-loop-kept
invariant-loop-kept l =
    l.rows.items ++ flat_map origins_of (map (λ k. k.now) (drop l.kept-index l.answers))
    ≡ flat_map origins_of (map (λ k. k.now) l.answers)
