-- What allocations are looked up by in an index.
use Rattle.std.specs.Prelude.{ℕ, List, [], ◌∷◌, ◌++◌, Option, Some, None, pos}
use Rattle.std.specs.Hash as fed
use Rattle.sheet_core.specs.Indexed.{index_key_of}
use Rattle.alloc_core.specs.declared.allocation.Allocation.{Allocation}
use Rattle.alloc_core.specs.declared.purpose.Purpose.{Purpose}
use Rattle.alloc_core.specs.declared.purpose.Purpose.TheVariants.{Sale, Build}

-- the index key of the item's allocations
abbrev pub item_key : ℕ → ℕ
item_key n = index_key_of (fed.isize (pos 0) ++ fed.u64 n)

abbrev pub order_key : ℕ → ℕ
order_key n = index_key_of (fed.isize (pos 1) ++ fed.u64 n)

abbrev pub sale_line_key : ℕ → ℕ
sale_line_key n = index_key_of (fed.isize (pos 2) ++ fed.u64 n)

-- the index key of the build's allocations, those for its outputs too
abbrev pub build_key : ℕ → ℕ
build_key n = index_key_of (fed.isize (pos 3) ++ fed.u64 n)

-- the index key of the output's allocations
abbrev pub output_key : ℕ → ℕ
output_key n = index_key_of (fed.isize (pos 4) ++ fed.u64 n)

-- the index key of the allocations for a line of a build, whatever the output
abbrev pub build_line_key : ℕ → ℕ → ℕ
build_line_key n l = index_key_of (fed.isize (pos 5) ++ (fed.u64 n ++ fed.u64 l))

abbrev pub output_keys : Option ℕ → List ℕ
output_keys None = []
output_keys (Some output) = output_key output ∷ []

abbrev pub purpose_keys : Purpose → List ℕ
purpose_keys (Sale order line) = order_key order ∷ sale_line_key line ∷ []
purpose_keys (Build build line output) = build_key build ∷ build_line_key build line ∷ output_keys output

abbrev pub allocation_keys : Allocation → List ℕ
allocation_keys a = item_key a.item ∷ purpose_keys a.purpose
