-- Allocations: what they are for, and how much of an item, for a line or for an output they add up to.
use Rattle.std.specs.Prelude.{ℕ, ◌-◌, ◌==◌, ◌&&◌, is_none, nat_lt, Bool, true, false}
use Rattle.std.specs.Prelude.{if◌then◌else◌, List, [], ◌∷◌, filter, sum_by, Option}
use Rattle.std.specs.FinMap as table
use Rattle.std.specs.List.{list_any}
use Rattle.part_core.specs.Catalogue.{is_number}
use Rattle.word_core.specs.Numbered.{is_same_number}
use Rattle.sheet_core.specs.Sheet.{Table}
use Rattle.sheet_core.specs.TableRows.{without_rows}
use Rattle.yard_core.specs.Stock.{Stock, item_at}
use Rattle.alloc_core.specs.declared.allocation.Allocation.{Allocation}
use Rattle.alloc_core.specs.declared.purpose.Owner.{Owner}
use Rattle.alloc_core.specs.declared.purpose.Owner.TheVariants as owner
use Rattle.alloc_core.specs.declared.purpose.Purpose.{Purpose}
use Rattle.alloc_core.specs.declared.purpose.Purpose.TheVariants.{Sale, Build}

abbrev pub allocation_in : ℕ → Table Allocation → Option Allocation
allocation_in n t = table.get t (n ∷ [])

-- ---- what an allocation is for

abbrev pub is_for_sale : Purpose → Bool
is_for_sale (Sale order line) = true
is_for_sale (Build build line output) = false

-- for some build
abbrev pub is_for_some_build : Purpose → Bool
is_for_some_build (Sale order line) = false
is_for_some_build (Build build line output) = true

abbrev pub is_for_order : ℕ → Purpose → Bool
is_for_order n (Sale order line) = order == n
is_for_order n (Build build line output) = false

abbrev pub is_for_sale_line : ℕ → Purpose → Bool
is_for_sale_line n (Sale order line) = line == n
is_for_sale_line n (Build build line output) = false

abbrev pub is_for_build : ℕ → Purpose → Bool
is_for_build n (Sale order line) = false
is_for_build n (Build build line output) = build == n

-- for the line of the build, whatever the output
abbrev pub is_for_build_line : ℕ → ℕ → Purpose → Bool
is_for_build_line n l (Sale order line) = false
is_for_build_line n l (Build build line output) = (build == n) && (line == l)

-- for the line of the build, and for that output, or for none
abbrev pub is_for_line : ℕ → ℕ → Option ℕ → Purpose → Bool
is_for_line n l o (Sale order line) = false
is_for_line n l o (Build build line output) = (build == n) && (line == l) && is_same_number output o

abbrev pub is_for_output : ℕ → Purpose → Bool
is_for_output n (Sale order line) = false
is_for_output n (Build build line output) = is_number n output

-- the allocation is the owner's
abbrev pub is_owned : Owner → Allocation → Bool
is_owned (owner.Order n) a = is_for_order n a.purpose
is_owned (owner.Build n) a = is_for_build n a.purpose
is_owned (owner.Output n) a = is_for_output n a.purpose

-- the allocation is of the item
abbrev pub is_of_item : ℕ → Allocation → Bool
is_of_item n a = a.item == n

-- ---- sums

-- what an allocation adds to a sum over those that pass
abbrev pub amount_where : (Allocation → Bool) → Allocation → ℕ
amount_where test a = if test a then a.quantity else 0

-- what the allocations that pass add up to
abbrev pub sum_where : (Allocation → Bool) → List Allocation → ℕ
sum_where test rows = sum_by (amount_where test) rows

-- how much of an item is allocated
abbrev pub allocated : ℕ → Table Allocation → ℕ
allocated n t = sum_where (is_of_item n) (table.values t)

-- how much is allocated for what passes
abbrev pub allocated_where : (Purpose → Bool) → Table Allocation → ℕ
allocated_where test t = sum_where (λ a. test a.purpose) (table.values t)

abbrev pub allocated_for_sale_line : ℕ → Table Allocation → ℕ
allocated_for_sale_line line t = allocated_where (is_for_sale_line line) t

abbrev pub allocated_for_build_line : ℕ → ℕ → Table Allocation → ℕ
allocated_for_build_line build line t = allocated_where (is_for_build_line build line) t

-- for one output, or where there is none for the line as a whole
abbrev pub allocated_for_line : ℕ → ℕ → Option ℕ → Table Allocation → ℕ
allocated_for_line build line output t = allocated_where (is_for_line build line output) t

-- what is free of an item: what it has less what is allocated of it
abbrev pub free : ℕ → Table Allocation → Stock → ℕ
free n t s = (item_at n s).quantity - allocated n t

-- ---- what is asked of items

abbrev pub is_no_allocation : ℕ → Table Allocation → Bool
is_no_allocation n t = is_none (allocation_in n t)

-- some of the item is allocated
abbrev pub has_allocations : ℕ → Table Allocation → Bool
has_allocations n t = list_any (is_of_item n) (table.values t)

-- the amount is more than what is free of the item
abbrev pub is_above_free : ℕ → ℕ → Table Allocation → Stock → Bool
is_above_free n quantity t s = nat_lt (free n t s) quantity

-- ---- whose they are

-- the owner's allocations, in order of number
abbrev pub allocations_of : Owner → Table Allocation → List Allocation
allocations_of owner t = filter (is_owned owner) (table.values t)

-- the owner's allocations go, and no other
abbrev pub released_for : Owner → Table Allocation → Table Allocation
released_for owner t = without_rows (is_owned owner) t
