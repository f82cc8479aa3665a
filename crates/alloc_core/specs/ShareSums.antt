-- What allocations are added up for, and the sum that is kept of each.
use Rattle.std.specs.Prelude.{◌≡◌, ℕ, Bool, false, List, [], ◌∷◌, if◌then◌else◌, Option, Some, None}
use Rattle.std.specs.FinMap as table
use Rattle.std.specs.Ordering.{eq_by_cmp}
use Rattle.sheet_core.specs.Sheet.{Table, key_cmp}
use Rattle.alloc_core.specs.Allocations.{amount_where, is_for_line, is_for_sale_line, is_of_item, sum_where}
use Rattle.alloc_core.specs.declared.allocation.Allocation.{Allocation}
use Rattle.alloc_core.specs.declared.purpose.Purpose.{Purpose}
use Rattle.alloc_core.specs.declared.purpose.Purpose.TheVariants as purpose
use Rattle.alloc_core.specs.declared.share.Share.{Share}
use Rattle.alloc_core.specs.declared.share.Share.TheVariants.{Item, SaleLine, BuildLine}
use Rattle.alloc_core.specs.declared.share_sums.Sum.{Sum}

-- what is looked up where a sum stands
abbrev pub share_digits : Share → List ℕ
share_digits (Item n) = 0 ∷ n ∷ []
share_digits (SaleLine line) = 1 ∷ line ∷ []
share_digits (BuildLine build line None) = 2 ∷ build ∷ line ∷ []
share_digits (BuildLine build line (Some output)) = 2 ∷ build ∷ line ∷ output ∷ []

abbrev pub is_same_share : Share → Share → Bool
is_same_share a b = eq_by_cmp key_cmp (share_digits a) (share_digits b)

-- whether an allocation counts in the share
abbrev pub counts_in : Share → Allocation → Bool
counts_in (Item n) = is_of_item n
counts_in (SaleLine line) = λ a. is_for_sale_line line a.purpose
counts_in (BuildLine build line output) = λ a. is_for_line build line output a.purpose

-- what an allocation, or none, adds to the share
abbrev pub counted_in : Share → Option Allocation → ℕ
counted_in share None = 0
counted_in share (Some a) = amount_where (counts_in share) a

-- what an allocation is for, as a share
abbrev pub share_of : Purpose → Share
share_of (purpose.Sale order line) = SaleLine line
share_of (purpose.Build build line output) = BuildLine build line output

-- what the allocations that count in the share add up to
abbrev pub share_in : Share → Table Allocation → ℕ
share_in share t = sum_where (counts_in share) (table.values t)

-- ---- the sums that are kept

abbrev pub amount_of : Option Sum → ℕ
amount_of None = 0
amount_of (Some sum) = sum.amount

-- the sum that is kept for a share: none is 0
abbrev pub sum_at : Share → Table Sum → ℕ
sum_at share sums = amount_of (table.get sums (share_digits share))

-- what an amount for a share adds to the sum of another
abbrev pub adds_to : Share → ℕ → Share → ℕ
adds_to share amount other = if is_same_share other share then amount else 0

-- what is kept is what the allocations add up to
abbrev pub AreSums : Table Allocation → Table Sum → Type 0
AreSums t sums = (share : Share) → sum_at share sums ≡ share_in share t

-- it is so unless the sums are stale
abbrev pub AreKept : Bool → Table Allocation → Table Sum → Type 0
AreKept stale t sums = stale ≡ false → AreSums t sums
