-- Which numbers are filed under an index key, and which filings are to be looked at again.
use Rattle.std.specs.Prelude.{◌≡◌, ◌==◌, ◌&&◌, ◌<◌, ◌^◌, ℕ, Bool, true, false, List}
use Rattle.std.specs.Prelude.{[], ◌∷◌, map, filter, length, Option, Some, None, nat_lt}
use Rattle.std.specs.List.{list_any}
use Rattle.std.specs.List.Sorted.{IsStrictlySortedBy}
use Rattle.std.specs.Ordering.{nat_cmp}
use Rattle.std.specs.FinMap as table
use Rattle.sheet_core.specs.declared.index.Filing.{Filing}
use Rattle.sheet_core.specs.Indexed.{is_index_key}
use Rattle.sheet_core.specs.Sheet.{Rows, Table}
use Rattle.sheet_core.specs.Slots.{with_row}

-- whether the number is filed under the key
abbrev pub is_filed : ℕ → ℕ → List Filing → Bool
is_filed key number fs = list_any (λ f. (f.key == key) && (f.number == number)) fs

-- what is filed under the key, with a number of 64 bits
abbrev pub filed_under : ℕ → List Filing → List Filing
filed_under key fs = filter (λ f. (f.key == key) && nat_lt f.number (2 ^ 64)) fs

-- the numbers that these are of
abbrev pub numbers_of : List Filing → List ℕ
numbers_of fs = map (λ f. f.number) fs

-- the numbers rise
abbrev pub Rise : List ℕ → Type 0
Rise ns = IsStrictlySortedBy nat_cmp ns

-- more is filed and more is logged, and what is filed anew is logged
pub record IsGrown (filings touched more log : List Filing) : Type 0 where
  pub filed : (key number : ℕ) → is_filed key number filings ≡ true → is_filed key number more ≡ true
  pub logged : (key number : ℕ) → is_filed key number touched ≡ true → is_filed key number log ≡ true
  pub new : (key number : ℕ) → is_filed key number more ≡ true → is_filed key number log ≡ false
      → is_filed key number filings ≡ true

module _ {X : Type 0} where
  -- the rows of these numbers, each under its own
  abbrev pub rows_at : Table X → List ℕ → List (List ℕ × X)
  rows_at t [] = []
  rows_at t (n ∷ ns) = with_row (n ∷ []) (table.get t (n ∷ [])) (rows_at t ns)

  module _ (keys : X → List ℕ) where
    -- whether there is a row, and it has the key
    abbrev pub has_key : ℕ → Option X → Bool
    has_key key None = false
    has_key key (Some x) = is_index_key key (keys x)

    -- each key of the row of that number is filed with the number
    abbrev pub IsFiled : List Filing → ℕ → Option X → Type 0
    IsFiled filings number row = (key : ℕ) → has_key key row ≡ true → is_filed key number filings ≡ true

    -- so it is of each row
    abbrev pub AreFiled : List Filing → Table X → Type 0
    AreFiled filings t = (number : ℕ) → IsFiled filings number (table.get t (number ∷ []))

    -- the keys of the rows are filed, and nothing else is
    abbrev pub IsExact : List Filing → Table X → Type 0
    IsExact filings t = (key number : ℕ) → is_filed key number filings ≡ has_key key (table.get t (number ∷ []))

    module _ (key_of : X → List ℕ) where
      -- a row stands under its own number, and its keys can be counted
      pub record StandsOwn (k : List ℕ) (x : X) : Type 0 where
        pub number : ℕ
        pub own : key_of x ≡ number ∷ []
        pub under : k ≡ number ∷ []
        pub fits : number < 2 ^ 64
        pub few : length (keys x) < 2 ^ 64

      -- each row does
      abbrev pub StandOwn : Table X → Type 0
      StandOwn t = (k : List ℕ) (x : X) → table.get t k ≡ Some x → StandsOwn k x

      -- each key of each row, as the rows are and as they were before, is filed with the row's number; and what is
      -- filed is so of a row that has the key now and had it then, unless it is to be looked at again
      pub record IsIndex (s : Rows X) (filings touched : List Filing) : Type 0 where
        pub own : StandOwn s.rows
        pub own_before : StandOwn s.before
        pub complete : AreFiled filings s.rows
        pub complete_before : AreFiled filings s.before
        pub exact : (key number : ℕ) → is_filed key number filings ≡ true → is_filed key number touched ≡ false
            → (has_key key (table.get s.rows (number ∷ [])) ≡ true)
            × (has_key key (table.get s.before (number ∷ [])) ≡ true)
