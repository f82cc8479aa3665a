-- Rows that are found by what stands in them: under the keys of an index.
use Rattle.std.specs.Prelude.{◌≡◌, ℕ, zero, suc, ◌+◌, ◌/◌, ◌%◌, Bool, true, ◌==◌, cond, List, [], ◌∷◌, fold, map}
use Rattle.std.specs.List.{list_any}
use Rattle.std.specs.Hash.DefaultHasher as sip
use Rattle.sheet_core.specs.declared.seed.Seed.{Seed}

-- ---- a number that a list of numbers has alone

-- x before a list of the number m has 2 ^ x * (2 * m + 1)
unfoldable pub number_before : ℕ → ℕ → ℕ
number_before zero m = suc (m + m)
number_before (suc x) m = number_before x m + number_before x m

unfoldable pub number_of : List ℕ → ℕ
number_of [] = 0
number_of (x ∷ xs) = number_before x (number_of xs)

-- the first one more
abbrev pub raised : List ℕ → List ℕ
raised [] = []
raised (x ∷ xs) = suc x ∷ xs

-- the list of the number, found in so many steps
unfoldable pub list_in : ℕ → ℕ → List ℕ
list_in zero n = []
list_in (suc d) n = cond (n == 0) [] (cond (n % 2 == 0) (raised (list_in d (n / 2))) (0 ∷ list_in d (n / 2)))

abbrev pub list_of : ℕ → List ℕ
list_of n = list_in n n

-- ---- index keys

-- the index key of what is fed to a hasher so, which nothing else has
unfoldable pub index_key_of : List (List ℕ) → ℕ
index_key_of fed = number_of (map number_of fed)

-- what is fed where the index key is that
unfoldable pub fed_by : ℕ → List (List ℕ)
fed_by key = map list_of (list_of key)

-- the hash that what has the index key is filed by
abbrev pub hash_of : Seed → ℕ → ℕ
hash_of seed key = sip.finish (fold sip.write seed.begun (fed_by key))

-- the hashes of a row's index keys
abbrev pub hashed : {X : Type 0} → Seed → (X → List ℕ) → X → List ℕ
hashed seed keys x = map (hash_of seed) (keys x)

-- whether the key is among these
abbrev pub is_index_key : ℕ → List ℕ → Bool
is_index_key key keys = list_any (λ other. other == key) keys

-- whatever passes the test has the key
abbrev pub IsFiledUnder : {X : Type 0} → (X → List ℕ) → ℕ → (X → Bool) → Type 0
IsFiledUnder {X} keys key p = (x : X) → p x ≡ true → is_index_key key (keys x) ≡ true
