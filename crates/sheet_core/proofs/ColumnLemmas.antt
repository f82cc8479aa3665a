-- What is read from columns stands in them.
use Rattle.std.proofs.Common.{◌≡◌, ℕ, zero, suc, ◌<◌, ◌≤◌, ◌/◌, ◌%◌, Bool, true, false, cond, List}
use Rattle.std.proofs.Common.{[], ◌∷◌, length, Option, Some, None, refl, sym, ap, ◌∙◌, arith}
use Rattle.std.specs.Prelude.{slice_get, ◌==◌, ◌&&◌, if◌then◌else◌}
use Rattle.std.specs.List.{find}
use Rattle.std.proofs.lemmas.Bool.{eqb-true, eqb-false}
use Rattle.sheet_core.specs.declared.column.Column.{Column}
use Rattle.sheet_core.specs.declared.column.Column.TheVariants.{Whole, Text, Absent}
use Rattle.sheet_core.specs.Columns.{◌>>=◌, must, has, is_bit, fitting_or_none, number_at}
use Rattle.sheet_core.specs.Columns.{text_at, text_or_none_at, number_or_none_at, yes_at}
use Rattle.sheet_core.specs.Columns.{yes_of, yes_number, whole_of, whole_or_none_of, words_of}
use Rattle.sheet_core.specs.Columns.{words_or_none_of, fitting, number_or_absent, text_or_absent}

-- what a step found, and what was found after it
pub bound : {A B : Type 0} (o : Option A) (f : A → Option B) (y : B) → (o >>= f) ≡ Some y
    → (x : A) × (o ≡ Some x) × (f x ≡ Some y)
bound None f y e = cc
bound (Some x) f y e = (x, refl, e)

-- the row that was found, in place of the one that is asked about
pub found : {R C : Type 0} (columns : R → C) (one row : R) → Some one ≡ Some row → columns row ≡ columns one
found {R} {C} columns one row e = ap (λ (o : Option R). of o) (sym e)
  where
    of : Option R → C
    of None = columns one
    of (Some x) = columns x

pub has-is : (n : ℕ) (cs : List Column) (u : Unit {0}) → has n cs ≡ Some u → length cs ≡ n
has-is n cs u = held (length cs == n) refl
  where
    held : (b : Bool) → (length cs == n) ≡ b → must b ≡ Some u → length cs ≡ n
    held true p e = eqb-true (length cs) n p
    held false p e = cc

whole-is : (c : Option Column) (n : ℕ) → whole_of c ≡ Some n → c ≡ Some (Whole n)
whole-is None n e = cc
whole-is (Some (Whole m)) n e = found (λ (k : ℕ). Some (Whole k)) n m (sym e)
whole-is (Some (Text t)) n e = cc
whole-is (Some Absent) n e = cc

whole_or_none-is : (c : Option Column) (v : Option ℕ) → whole_or_none_of c ≡ Some v → c ≡ Some (number_or_absent v)
whole_or_none-is None v e = cc
whole_or_none-is (Some (Whole m)) v e = found (λ (k : Option ℕ). Some (number_or_absent k)) v (Some m) (sym e)
whole_or_none-is (Some (Text t)) v e = cc
whole_or_none-is (Some Absent) v e = found (λ (k : Option ℕ). Some (number_or_absent k)) v None (sym e)

words-is : (c : Option Column) (t : List ℕ) → words_of c ≡ Some t → c ≡ Some (Text t)
words-is None t e = cc
words-is (Some (Whole m)) t e = cc
words-is (Some (Text u)) t e = found (λ (k : List ℕ). Some (Text k)) t u (sym e)
words-is (Some Absent) t e = cc

words_or_none-is : (c : Option Column) (v : Option (List ℕ)) → words_or_none_of c ≡ Some v → c ≡ Some (text_or_absent v)
words_or_none-is None v e = cc
words_or_none-is (Some (Whole m)) v e = cc
words_or_none-is (Some (Text u)) v e = found (λ (k : Option (List ℕ)). Some (text_or_absent k)) v (Some u) (sym e)
words_or_none-is (Some Absent) v e = found (λ (k : Option (List ℕ)). Some (text_or_absent k)) v None (sym e)

pub fitting-is : (test : List ℕ → Bool) (t u : List ℕ) → fitting test t ≡ Some u → t ≡ u
fitting-is test t u = kept (test t)
  where
    kept : (b : Bool) → cond b (Some t) None ≡ Some u → t ≡ u
    kept true e = found (λ (k : List ℕ). k) u t (sym e)
    kept false e = cc

-- the code of what is found by its code is that code
pub code-found : {X : Type 0} (code : X → ℕ) (n : ℕ) (xs : List X) (x : X) → find (λ y. code y == n) xs ≡ Some x
    → n ≡ code x
code-found code n [] x e = cc
code-found code n (y ∷ ys) x e = told (code y == n) refl (λ later. code-found code n ys x later) e
  where
    told : (b : Bool) → (code y == n) ≡ b → (find (λ y. code y == n) ys ≡ Some x → n ≡ code x)
        → (if b then Some y else find (λ y. code y == n) ys) ≡ Some x → n ≡ code x
    told true p rest e = sym (eqb-true (code y) n p) ∙ sym (found code y x e)
    told false p rest e = rest e

pub fitting_or_none-is : (test : List ℕ → Bool) (t u : Option (List ℕ)) → fitting_or_none test t ≡ Some u → t ≡ u
fitting_or_none-is test None u e = found (λ (k : Option (List ℕ)). k) u None (sym e)
fitting_or_none-is test (Some t) u e = kept (test t) e
  where
    kept : (b : Bool) → cond b (Some (Some t)) None ≡ Some u → Some t ≡ u
    kept true e = found (λ (k : Option (List ℕ)). k) u (Some t) (sym e)
    kept false e = cc

module _ (i : ℕ) (cs : List Column) where
  pub number_at-is : (n : ℕ) → number_at i cs ≡ Some n → slice_get cs i ≡ Some (Whole n)
  number_at-is n e = whole-is (slice_get cs i) n e

  pub number_or_none_at-is : (v : Option ℕ) → number_or_none_at i cs ≡ Some v
      → slice_get cs i ≡ Some (number_or_absent v)
  number_or_none_at-is v e = whole_or_none-is (slice_get cs i) v e

  pub text_at-is : (t : List ℕ) → text_at i cs ≡ Some t → slice_get cs i ≡ Some (Text t)
  text_at-is t e = words-is (slice_get cs i) t e

  pub text_or_none_at-is : (v : Option (List ℕ)) → text_or_none_at i cs ≡ Some v
      → slice_get cs i ≡ Some (text_or_absent v)
  text_or_none_at-is v e = words_or_none-is (slice_get cs i) v e

  pub yes_at-is : (b : Bool) → yes_at i cs ≡ Some b → slice_get cs i ≡ Some (Whole (yes_number b))
  yes_at-is b e =
      let r = bound (number_at i cs) yes_of b e in
      number_at-is r.0 r.1 ∙ ap (λ (k : ℕ). Some (Whole k)) (yes-is r.0 b r.2)
    where
      yes-is : (n : ℕ) (b : Bool) → yes_of n ≡ Some b → n ≡ yes_number b
      yes-is n b = told (n == 0) refl
        where
          told_one : (c : Bool) → (n == 1) ≡ c → (if c then Some true else None) ≡ Some b → n ≡ yes_number b
          told_one true p e = eqb-true n 1 p ∙ found yes_number b true (sym e)
          told_one false p e = cc

          told : (c : Bool) → (n == 0) ≡ c → (if c then Some false else (if n == 1 then Some true else None)) ≡ Some b
              → n ≡ yes_number b
          told true p e = eqb-true n 0 p ∙ found yes_number b false (sym e)
          told false p e = told_one (n == 1) refl e

-- these stand in the columns, from that place on
abbrev pub StandFrom : ℕ → List Column → List Column → Type 0
StandFrom i cs [] = Unit {0}
StandFrom i cs (d ∷ ds) = (slice_get cs i ≡ Some d) × StandFrom (suc i) cs ds

later : (i : ℕ) (c : Column) (cs ds : List Column) → StandFrom (suc i) (c ∷ cs) ds → StandFrom i cs ds
later i c cs [] s = tt
later i c cs (d ∷ ds) s = (s.0, later (suc i) c cs ds s.1)

-- columns are the list of what stands in them
pub same_columns : (cs ds : List Column) → length cs ≡ length ds → StandFrom 0 cs ds → ds ≡ cs
same_columns [] [] e s = refl
same_columns [] (d ∷ ds) e s = cc
same_columns (c ∷ cs) [] e s = absurd (omega arith)
same_columns (c ∷ cs) (d ∷ ds) e s =
    let rest = same_columns cs ds (omega arith) (later 0 c cs ds s.1) in
    found (λ (k : Column). k ∷ ds) c d s.0 ∙ ap (λ l. c ∷ l) rest

-- ---- what is written is read

pub yes_of-number : (b : Bool) → yes_of (yes_number b) ≡ Some b
yes_of-number true = refl
yes_of-number false = refl

pub absent-read : (n : Option ℕ) → whole_or_none_of (Some (number_or_absent n)) ≡ Some n
absent-read None = refl
absent-read (Some n) = refl

pub absent_text-read : (t : Option (List ℕ)) → words_or_none_of (Some (text_or_absent t)) ≡ Some t
absent_text-read None = refl
absent_text-read (Some t) = refl

pub yes-small : (b : Bool) → yes_number b ≤ 1
yes-small true = omega arith
yes-small false = omega arith

pub bit-is : (weight n : ℕ) (b : Bool) → n / weight % 2 ≡ yes_number b → is_bit weight n ≡ b
bit-is weight n b e = ap (λ (k : ℕ). k == 1) e ∙ one_is b
  where
    one_is : (b : Bool) → (yes_number b == 1) ≡ b
    one_is true = refl
    one_is false = refl

-- what holds of all numbers below one
abbrev pub holds_below : ℕ → (ℕ → Bool) → Bool
holds_below zero p = true
holds_below (suc m) p = p m && holds_below m p

both_are : (a b : Bool) → (a && b) ≡ true → (a ≡ true) × (b ≡ true)
both_are true b h = (refl, h)
both_are false b h = cc

pub below : (m : ℕ) (p : ℕ → Bool) → holds_below m p ≡ true → (n : ℕ) → n < m → p n ≡ true
below zero p h n less = absurd (omega arith)
below (suc m) p h n less =
    let both = both_are (p m) (holds_below m p) h in
    here (n == m) refl both.0 (λ lower. below m p both.1 n lower)
  where
    here : (b : Bool) → (n == m) ≡ b → p m ≡ true → (n < m → p n ≡ true) → p n ≡ true
    here true e last rest = ap p (eqb-true n m e) ∙ last
    here false e last rest = rest (omega (arith, eqb-false n m e))
