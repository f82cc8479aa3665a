-- What is written of the books is their object; and the entries from a number on are the last ones, since entries are
-- numbered from 1 without gaps.
use Rattle.std.proofs.Common.{◌≡◌, ◌∙◌, ℕ, suc, zero, ◌+◌, ◌-◌, ◌≤◌, ◌<◌, List, [], ◌∷◌, ◌++◌, length, take, drop, min, filter}
use Rattle.std.proofs.Common.{Bool, true, false, cond, nat_le, ap, sym, refl, arith, inl, inr}
use Rattle.std.specs.Prelude.{Result, Ok, Err, OnOk}
use Rattle.std.proofs.lemmas.Bool.{cases_lt, le-leb, lt-leb}
use Rattle.std.proofs.lemmas.List.{append_assoc, drop_min, take_min, take_all, length-drop}
use Rattle.json.specs.Print.{print}
use Rattle.json.specs.Token.{Token, begin_object, end_object, key}
use Rattle.json.specs.Tree.{json_tokens, members_tokens}
use Rattle.serde_json.specs.Data.{Data, object, Members, member}
use Rattle.serde_json.specs.Written.{outline, members_outline}
use Rattle.serde_json.proofs.Texts.{print-outline}
use Rattle.sheet_core.specs.Log.{AreNumbered}
use Rattle.forest.specs.declared.entry.Entry.{Entry}
use Rattle.desk_store.specs.Shown.{line_of_data}

pub ok-then : {A E : Type 0} {P Q : Type 0} (r : Result A E) → OnOk r P → (P → Q) → OnOk r Q
ok-then (Ok x) h f = f h
ok-then (Err e) h f = tt

-- an object that is written one part after another: its first member, and the others with its end
pub object_written : (old begun named first most all : List Token) (k : List ℕ) (d : Data) (ms : Members)
    → begun ≡ old ++ begin_object ∷ [] → named ≡ begun ++ key k ∷ [] → first ≡ named ++ json_tokens (outline d)
    → most ++ end_object ∷ [] ≡ first ++ members_tokens (members_outline ms) → all ≡ most ++ end_object ∷ []
    → all ≡ old ++ json_tokens (outline (object (member k d ms)))
object_written old begun named first most all k d ms begins names says rest ends =
    let others = members_tokens (members_outline ms) in
    let so_far : first ≡ ((old ++ begin_object ∷ []) ++ key k ∷ []) ++ json_tokens (outline d) =
    says ∙ ap (λ ts. ts ++ json_tokens (outline d)) (names ∙ ap (λ ts. ts ++ key k ∷ []) begins) in
    ends ∙ rest ∙ ap (λ ts. ts ++ others) so_far ∙ simp append_assoc

-- the text of what a writer wrote from the beginning on, with an LF
pub line_written : (none tokens : List Token) (d : Data) → none ≡ [] → tokens ≡ none ++ json_tokens (outline d)
    → print tokens ++ 10 ∷ [] ≡ line_of_data d
line_written none tokens d empty all =
    let from_none = all ∙ ap (λ ts. ts ++ json_tokens (outline d)) empty in
    ap (λ text. text ++ 10 ∷ []) (ap print from_none ∙ print-outline d)

module _ (from : ℕ) where
  abbrev later : List Entry → List Entry
  later = filter (λ e. nat_le from e.number)

  first_is : (n m : ℕ) → n ∷ [] ≡ m ∷ [] → n ≡ m
  first_is n m e = cc

  drop_none : (k : ℕ) (xs : List Entry) → xs ≡ [] → drop k xs ≡ []
  drop_none zero xs e = e
  drop_none (suc k) xs e = ap (drop (suc k)) e

  -- those numbered from n on, without those before the number
  from_number : (n : ℕ) (xs : List Entry) → AreNumbered (λ (e : Entry). e.number ∷ []) n xs
      → later xs ≡ drop (from - n) xs
  from_number n [] run = sym (drop_none (from - n) [] refl)
  from_number n (x ∷ xs) run =
      let is : x.number ≡ n = first_is x.number n run.0 in
      let rest : later xs ≡ drop (from - (n + 1)) xs = from_number (n + 1) xs run.1 in
      elim (cases_lt n from) [
        | inl lt ↦
            let test : nat_le from x.number ≡ false = ap (nat_le from) is ∙ lt-leb from n lt in
            let more : from - n ≡ suc (from - (n + 1)) = omega (arith, lt) in
            ap (λ b. cond b (x ∷ later xs) (later xs)) test ∙ rest ∙ ap (λ k. drop k (x ∷ xs)) (sym more)
        | inr le ↦
            let test : nat_le from x.number ≡ true = ap (nat_le from) is ∙ le-leb from n le in
            let none : from - n ≡ 0 = omega (arith, le) in
            let still : from - (n + 1) ≡ 0 = omega (arith, le) in
            ap (λ b. cond b (x ∷ later xs) (later xs)) test
            ∙ ap (λ l. x ∷ l) (rest ∙ ap (λ k. drop k xs) still)
            ∙ ap (λ k. drop k (x ∷ xs)) (sym none)
      ]

  pub entries_told : (xs : List Entry) (before count most : ℕ) → AreNumbered (λ (e : Entry). e.number ∷ []) 1 xs
      → before ≡ min (from - 1) (length xs)
      → count ≡ min (length (take (length xs - before) (drop before xs))) most
      → take count (take (length xs - before) (drop before xs)) ≡ take most (later xs)
  entries_told xs before count most run begin end =
      let left = drop before xs in
      let all : take (length xs - before) left ≡ left =
      take_all (length xs - before) left (omega (arith, length-drop before xs)) in
      let same : left ≡ later xs =
      ap (λ k. drop k xs) begin ∙ drop_min (from - 1) xs ∙ sym (from_number 1 xs run) in
      let swapped : count ≡ min most (length left) = omega (arith, end, ap length all) in
      ap (take count) all ∙ ap (λ k. take k left) swapped ∙ take_min most left ∙ ap (take most) same
