-- The sums of the two sides, row by row.
use Rattle.std.proofs.Common.{◌≡◌, ℕ, ◌+◌, ◌<◌, Bool, true, false, ◌||◌, ◌++◌}
use Rattle.std.proofs.Common.{cond, List, [], ◌∷◌, refl, ap, sym, ◌∙◌}
use Rattle.std.proofs.Common.{arith, Option, Some, None, eqb-true, nat_cmp}
use Rattle.std.specs.Prelude.{◌==◌, nat_lt, if◌then◌else◌}
use Rattle.std.specs.List.{list_any}
use Rattle.std.specs.Map.{keys_of, lookup}
use Rattle.std.specs.BTreeMap as tree
use Rattle.std.specs.Ordering.{is_eq}
use Rattle.std.specs.declared.cmp.Ordering.TheVariants.{Less, Equal, Greater}
use Rattle.std.proofs.lemmas.Bool.{ltb-true}
use Rattle.yard_core.specs.declared.opening.shares.Total.{Total}
use Rattle.yard_core.specs.declared.opening.shares.Share.{Share}
use Rattle.yard_core.specs.Shares.{lefts, rights, total_or_none}

pub lefts-last : (p : ℕ) (ss : List Share) (s : Share)
    → lefts p (ss ++ s ∷ []) ≡ lefts p ss + (if s.part == p then s.left else 0)
lefts-last p [] s = omega arith
lefts-last p (x ∷ xs) s = omega (arith, lefts-last p xs s)

pub rights-last : (p : ℕ) (ss : List Share) (s : Share)
    → rights p (ss ++ s ∷ []) ≡ rights p ss + (if s.part == p then s.right else 0)
rights-last p [] s = omega arith
rights-last p (x ∷ xs) s = omega (arith, rights-last p xs s)

at_number : (k q : ℕ) → tree.is_at (nat_cmp k) q ≡ (k == q)
at_number k q = go (nat_lt k q) refl (k == q) refl
  where
    go : (b : Bool) → nat_lt k q ≡ b → (c : Bool) → (k == q) ≡ c → is_eq (cond b Less (cond c Equal Greater)) ≡ c
    go true t true u = absurd (omega (arith, ltb-true _ _ t, eqb-true _ _ u))
    go true t false u = refl
    go false t true u = refl
    go false t false u = refl

-- one row goes into the sums
module _ (f g : ℕ → Option Total) (ss : List Share) (s : Share) (b : Total) (x y : ℕ)
    (was : b ≡ total_or_none (f s.part)) (left : x ≡ b.left + s.left) (right : y ≡ b.right + s.right)
    (u : (q : ℕ) → g q ≡ cond (tree.is_at (nat_cmp s.part) q) (Some (record { left = x; right = y })) (f q)) where
  pub left_step : ((p : ℕ) → (total_or_none (f p)).left ≡ lefts p ss) → (p : ℕ)
      → (total_or_none (g p)).left ≡ lefts p (ss ++ s ∷ [])
  left_step h p = rw (u p, at_number s.part p) (go (s.part == p) refl) ∙ sym (lefts-last p ss s)
    where
      go : (c : Bool) → (s.part == p) ≡ c
          → (total_or_none (cond c (Some (record { left = x; right = y })) (f p))).left
          ≡ lefts p ss + (if c then s.left else 0)
      go true t =
          let at : (total_or_none (f s.part)).left ≡ (total_or_none (f p)).left =
          ap (λ q. (total_or_none (f q)).left) (eqb-true _ _ t) in
          omega (arith, at, h p, ap (λ (z : Total). z.left) was, left)
      go false t = omega (arith, h p)

  pub right_step : ((p : ℕ) → (total_or_none (f p)).right ≡ rights p ss) → (p : ℕ)
      → (total_or_none (g p)).right ≡ rights p (ss ++ s ∷ [])
  right_step h p = rw (u p, at_number s.part p) (go (s.part == p) refl) ∙ sym (rights-last p ss s)
    where
      go : (c : Bool) → (s.part == p) ≡ c
          → (total_or_none (cond c (Some (record { left = x; right = y })) (f p))).right
          ≡ rights p ss + (if c then s.right else 0)
      go true t =
          let at : (total_or_none (f s.part)).right ≡ (total_or_none (f p)).right =
          ap (λ q. (total_or_none (f q)).right) (eqb-true _ _ t) in
          omega (arith, at, h p, ap (λ (z : Total). z.right) was, right)
      go false t = omega (arith, h p)

-- a part that is none of the keys has no sums
pub absent : (p : ℕ) (es : List (ℕ × Total)) → list_any (λ k. p == k) (keys_of es) ≡ false
    → lookup (tree.is_at (nat_cmp p)) es ≡ None
absent p [] none = refl
absent p (e ∷ es) none = go (p == e.0) refl (absent p es) none
  where
    go : (b : Bool) → (p == e.0) ≡ b
        → (list_any (λ k. p == k) (keys_of es) ≡ false → lookup (tree.is_at (nat_cmp p)) es ≡ None)
        → (b || list_any (λ k. p == k) (keys_of es)) ≡ false
        → lookup (tree.is_at (nat_cmp p)) (e ∷ es) ≡ None
    go true is rest h = cc
    go false is rest h =
        ap (λ c. cond c (Some e.1) (lookup (tree.is_at (nat_cmp p)) es)) (at_number p e.0 ∙ is) ∙ rest h
