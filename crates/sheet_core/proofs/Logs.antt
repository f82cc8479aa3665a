-- Tables of rows that are numbered without gaps: their entries are the rows, in order.
use Rattle.std.proofs.Common.{◌≡◌, ℕ, suc, zero, ◌+◌, ◌<◌, ◌≤◌, List, [], ◌∷◌, ◌++◌, map, length, take, drop}
use Rattle.std.proofs.Common.{cond, get_or, Some, None, refl, sym, ap, ◌∙◌, subst, arith}
use Rattle.std.specs.FinMap as table
use Rattle.std.specs.FinMap.Entries.{put}
use Rattle.std.specs.List.{All}
use Rattle.std.proofs.lemmas.List.{append_assoc, append-nil, map-append, length-map, length-append}
use Rattle.std.proofs.lemmas.List.{length-take, take-append-drop}
use Rattle.std.proofs.lemmas.List.Elements.{All-nil, All-cons}
use Rattle.std.specs.Cmp.{nat_cmp_is}
use Rattle.std.specs.Ordering.{is_eq, ordering_then}
use Rattle.std.specs.declared.cmp.Ordering.TheVariants.{Equal, Greater}
use Rattle.sheet_core.specs.Filled.{filled, filled_onto}
use Rattle.sheet_core.specs.Log.{AreNumbered}
use Rattle.sheet_core.specs.Sheet.{Table, key_cmp}
use Rattle.sheet_core.proofs.Ends.{IsPast, put-last}
use Rattle.sheet_core.proofs.Entries.{find_in}
use Rattle.sheet_core.proofs.Keys.{keys_total}
use Rattle.sheet_core.proofs.Totals.{entries-empty}

-- a number above another, as keys
pub above : (n m : ℕ) → m < n → key_cmp (n ∷ []) (m ∷ []) ≡ Greater
above n m lt = ap (λ o. ordering_then o Equal) (sym (nat_cmp_is n m Greater lt))

module _ {X : Type 0} (key_of : X → List ℕ) where
  -- rows under their keys
  abbrev pub under_keys : List X → List (List ℕ × X)
  under_keys xs = map (λ x. (key_of x, x)) xs

  values-under : (xs : List X) → map (λ (e : List ℕ × X). e.1) (under_keys xs) ≡ xs
  values-under [] = refl
  values-under (x ∷ xs) = ap (λ l. x ∷ l) (values-under xs)

  IsPast-numbered : (n k : ℕ) (xs : List X) → AreNumbered key_of k xs → k + length xs ≤ n
      → IsPast (n ∷ []) (under_keys xs)
  IsPast-numbered n k [] run le = tt
  IsPast-numbered n k (x ∷ xs) run le =
      (ap (key_cmp (n ∷ [])) run.0 ∙ above n k (omega (arith, le)), IsPast-numbered n (k + 1) xs run.1 (omega (arith, le)))

  -- the next row may be put behind the others
  pub AreNumbered-push : (k : ℕ) (xs : List X) (x : X) → AreNumbered key_of k xs → key_of x ≡ (k + length xs) ∷ []
      → AreNumbered key_of k (xs ++ x ∷ [])
  AreNumbered-push k [] x run is = (is ∙ ap (λ n. n ∷ []) (omega arith), tt)
  AreNumbered-push k (y ∷ xs) x run is =
      (run.0, AreNumbered-push (k + 1) xs x run.1 (is ∙ ap (λ n. n ∷ []) (omega arith)))

  pub AreNumbered-take : (k n : ℕ) (xs : List X) → AreNumbered key_of k xs → AreNumbered key_of k (take n xs)
  AreNumbered-take k zero xs run = tt
  AreNumbered-take k (suc n) [] run = tt
  AreNumbered-take k (suc n) (x ∷ xs) run = (run.0, AreNumbered-take (k + 1) n xs run.1)

  pub AreNumbered-drop : (k n : ℕ) (xs : List X) → AreNumbered key_of k xs → AreNumbered key_of (k + n) (drop n xs)
  AreNumbered-drop k zero xs run = subst (λ m. AreNumbered key_of m xs) (omega arith) run
  AreNumbered-drop k (suc n) [] run = tt
  AreNumbered-drop k (suc n) (x ∷ xs) run =
      subst (λ m. AreNumbered key_of m (drop n xs)) (omega arith) (AreNumbered-drop (k + 1) n xs run.1)

  -- the row at a place has the number of that place
  pub number_at : (k : ℕ) (xs : List X) (i : ℕ) (d : X) → AreNumbered key_of k xs → i < length xs
      → key_of (get_or xs i d) ≡ (k + i) ∷ []
  number_at k [] i d run lt = absurd (omega (arith, lt))
  number_at k (x ∷ xs) zero d run lt = run.0 ∙ ap (λ n. n ∷ []) (omega arith)
  number_at k (x ∷ xs) (suc i) d run lt =
      number_at (k + 1) xs i d run.1 (omega (arith, lt)) ∙ ap (λ n. n ∷ []) (omega arith)

  -- rows that are put one after another
  filled_onto-append : (t : Table X) (xs ys : List X)
      → filled_onto key_of t (xs ++ ys) ≡ filled_onto key_of (filled_onto key_of t xs) ys
  filled_onto-append t [] ys = refl
  filled_onto-append t (x ∷ xs) ys = filled_onto-append (table.insert t (key_of x) x) xs ys

  entries-onto : (t : Table X) (done left : List X) → table.entries t ≡ under_keys done → AreNumbered key_of 1 done
      → AreNumbered key_of (1 + length done) left
      → table.entries (filled_onto key_of t left) ≡ under_keys (done ++ left)
  entries-onto t done [] is run more = is ∙ ap under_keys (sym (append-nil done))
  entries-onto t done (x ∷ xs) is run more =
      let past : IsPast (key_of x) (under_keys done) =
      subst (λ k. IsPast k (under_keys done)) (sym more.0)
      (IsPast-numbered (1 + length done) 1 done run (omega arith)) in
      let next : table.entries (table.insert t (key_of x) x) ≡ under_keys (done ++ x ∷ []) =
      table.entries-insert keys_total t (key_of x) x
      ∙ ap (put key_cmp (key_of x) x) is
      ∙ put-last (key_of x) x (under_keys done) past
      ∙ sym (map-append (λ (y : X). (key_of y, y)) done (x ∷ [])) in
      entries-onto (table.insert t (key_of x) x) (done ++ x ∷ []) xs next
      (AreNumbered-push 1 done x run more.0)
      (subst (λ n. AreNumbered key_of n xs) (omega (arith, length-append done (x ∷ []))) more.1)
      ∙ ap under_keys (append_assoc done (x ∷ []) xs)

  find-past : (k : List ℕ) (es : List (List ℕ × X)) → IsPast k es → find_in k es ≡ None
  find-past k [] past = refl
  find-past k (e ∷ es) past = ap (λ o. cond (is_eq o) (Some e.1) (find_in k es)) past.0 ∙ find-past k es past.1

  module _ (xs : List X) (run : AreNumbered key_of 1 xs) where
    pub entries-filled : table.entries (filled key_of xs) ≡ under_keys xs
    entries-filled = entries-onto table.empty [] xs entries-empty tt run

    -- the rows of the table, in order of key, are these
    pub values-filled : table.values (filled key_of xs) ≡ xs
    values-filled = ap (map (λ (e : List ℕ × X). e.1)) entries-filled ∙ values-under xs

    pub len-filled : table.len (filled key_of xs) ≡ length xs
    len-filled =
        table.len-entries (filled key_of xs) ∙ ap length entries-filled ∙ length-map xs (λ x. (key_of x, x))

    -- no row has a number past them
    get-past : (n : ℕ) → length xs < n → table.get (filled key_of xs) (n ∷ []) ≡ None
    get-past n lt =
        table.get-entries (filled key_of xs) (n ∷ [])
        ∙ ap (find_in (n ∷ [])) entries-filled
        ∙ find-past (n ∷ []) (under_keys xs) (IsPast-numbered n 1 xs run (omega (arith, lt)))

  -- one more row
  pub filled-push : (xs : List X) (x : X) → filled key_of (xs ++ x ∷ []) ≡ table.insert (filled key_of xs) (key_of x) x
  filled-push xs x = filled_onto-append table.empty xs (x ∷ [])

  -- the next row of a table that they are
  pub AreNumbered-next : (xs : List X) (x : X) (t : Table X) → AreNumbered key_of 1 xs → filled key_of xs ≡ t
      → key_of x ≡ (table.len t + 1) ∷ [] → AreNumbered key_of 1 (xs ++ x ∷ [])
  AreNumbered-next xs x t run same next =
      let len = ap (λ u. table.len u) (sym same) ∙ len-filled xs run in
      AreNumbered-push 1 xs x run (next ∙ ap (λ n. n ∷ []) (omega (arith, len)))

  none-there : (t : Table X) (m : ℕ) (ys : List X) → AreNumbered key_of m ys
      → ((n : ℕ) → m ≤ n → table.get t (n ∷ []) ≡ None) → All (λ y. table.get t (key_of y) ≡ None) ys
  none-there t m [] run none = All-nil (λ y. table.get t (key_of y) ≡ None)
  none-there t m (y ∷ ys) run none =
      All-cons (λ y. table.get t (key_of y) ≡ None) y ys (ap (table.get t) run.0 ∙ none m (omega arith))
      (none-there t (m + 1) ys run.1 (λ n le. none n (omega (arith, le))))

  -- the rows of a log, and so many of them at the front
  module _ (xs : List X) (n : ℕ) where
    -- those behind are put onto those at the front
    pub filled-behind : filled key_of xs ≡ filled_onto key_of (filled key_of (take n xs)) (drop n xs)
    filled-behind =
        ap (filled key_of) (sym (take-append-drop n xs)) ∙ filled_onto-append table.empty (take n xs) (drop n xs)

    module _ (run : AreNumbered key_of 1 xs) where
      pub values-behind : table.values (filled key_of xs) ≡ table.values (filled key_of (take n xs)) ++ drop n xs
      values-behind =
          values-filled xs run
          ∙ sym (take-append-drop n xs)
          ∙ ap (λ l. l ++ drop n xs) (sym (values-filled (take n xs) (AreNumbered-take 1 n xs run)))

      -- they stand under other numbers
      pub fresh-behind : All (λ x. table.get (filled key_of (take n xs)) (key_of x) ≡ None) (drop n xs)
      fresh-behind =
          none-there (filled key_of (take n xs)) (1 + n) (drop n xs) (AreNumbered-drop 1 n xs run) (λ m le.
          get-past (take n xs) (AreNumbered-take 1 n xs run) m (omega (arith, le, length-take n xs)))
