-- Lines of which so much more is done for one allocation after another: the whole is what `ship` says.
use Rattle.std.proofs.Common.{◌≡◌, ℕ, ◌+◌, ◌≤◌, Bool, true, false, List, [], ◌∷◌, Option}
use Rattle.std.proofs.Common.{Some, None, refl, sym, ap, ◌∙◌, subst, arith, eqb-true, eq-eqb}
use Rattle.std.specs.Prelude.{◌==◌, option_map}
use Rattle.std.specs.FinMap as table
use Rattle.word_core.specs.Quantity.{largest}
use Rattle.sheet_core.specs.Rows.{IsThere, StandRight}
use Rattle.sheet_core.specs.Sheet.{Table}
use Rattle.sheet_core.proofs.Keys.{key_eq, key_eq-same, key_eq-true, keys_exact, keys_total}
use Rattle.sheet_core.proofs.RowLemmas.{get-insert_new, get-insert_other, right-changed}
use Rattle.sheet_core.proofs.RowLemmas.{right-number, row_there, there-insert}
use Rattle.alloc_core.specs.Allocations.{is_for_sale_line, sum_where}
use Rattle.alloc_core.specs.declared.allocation.Allocation.{Allocation}
use Rattle.alloc_core.specs.declared.purpose.Purpose.TheVariants.{Sale}
use Rattle.alloc_core.proofs.Sums.{amount-in, amount-out, sum-cons}
use Rattle.sheet_core.specs.TableRows.{mapped}
use Rattle.order_core.specs.Orders.{done_more, with_done_of}
use Rattle.order_core.specs.Ship.{CanDeliver, HaveLines, deliver_each, deliver_to, delivered}
use Rattle.order_core.specs.declared.line.OrderLine.{OrderLine}
use Rattle.order_core.proofs.Kept.{line_of}
use Rattle.sheet_core.proofs.Mapped.{get-mapped}
use Rattle.order_core.proofs.NoneFor.{test_of}

have-more : (t : Table OrderLine) (n : ℕ) (l : OrderLine) (xs : List Allocation) → HaveLines t xs
    → HaveLines (table.insert t (n ∷ []) l) xs
have-more t n l [] h = tt
have-more t n l (a ∷ xs) h = ((h.0.0, h.0.1, h.0.2, there-insert t (n ∷ []) l h.0.1 h.0.3), have-more t n l xs h.1)

module _ (next line : ℕ) (t : Table OrderLine) (right : StandRight (λ l. l.number) next t) (a : Allocation)
    (xs : List Allocation) (order : ℕ) (is : a.purpose ≡ Sale order line) (there : IsThere t line) where
  abbrev old : OrderLine
  old = line_of (table.get t (line ∷ []))

  row : (l : OrderLine) × (table.get t (line ∷ []) ≡ Some l)
  row = row_there t line there

  here : old ≡ row.0
  here = ap line_of row.1

  own : row.0.number ≡ line
  own = right-number (λ (l : OrderLine). l.number) next line row.0 t right row.1

  abbrev one_more : Table OrderLine
  one_more = done_more line a.quantity t

  -- of a line, what one allocation and the others hold
  same-line : (l : OrderLine) → (l.number ≡ line)
      → delivered xs (record l { done = l.done + a.quantity }) ≡ delivered (a ∷ xs) l
  same-line l number =
      let mine : test_of l.number a ≡ true = ap (is_for_sale_line l.number) is ∙ eq-eqb line l.number (sym number) in
      let sum : l.done + a.quantity + sum_where (test_of l.number) xs ≡ l.done + sum_where (test_of l.number) (a ∷ xs) =
      omega (arith, sum-cons (test_of l.number) a xs, amount-in (test_of l.number) a mine) in
      ap (λ d. with_done_of d l) sum

  other-line : (l : OrderLine) → (line == l.number) ≡ false → delivered xs l ≡ delivered (a ∷ xs) l
  other-line l other =
      let not_mine : test_of l.number a ≡ false = ap (is_for_sale_line l.number) is ∙ other in
      let sum : l.done + sum_where (test_of l.number) xs ≡ l.done + sum_where (test_of l.number) (a ∷ xs) =
      omega (arith, sum-cons (test_of l.number) a xs, amount-out (test_of l.number) a not_mine) in
      ap (λ d. with_done_of d l) sum

  delivered-one : mapped (delivered xs) one_more ≡ mapped (delivered (a ∷ xs)) t
  delivered-one =
      table.same_map keys_total keys_exact _ _
      (λ q. get-mapped (delivered xs) one_more q
      ∙ by_key q (key_eq q (line ∷ [])) refl
      ∙ sym (get-mapped (delivered (a ∷ xs)) t q))
    where
      by_key : (q : List ℕ) (c : Bool) → key_eq q (line ∷ []) ≡ c
          → option_map (delivered xs) (table.get one_more q) ≡ option_map (delivered (a ∷ xs)) (table.get t q)
      by_key q true e =
          let same = key_eq-true q (line ∷ []) e in
          let before : table.get t q ≡ Some row.0 = ap (table.get t) same ∙ row.1 in
          let after : table.get one_more q ≡ Some (with_done_of (old.done + a.quantity) old) =
          ap (table.get one_more) same ∙ get-insert_new t (line ∷ []) (with_done_of (old.done + a.quantity) old) in
          ap (option_map (delivered xs)) after
          ∙ ap (λ l. Some l)
          (same-line old (ap (λ (l : OrderLine). l.number) here ∙ own) ∙ ap (delivered (a ∷ xs)) here)
          ∙ sym (ap (option_map (delivered (a ∷ xs))) before)
      by_key q false e = go (table.get t q) refl
        where
          unlike : (l : OrderLine) → table.get t q ≡ Some l → (line == l.number) ≡ false
          unlike l at = by_number (line == l.number) refl
            where
              by_number : (d : Bool) → (line == l.number) ≡ d → d ≡ false
              by_number false f = refl
              by_number true f =
                  let clash : true ≡ false =
                  sym
                  (key_eq-same q (line ∷ []) ((right q l at).own ∙ ap (λ m. m ∷ []) (sym (eqb-true line l.number f))))
                  ∙ e in
                  cc

          as_was : table.get one_more q ≡ table.get t q
          as_was =
              get-insert_other t (line ∷ []) (with_done_of (old.done + a.quantity) old) q
              (λ s. (let clash : true ≡ false = sym (key_eq-same q (line ∷ []) s) ∙ e in cc))

          go : (o : Option OrderLine) → table.get t q ≡ o
              → option_map (delivered xs) (table.get one_more q) ≡ option_map (delivered (a ∷ xs)) (table.get t q)
          go None at = ap (option_map (delivered xs)) (as_was ∙ at) ∙ sym (ap (option_map (delivered (a ∷ xs))) at)
          go (Some l) at =
              ap (option_map (delivered xs)) (as_was ∙ at)
              ∙ ap (λ m. Some m) (other-line l (unlike l at))
              ∙ sym (ap (option_map (delivered (a ∷ xs))) at)

  right-more : StandRight (λ l. l.number) next one_more
  right-more =
      right-changed (λ (l : OrderLine). l.number) next line (with_done_of (old.done + a.quantity) old) row.0 t row.1
      (ap (λ (l : OrderLine). l.number) here) right

-- no allocation more
pub delivered-none : (t : Table OrderLine) → t ≡ mapped (delivered []) t
delivered-none t =
    table.same_map keys_total keys_exact _ _ (λ q. sym (get-mapped (delivered []) t q ∙ same (table.get t q)))
  where
    plus_none : (l : OrderLine) → delivered [] l ≡ l
    plus_none l = let sum : l.done + 0 ≡ l.done = omega arith in ap (λ d. with_done_of d l) sum

    same : (o : Option OrderLine) → option_map (delivered []) o ≡ o
    same None = refl
    same (Some l) = ap (λ m. Some m) (plus_none l)

pub delivered-each : (next : ℕ) (xs : List Allocation) (t : Table OrderLine) → StandRight (λ l. l.number) next t
    → HaveLines t xs → deliver_each xs t ≡ mapped (delivered xs) t
delivered-each next [] t right have = delivered-none t
delivered-each next (a ∷ xs) t right have =
    let order = have.0.0 in
    let line = have.0.1 in
    let is = have.0.2 in
    let step : deliver_each (a ∷ xs) t ≡ deliver_each xs (done_more line a.quantity t) =
    ap (λ p. deliver_each xs (deliver_to p a.quantity t)) is in
    step
    ∙ delivered-each next xs (done_more line a.quantity t) (right-more next line t right a xs order is have.0.3)
    (have-more t line
    (with_done_of ((line_of (table.get t (line ∷ []))).done + a.quantity) (line_of (table.get t (line ∷ []))))
    xs have.1)
    ∙ delivered-one next line t right a xs order is have.0.3

-- ---- one after another, each has room

module _ (a : Allocation) (xs : List Allocation) (t : Table OrderLine) (can : CanDeliver (a ∷ xs) t) (order line : ℕ)
    (is : a.purpose ≡ Sale order line) where
  pub line-there : IsThere t line
  line-there =
      let same : can.have.0.1 ≡ line = line_is (sym can.have.0.2 ∙ is) in
      subst (IsThere t) same can.have.0.3
    where
      line_is : {n m k l : ℕ} → Sale n m ≡ Sale k l → m ≡ l
      line_is e = cc

  after : Table OrderLine
  after = done_more line a.quantity t

  pub left-rest : mapped (delivered xs) (done_more line a.quantity t) ≡ mapped (delivered (a ∷ xs)) t
  left-rest = delivered-one can.next line t can.right a xs order is line-there

  pub can-rest : CanDeliver xs (done_more line a.quantity t)
  can-rest = record {
    next = can.next;
    right = right-more can.next line t can.right a xs order is line-there;
    have =
        have-more t line
        (with_done_of ((line_of (table.get t (line ∷ []))).done + a.quantity) (line_of (table.get t (line ∷ []))))
        xs can.have.1;
    fits = λ k l e. can.fits k l (sym (ap (λ u. table.get u k) left-rest) ∙ e);
  }

  pub room-one : (line_of (table.get t (line ∷ []))).done + a.quantity ≤ largest
  room-one =
      let row = row_there t line line-there in
      let l = row.0 in
      let own : l.number ≡ line = right-number (λ (l : OrderLine). l.number) can.next line l t can.right row.1 in
      let now : table.get (mapped (delivered (a ∷ xs)) t) (line ∷ []) ≡ Some (delivered (a ∷ xs) l) =
      get-mapped (delivered (a ∷ xs)) t (line ∷ []) ∙ ap (option_map (delivered (a ∷ xs))) row.1 in
      let most = can.fits (line ∷ []) (delivered (a ∷ xs) l) now in
      let mine : test_of l.number a ≡ true = ap (is_for_sale_line l.number) is ∙ eq-eqb line l.number (sym own) in
      let here : (line_of (table.get t (line ∷ []))).done ≡ l.done = ap (λ o. (line_of o).done) row.1 in
      omega (arith, most, here, sum-cons (test_of l.number) a xs, amount-in (test_of l.number) a mine)
