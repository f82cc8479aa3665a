-- An order that is issued, closed or cancelled leaves orders, allocations and stock sound.
use Rattle.std.proofs.Common.{◌≡◌, inl, inr, ℕ, ◌+◌, ◌<◌, ◌≤◌, Bool, true, false, List, [], ◌∷◌, Option}
use Rattle.std.proofs.Common.{Some, None, refl, sym, ap, ◌∙◌, subst, arith, eqb-true, eq-eqb}
use Rattle.std.specs.Prelude.{◌==◌, ◌&&◌, nat_lt}
use Rattle.std.specs.FinMap as table
use Rattle.std.specs.List.{list_any}
use Rattle.std.proofs.lemmas.Bool.{eqb-false, lt-ltb}
use Rattle.part_core.specs.Catalogue.{Parts}
use Rattle.word_core.specs.Checks.{first}
use Rattle.sheet_core.specs.Rows.{IsThere}
use Rattle.sheet_core.specs.Sheet.{Table}
use Rattle.word_core.specs.declared.refusal.Refusal.TheVariants.{NoSuch, WrongState, Short}
use Rattle.sheet_core.proofs.Conditions.{and_both, not_false, or_none}
use Rattle.word_core.proofs.CheckLemmas.{none-holds}
use Rattle.sheet_core.proofs.RowLemmas.{get-insert_other, right-changed, right-number}
use Rattle.sheet_core.proofs.RowLemmas.{row_there, same_digit, there-insert}
use Rattle.sheet_core.proofs.Standing.{Stands, get-Stands}
use Rattle.alloc_core.specs.Allocations.{allocated_for_sale_line, is_for_order}
use Rattle.alloc_core.specs.Allocations.{is_for_sale_line, is_owned, released_for, sum_where}
use Rattle.alloc_core.specs.declared.allocation.Allocation.{Allocation}
use Rattle.alloc_core.specs.declared.purpose.Owner.TheVariants as owner
use Rattle.alloc_core.specs.declared.purpose.Purpose.{Purpose}
use Rattle.alloc_core.specs.declared.purpose.Purpose.TheVariants.{Sale}
use Rattle.alloc_core.proofs.Sound.{sound-released}
use Rattle.alloc_core.proofs.Sums.{sum-split}
use Rattle.sheet_core.proofs.TableRows.{get-without, values-without}
use Rattle.stock_core.specs.Sound.{IsSoundStock, OwnersStay}
use Rattle.stock_core.specs.StockMachine.{Grows}
use Rattle.stock_core.proofs.Checked.{there-row}
use Rattle.stock_core.proofs.Owned.{sound-owned}
use Rattle.stock_core.proofs.Upright.{grows-none}
use Rattle.order_core.specs.CancelOrder.{cancel_order, cancel_order_checks}
use Rattle.order_core.specs.CloseOrder.{close_order, close_order_checks, is_missing}
use Rattle.order_core.specs.IssueOrder.{issue_order, issue_order_checks}
use Rattle.order_core.specs.Orders.{OrderBooks, is_in_progress, is_pending, line_at}
use Rattle.order_core.specs.Orders.{no_order, order_at, owners_beside, with_state}
use Rattle.order_core.specs.Sound.{AreSoundBooks, AreSoundOrders, IsSoundPurpose}
use Rattle.order_core.specs.declared.line.OrderLine.{OrderLine}
use Rattle.order_core.specs.declared.order.Order.{Order}
use Rattle.order_core.specs.declared.state.OrderState.{OrderState}
use Rattle.order_core.specs.declared.state.OrderState.TheVariants.{Pending, InProgress, Complete, Cancelled}
use Rattle.order_core.proofs.Kept.{line_of, lines-same, purpose-kept}
use Rattle.order_core.proofs.NoneFor.{some-for}
use Rattle.std.specs.Prelude.{unwrap_or}

abbrev pub order_of : Option Order → Order
order_of o = unwrap_or o no_order

-- no order goes where one is put
pub orders-stay : (is_build : ℕ → Bool) (t : Table Order) (n : ℕ) (o : Order)
    → OwnersStay (owners_beside is_build t) (owners_beside is_build (table.insert t (n ∷ []) o))
orders-stay is_build t n o = record { orders = λ m h. there-insert t (n ∷ []) o m h; builds = λ m h. h }

-- another order's row is as it was
pub order-other : (t : Table Order) (n m : ℕ) (o : Order) → (m == n) ≡ false
    → table.get (table.insert t (n ∷ []) o) (m ∷ []) ≡ table.get t (m ∷ [])
order-other t n m o other = get-insert_other t (n ∷ []) o (m ∷ []) (λ same. eqb-false m n other (same_digit m n same))

module _ (is_build : ℕ → Bool) (parts : Parts) (state : OrderState) (n : ℕ) (b : OrderBooks)
    (sound : AreSoundBooks is_build parts b) (there : IsThere b.orders n) where
  abbrev changed : Order
  changed = record (order_at n b) { state = state }

  module _ (allocations : Table Allocation)
      (sub : (k : List ℕ) (a : Allocation) → table.get allocations k ≡ Some a → table.get b.allocations k ≡ Some a)
      (less : (line : ℕ) → allocated_for_sale_line line allocations ≤ allocated_for_sale_line line b.allocations)
      (others : (k : List ℕ) (a : Allocation) (order line : ℕ) → table.get allocations k ≡ Some a
      → a.purpose ≡ Sale order line → (order == n) ≡ false) where
    abbrev after : OrderBooks
    after = record (with_state state n b) { allocations = allocations }

    pub orders-of-state : AreSoundOrders parts after
    orders-of-state =
        let row = row_there b.orders n there in
        let own : (order_at n b).number ≡ row.0.number = ap (λ o. (order_of o).number) row.1 in
        record {
          orders =
              right-changed (λ (o : Order). o.number) b.books.counter.next n changed row.0 b.orders row.1 own
              sound.orders.orders;
          lines = sound.orders.lines;
          each_line = λ k l at.
              let h = sound.orders.each_line k l at in record {
                order = there-insert b.orders (n ∷ []) changed l.order h.order;
                part = h.part;
                some = h.some;
                fits = h.fits;
                needed = omega (arith, h.needed, less l.number);
              };
          each_sale =
              λ k a at. purpose-kept b after a.item a.purpose
              (λ order line is. ap order_of (order-other b.orders n order changed (others k a order line at is)))
              (lines-same b.lines) refl (sound.orders.each_sale k a (sub k a at));
        }

-- what stands in a list where none passes doesn't pass
none_stands : {X : Type 0} (test : X → Bool) (xs : List X) (x : X) → list_any test xs ≡ false → Stands x xs
    → test x ≡ false
none_stands test [] x none h = absurd h
none_stands test (y ∷ ys) x none h =
    let both = or_none (test y) (list_any test ys) none in
    elim h [ inl same ↦ ap test (sym same) ∙ both.0 | inr later ↦ none_stands test ys x both.1 later ]

-- an allocation of a sound sale, by its purpose
pub sale-of : (b : OrderBooks) (item order line : ℕ) (p : Purpose) → p ≡ Sale order line → IsSoundPurpose b item p
    → IsSoundPurpose b item (Sale order line)
sale-of b item order line p is h = subst (IsSoundPurpose b item) is h

module _ (is_build : ℕ → Bool) (parts : Parts) (n : ℕ) (b : OrderBooks) (sound : AreSoundBooks is_build parts b) where
  -- an order that is none in progress has no allocations
  idle : is_in_progress (order_at n b).state ≡ false → (k : List ℕ) (a : Allocation) (order line : ℕ)
      → table.get b.allocations k ≡ Some a → a.purpose ≡ Sale order line → (order == n) ≡ false
  idle stays k a order line at is = go (order == n) refl
    where
      go : (d : Bool) → (order == n) ≡ d → d ≡ false
      go false e = refl
      go true e =
          let h = sale-of b a.item order line a.purpose is (sound.orders.each_sale k a at) in
          let clash : true ≡ false =
          sym h.in_progress ∙ ap (λ m. is_in_progress (order_at m b).state) (eqb-true order n e) ∙ stays in
          cc

  stock-kept : (o : Order) → IsSoundStock (owners_beside is_build (table.insert b.orders (n ∷ []) o)) parts b.books
  stock-kept o =
      sound-owned (owners_beside is_build b.orders) (owners_beside is_build (table.insert b.orders (n ∷ []) o)) parts
      b.books (orders-stay is_build b.orders n o) sound.stock

  pub sound-issue : first (issue_order_checks n b) ≡ None
      → AreSoundBooks is_build parts (issue_order n b) × Grows b.books (issue_order n b).books
  sound-issue e =
      let passed = none-holds (issue_order_checks n b) e in
      let there = there-row b.orders n (passed NoSuch) in (
        record {
          stock = stock-kept (record (order_at n b) { state = InProgress });
          allocations = sound.allocations;
          orders =
              orders-of-state is_build parts InProgress n b sound there b.allocations (λ k a at. at)
              (λ line. omega arith)
              (idle (pending (order_at n b).state (not_false (is_pending (order_at n b).state) (passed WrongState))));
        },
        grows-none b.books,
      )
    where
      pending : (s : OrderState) → is_pending s ≡ true → is_in_progress s ≡ false
      pending Pending e = refl
      pending InProgress e = cc
      pending Complete e = cc
      pending Cancelled e = cc

  -- where nothing is missing, nothing is allocated
  done : list_any (is_missing n) (table.values b.lines) ≡ false → (k : List ℕ) (a : Allocation) (order line : ℕ)
      → table.get b.allocations k ≡ Some a → a.purpose ≡ Sale order line → (order == n) ≡ false
  done none k a order line at is = go (order == n) refl
    where
      go : (d : Bool) → (order == n) ≡ d → d ≡ false
      go false e = refl
      go true e =
          let h = sale-of b a.item order line a.purpose is (sound.orders.each_sale k a at) in
          let row = row_there b.lines line h.there in
          let l = row.0 in
          let here : line_at line b ≡ l = ap line_of row.1 in
          let own : l.number ≡ line =
          right-number (λ (x : OrderLine). x.number) b.books.counter.next line l b.lines sound.orders.lines row.1 in
          let needed =
          subst (λ j. l.done + allocated_for_sale_line j b.allocations ≤ l.quantity) own
          (sound.orders.each_line (line ∷ []) l row.1).needed in
          let missing : nat_lt l.done l.quantity ≡ true =
          lt-ltb l.done l.quantity
          (omega (arith, needed, some-for b.allocations k a order line at is, (sound.allocations.each k a at).some)) in
          let of : (l.order == n) ≡ true =
          eq-eqb l.order n (ap (λ (x : OrderLine). x.order) (sym here) ∙ h.of_order ∙ eqb-true order n e) in
          let clash : false ≡ true =
          sym (none_stands (is_missing n) (table.values b.lines) l none (get-Stands b.lines (line ∷ []) l row.1))
          ∙ and_both (l.order == n) (nat_lt l.done l.quantity) of missing in
          cc

  pub sound-close : first (close_order_checks n b) ≡ None
      → AreSoundBooks is_build parts (close_order n b) × Grows b.books (close_order n b).books
  sound-close e =
      let passed = none-holds (close_order_checks n b) e in
      let there = there-row b.orders n (passed NoSuch) in (
        record {
          stock = stock-kept (record (order_at n b) { state = Complete });
          allocations = sound.allocations;
          orders =
              orders-of-state is_build parts Complete n b sound there b.allocations (λ k a at. at) (λ line. omega arith)
              (done (passed Short));
        },
        grows-none b.books,
      )

  abbrev left : Table Allocation
  left = released_for (owner.Order n) b.allocations

  pub sound-cancel : first (cancel_order_checks n b) ≡ None
      → AreSoundBooks is_build parts (cancel_order n b) × Grows b.books (cancel_order n b).books
  sound-cancel e =
      let passed = none-holds (cancel_order_checks n b) e in
      let there = there-row b.orders n (passed NoSuch) in
      let own = is_owned (owner.Order n) in (
        record {
          stock = stock-kept (record (order_at n b) { state = Cancelled });
          allocations = sound-released b.allocations b.books sound.allocations (owner.Order n);
          orders =
              orders-of-state is_build parts Cancelled n b sound there left
              (λ k a at. (get-without own b.allocations k a at).0)
              (λ line.
              let test = λ (a : Allocation). is_for_sale_line line a.purpose in
              omega (
                arith,
                ap (sum_where test) (values-without own b.allocations),
                sum-split test own (table.values b.allocations),
              ))
              (λ k a order line at is. sym (ap (is_for_order n) is) ∙ (get-without own b.allocations k a at).1);
        },
        grows-none b.books,
      )
