use Rattle.std.proofs.Common.{◌≡◌, ◌+◌, ◌≤◌, true, false, sym, ◌∙◌, subst}
use Rattle.part_core.specs.CatalogueView.{parts_of}
use Rattle.sheet_core.specs.Rows.{EachRow, StandRight}
use Rattle.sheet_core.specs.Sheet.{now_of}
use Rattle.alloc_core.specs.Allocations.{allocated_for_sale_line}
use Rattle.alloc_core.specs.AllocationsView.{allocations_now}
use Rattle.order_core.specs.RowTests.{HasRows}
use Rattle.order_core.specs.declared.line.OrderLine.{OrderLine}
use Rattle.order_core.specs.declared.order.Order.{Order}
use Rattle.order_core.proofs.orders.Orders.is_sound.Goals as goal

pub returns-then-not-are_orders_drawn : goal.returns-then-not-are_orders_drawn
returns-then-not-are_orders_drawn c = (
  λ no. (let e : false ≡ true = no in cc),
  λ sound.
      let rows =
      subst (λ n. StandRight (λ (o : Order). o.number) n (now_of c.args.self.now.orders)) (sym c.next.ensures)
      sound.orders in
      let no : false ≡ true = sym c.if-not-are_orders_drawn.true ∙ c.are_orders_drawn.ensures.1 rows in
      cc,
)

pub returns-then-not-are_lines_drawn : goal.returns-then-not-are_lines_drawn
returns-then-not-are_lines_drawn c = (
  λ no. (let e : false ≡ true = no in cc),
  λ sound.
      let rows =
      subst (λ n. StandRight (λ (l : OrderLine). l.number) n (now_of c.args.self.now.lines)) (sym c.next-2.ensures)
      sound.lines in
      let no : false ≡ true = sym c.if-not-are_lines_drawn.true ∙ c.are_lines_drawn.ensures.1 rows in
      cc,
)

pub returns-then-not-have_rows : goal.returns-then-not-have_rows
returns-then-not-have_rows c = (
  λ no. (let e : false ≡ true = no in cc),
  λ sound.
      let rows : EachRow (HasRows (parts_of c.args.catalogue.now) (now_of c.args.self.now.orders))
      (now_of c.args.self.now.lines) =
      (λ k l at. let h = sound.each_line k l at in
      record { order = h.order; part = h.part; some = h.some; fits = h.fits }) in
      let no : false ≡ true = sym c.if-not-have_rows.true ∙ c.have_rows.ensures.1 rows in
      cc,
)

pub returns-then-not-are_within : goal.returns-then-not-are_within
returns-then-not-are_within c = (
  λ no. (let e : false ≡ true = no in cc),
  λ sound.
      let within : EachRow
      (λ l. l.done + allocated_for_sale_line l.number (allocations_now c.args.floor.now.allocations) ≤ l.quantity)
      (now_of c.args.self.now.lines) =
      (λ k l at. (sound.each_line k l at).needed) in
      let no : false ≡ true = sym c.if-not-are_within.true ∙ c.are_within.ensures.1 within in
      cc,
)

pub returns : goal.returns
returns c =
    let orders =
    subst (λ n. StandRight (λ (o : Order). o.number) n (now_of c.args.self.now.orders)) c.next.ensures
    (c.are_orders_drawn.ensures.0 c.if-not-are_orders_drawn.false) in
    let lines =
    subst (λ n. StandRight (λ (l : OrderLine). l.number) n (now_of c.args.self.now.lines)) c.next-2.ensures
    (c.are_lines_drawn.ensures.0 c.if-not-are_lines_drawn.false) in
    let rows = c.have_rows.ensures.0 c.if-not-have_rows.false in
    let within = c.are_within.ensures.0 c.if-not-are_within.false in (
      λ b. record {
        orders = orders;
        lines = lines;
        each_line = λ k l at.
            let h = rows k l at in
            record { order = h.order; part = h.part; some = h.some; fits = h.fits; needed = within k l at };
        each_sale = c.are_sound_sales.ensures.0 b;
      },
      λ sound. c.are_sound_sales.ensures.1 sound.each_sale,
    )
