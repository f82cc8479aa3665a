use Rattle.std.proofs.Common.{◌≡◌, true, false, sym, ◌∙◌, subst}
use Rattle.sheet_core.specs.Rows.{StandRight}
use Rattle.yard_core.specs.YardView.{stock_of}
use Rattle.alloc_core.specs.AllocationsView.{allocations_now}
use Rattle.alloc_core.specs.declared.allocation.Allocation.{Allocation}
use Rattle.alloc_core.proofs.Opened.{covered-each, within-all}
use Rattle.alloc_core.proofs.allocations.Allocations.is_sound.Goals as goal

pub returns-then-not-are_drawn : goal.returns-then-not-are_drawn
returns-then-not-are_drawn c = (
  λ no. (let e : false ≡ true = no in cc),
  λ sound.
      let t = allocations_now c.args.self.now in
      let rows = subst (λ n. StandRight (λ (a : Allocation). a.number) n t) (sym c.next.ensures) sound.rows in
      let no : false ≡ true = sym c.if-not-are_drawn.true ∙ c.are_drawn.ensures.1 rows in
      cc,
)

pub returns : goal.returns
returns c =
    let t = allocations_now c.args.self.now in
    let s = stock_of c.args.yard.now in
    let drawn =
    subst (λ n. StandRight (λ (a : Allocation). a.number) n t) c.next.ensures
    (c.are_drawn.ensures.0 c.if-not-are_drawn.false) in
    let each = c.are_sound_rows.ensures.0 c.if-not-are_sound_rows.false in (
      λ b. record {
        rows = drawn;
        each = each;
        within = within-all t s c.requires each (c.are_items_covered.ensures.0 b);
      },
      λ sound. c.are_items_covered.ensures.1 (covered-each t s c.requires sound.within),
    )
