use Rattle.std.proofs.Common.{[], ◌∷◌, ◌∙◌, ap, subst, sym}
use Rattle.std.specs.Prelude.{◌-◌}
use Rattle.sheet_core.specs.Sheet.{now_of}
use Rattle.alloc_core.specs.ShareSums.{AreSums, counted_in, sum_at}
use Rattle.alloc_core.proofs.KeptSums.{sums-removed, sums-stay}
use Rattle.alloc_core.proofs.allocation_rows.AllocationRows.remove.Goals as goal

pub invariant_of-self-2 : goal.invariant_of-self-2
invariant_of-self-2 c =
    let t = now_of c.self.inside.rows in
    let k = c.args.number ∷ [] in
    let sums = now_of c.self.inside.sums in
    let new = now_of c.count_out.new.sums in (
      (λ fresh. subst (λ rows. AreSums rows new) (sym c.in_ok-remove.ensures.ok)
          (sums-removed t k sums (c.self.invariant.0 fresh) new (λ share.
          c.in_ok-count_out.ensures.counted share
          ∙ ap (λ o. sum_at share sums - counted_in share o) c.get.ensures.value))),
      (λ fresh. sums-stay c.self.inside.rows.before c.remove.new.self.before
          c.self.inside.sums.before c.count_out.new.sums.before c.in_ok-remove.ensures.before
          c.in_ok-count_out.ensures.before (c.self.invariant.1 fresh)),
    )
