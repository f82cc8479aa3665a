use Rattle.std.proofs.Common.{[], ◌∷◌, ◌∙◌, ap, subst, sym}
use Rattle.std.specs.Prelude.{◌-◌}
use Rattle.sheet_core.specs.Sheet.{now_of}
use Rattle.alloc_core.specs.ShareSums.{AreSums, counted_in, sum_at}
use Rattle.alloc_core.proofs.KeptSums.{sums-inserted, sums-removed, sums-stay}
use Rattle.alloc_core.proofs.allocation_rows.AllocationRows.put.Goals as goal

pub invariant_of-self-2 : goal.invariant_of-self-2
invariant_of-self-2 c =
    let t = now_of c.self.inside.rows in
    let k = c.args.row.number ∷ [] in
    let sums = now_of c.self.inside.sums in
    let less = now_of c.count_out.new.sums in
    let new = now_of c.count_in.new.sums in (
      (λ fresh. subst (λ rows. AreSums rows new) (sym c.in_ok-put.ensures.ok)
          (sums-inserted t k sums (c.self.invariant.0 fresh) c.args.row less new
          (sums-removed t k sums (c.self.invariant.0 fresh) less (λ share.
          c.in_ok-count_out.ensures.counted share
          ∙ ap (λ o. sum_at share sums - counted_in share o) c.get.ensures.value))
          c.in_ok-count_in.ensures.counted)),
      (λ fresh. sums-stay c.self.inside.rows.before c.put.new.self.before
          c.self.inside.sums.before c.count_in.new.sums.before c.in_ok-put.ensures.before
          (c.in_ok-count_in.ensures.before ∙ c.in_ok-count_out.ensures.before) (c.self.invariant.1 fresh)),
    )
