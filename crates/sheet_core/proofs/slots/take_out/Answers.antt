use Rattle.std.proofs.Common.{◌≡◌, ◌∙◌, subst}
use Rattle.std.specs.Prelude.{IfSome, swap_remove}
use Rattle.sheet_core.proofs.Lookups.{entry_at}
use Rattle.sheet_core.proofs.Writes.{slot-taken, unnoted-after}
use Rattle.sheet_core.proofs.slots.take_out.Goals as goal

pub returns : goal.returns
returns g c =
    let digits = g.R.Key.RowKey.digits in
    let es = c.args.slots.now.entries in
    let e = entry_at digits es c.args.i c.requires.in_range in
    let is =
    subst (λ o. IfSome o (λ p. c.swap_remove_index.new.self.entries ≡ swap_remove es c.args.i p))
    (c.swap_remove_index.ensures.entry ∙ e.1) c.swap_remove_index.ensures.entries in
    rw is (record {
      noted = unnoted-after digits es c.args.i e.0 e.1 c.requires.last;
      taken = slot-taken digits es c.args.i e.0 e.1;
    })
