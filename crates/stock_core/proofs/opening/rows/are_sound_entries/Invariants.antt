use Rattle.std.proofs.Common.{ℕ, ◌<◌, get_or}
use Rattle.part_core.specs.CatalogueView.{parts_of}
use Rattle.stock_core.specs.Sound.{IsSoundEntry}
use Rattle.yard_core.specs.YardView.{stock_of}
use Rattle.forest.specs.declared.entry.Entry.{Entry}
use Rattle.stock_core.proofs.opening.rows.are_sound_entries.Given as goal

abbrev pub invariant-loop-entry : goal.invariant-loop-entry
invariant-loop-entry g l =
    (k : ℕ) (e : Entry) → k < l.entry-index
    → IsSoundEntry (g.W.KnowsOwners.owners_of l.owners) (parts_of l.catalogue) (stock_of l.yard) (get_or l.entries k e)
