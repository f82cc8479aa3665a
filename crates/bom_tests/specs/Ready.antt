-- A catalogue and bills to which a part or a line can come.
use Rattle.std.specs.Prelude.{◌≡◌}
use Rattle.part_core.specs.CatalogueView.{parts_of, register_before, register_of}
use Rattle.word_core.specs.Counter.{Counting}
use Rattle.part_core.specs.declared.catalogue.Catalogue.{Catalogue}
use Rattle.bom_core.specs.BomsView.{bill_books, bill_books_before, bills_of}
use Rattle.bom_core.specs.Sound.{IsSoundBill}
use Rattle.bom_core.specs.declared.boms.Boms.{Boms}

-- nothing is pending, and the bills are sound beside the parts and the number that is drawn next
pub record IsReady (catalogue : Catalogue) (boms : Boms) (counter : Counting) : Type 0 where
  pub no_parts_pending : register_before catalogue counter ≡ register_of catalogue counter
  pub no_bills_pending : bill_books_before boms counter ≡ bill_books boms counter
  pub sound : IsSoundBill (parts_of catalogue) (bills_of boms) counter.next
