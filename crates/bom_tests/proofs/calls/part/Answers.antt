use Rattle.std.proofs.Common.{sym, ap, ◌∙◌, subst}
use Rattle.part_core.specs.CatalogueView.{register_of}
use Rattle.word_core.specs.Counter.{Numbering}
use Rattle.bom_core.specs.BomsView.{bills_of}
use Rattle.bom_core.specs.Changes.{BillBooks}
use Rattle.bom_core.specs.Sound.{IsSoundBill}
use Rattle.bom_tests.proofs.Grown.{sound-part, same_books, same_register}
use Rattle.bom_tests.proofs.calls.part.Goals as goal

pub returns : goal.returns
returns c =
    let bills = bills_of c.args.boms.now in
    let old = register_of c.args.catalogue.now c.args.counter.now in
    let now = register_of c.add_part.new.self c.add_part.new.counter in
    let sound : IsSoundBill now.parts bills now.counter.next =
    sound-part _ old now _ bills c.requires.sound c.in_ok-number.ensures.acts in
    record {
      no_parts_pending =
          same_register _ _ _ _ (c.keep.ensures.before ∙ sym c.keep.ensures.now)
          (c.keep-2.ensures.before ∙ sym c.keep-2.ensures.now);
      no_bills_pending =
          same_books _ _ _ _ (ap (λ (b : BillBooks). b.bills) c.requires.no_bills_pending)
          (c.keep-2.ensures.before ∙ sym c.keep-2.ensures.now);
      sound = subst (λ p. IsSoundBill p bills c.keep-2.new.self.next) (sym c.keep.ensures.now)
          (subst (λ n. IsSoundBill now.parts bills n)
          (sym (ap (λ (n : Numbering). n.next) c.keep-2.ensures.now)) sound);
    }
