use Rattle.std.proofs.Common.{ℕ, true, false, [], sym, ap, ◌∙◌, subst}
use Rattle.part_core.specs.Catalogue.{Register}
use Rattle.part_core.specs.CatalogueView.{parts_of}
use Rattle.word_core.specs.Counter.{Numbering}
use Rattle.bom_core.specs.BomsView.{bill_books}
use Rattle.bom_core.specs.declared.line.NewLine.{NewLine}
use Rattle.bom_core.specs.Sound.{IsSoundBill}
use Rattle.bom_tests.proofs.Grown.{sound-line, same_books, same_register}
use Rattle.bom_tests.proofs.calls.line.Goals as goal

abbrev new_line : ℕ → ℕ → NewLine
new_line assembly component =
    record {
      assembly = assembly;
      component = component;
      quantity = 1;
      flags = record { optional = false; consumable = false; inherited = true; variants = true };
    }

pub returns : goal.returns
returns c =
    let parts = parts_of c.args.catalogue.now in
    let old = bill_books c.args.boms.now c.args.counter.now in
    let now = bill_books c.add_line.new.self c.add_line.new.counter in
    let sound : IsSoundBill parts now.bills now.counter.next =
    sound-line (new_line c.args.assembly c.args.component) [] parts old now _ c.requires.sound
    c.in_ok-number.ensures.acts in
    record {
      no_parts_pending =
          same_register _ _ _ _ (ap (λ (r : Register). r.parts) c.requires.no_parts_pending)
          (c.keep-2.ensures.before ∙ sym c.keep-2.ensures.now);
      no_bills_pending =
          same_books _ _ _ _ (c.keep.ensures.before ∙ sym c.keep.ensures.now)
          (c.keep-2.ensures.before ∙ sym c.keep-2.ensures.now);
      sound = subst (λ b. IsSoundBill parts b c.keep-2.new.self.next) (sym c.keep.ensures.now)
          (subst (λ n. IsSoundBill parts now.bills n)
          (sym (ap (λ (n : Numbering). n.next) c.keep-2.ensures.now)) sound);
    }
