use Rattle.std.proofs.Common.{refl, subst, sym}
use Rattle.desk_core.specs.Machine.{IsSoundState}
use Rattle.desk_core.specs.ShopView.{state_of}
use Rattle.desk_core.specs.declared.shop.Shop.{Shop}
use Rattle.desk_core.specs.Empty.{IsEmpty}
use Rattle.desk_core.proofs.Empty.{empty_with}
use Rattle.invdesk.proofs.lines.check_in_memory.Goals as goal

pub check-end-requires : goal.check-end-requires
check-end-requires c =
    subst (λ (shop : Shop). IsSoundState (state_of shop)) (sym c.new-explained.ensures.books) c.new-shop.ensures.sound

pub returns : goal.returns
returns c = record {
  before = state_of c.new-explained.result.books;
  after = state_of c.check-end.new.books.books;
  empty =
      subst (λ (shop : Shop). IsEmpty (state_of shop)) (sym c.new-explained.ensures.books)
      (empty_with _ _ c.new-shop.ensures.state (refl, refl));
  checks = c.check-end.ensures.checks;
  sound = c.check-end.ensures.kept;
}
