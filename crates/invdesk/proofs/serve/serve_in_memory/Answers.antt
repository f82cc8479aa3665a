use Rattle.std.proofs.Common.{ap, refl, subst, sym, ◌∙◌}
use Rattle.std.specs.Prelude.{None}
use Rattle.table_store.specs.declared.fault.Failed.{Failed}
use Rattle.desk_core.specs.Machine.{IsSoundState}
use Rattle.desk_core.specs.ShopView.{state_of}
use Rattle.desk_core.proofs.Empty.{empty_with}
use Rattle.invdesk.specs.Clients.{ServesClients}
use Rattle.invdesk.proofs.serve.serve_in_memory.Goals as goal

pub serve-requires : goal.serve-requires
serve-requires c =
    subst (λ shop. IsSoundState (state_of shop)) (sym c.new-service.ensures.books) c.new-books.ensures.sound

pub returns : goal.returns
returns c = record {
  before = c.new-service.result;
  after = c.serve.new.service;
  empty = empty_with _ _ (ap state_of c.new-service.ensures.books ∙ c.new-books.ensures.state) (refl, refl);
  sound = c.serve.ensures.kept;
  serves =
      subst (λ options. ServesClients {F = Failed} state_of (λ _. None) (λ _ _. ⊥) options c.args.how
      c.new-service.result c.serve.new.service c.serve.result)
      (c.new-service.ensures.options ∙ c.served_by.ensures) c.serve.ensures.serves;
}
