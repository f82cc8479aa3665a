use Rattle.std.proofs.Common.{ap, subst, sym, ◌∙◌}
use Rattle.table_store.specs.declared.fault.Failed.{Failed}
use Rattle.sqlite.specs.Files.{over_files}
use Rattle.desk_core.specs.ShopView.{state_of}
use Rattle.invdesk.specs.Clients.{ServesClients}
use Rattle.invdesk.specs.Works.{may_leave}
use Rattle.invdesk.proofs.serve.serve_on.Goals as goal

pub serve-end-requires : goal.serve-end-requires
serve-end-requires c = rw (c.ending_at_fault-service.ensures.books, c.new-watched.ensures.desk) c.requires

pub returns-clause-desk : goal.returns-clause-desk
returns-clause-desk c = rw c.into_desk.ensures c.serve-end.ensures.kept

pub returns-clause-serves : goal.returns-clause-serves
returns-clause-serves c = record {
  before = c.ending_at_fault-service.result;
  after = c.serve-end.new.service;
  was = ap (λ books. books.desk) c.ending_at_fault-service.ensures.books ∙ c.new-watched.ensures.desk;
  until = c.ending_at_fault-service.ensures.at_fault ∙ c.ends_at_fault-ends.ensures;
  is = sym c.into_desk.ensures;
  serves =
      subst (λ options. ServesClients {F = Failed} (λ watched. state_of watched.desk.shop)
      (λ watched. watched.desk.failed) (λ watched. may_leave over_files watched.desk) options c.args.how
      c.ending_at_fault-service.result c.serve-end.new.service c.serve-end.result)
      (c.ending_at_fault-service.ensures.options ∙ c.served_by.ensures) c.serve-end.ensures.serves;
}
