use Rattle.std.proofs.Common.{refl}
use Rattle.invdesk.proofs.Ending.{most_is, of_serving, of_telling, unserved}
use Rattle.invdesk.proofs.serve.serve.Goals as goal

pub returns-in-Err-clause-serves : goal.returns-in-Err-clause-serves
returns-in-Err-clause-serves g c =
    unserved g.B.Books.state_in g.B.Books.failure_of g.B.Books.may_leave c.args.service.now.options c.args.how c.args.service.now c.in-Err.end refl (of_serving c.args.service.now.ends_at_fault (g.B.Books.failure_of c.args.service.now.books)
    c.in-Err.end c.in-Err.ensures.why)

pub returns-in-Err-bind-clause-serves : goal.returns-in-Err-bind-clause-serves
returns-in-Err-bind-clause-serves g c =
    unserved g.B.Books.state_in g.B.Books.failure_of g.B.Books.may_leave c.args.service.now.options c.args.how c.args.service.now c.port_failed.result refl (of_serving c.args.service.now.ends_at_fault (g.B.Books.failure_of c.args.service.now.books)
    c.port_failed.result c.port_failed.ensures)

pub returns-in-Err-say_where-clause-serves : goal.returns-in-Err-say_where-clause-serves
returns-in-Err-say_where-clause-serves g c =
    unserved g.B.Books.state_in g.B.Books.failure_of g.B.Books.may_leave c.args.service.now.options c.args.how c.args.service.now c.failed.result refl (of_telling c.args.service.now.ends_at_fault (g.B.Books.failure_of c.args.service.now.books)
    c.failed.result c.failed.ensures)

pub returns-in-Ok-serve_connections-clause-serves : goal.returns-in-Ok-serve_connections-clause-serves
returns-in-Ok-serve_connections-clause-serves g c = record {
  taken = refl;
  site = c.in-Ok.site;
  offers = c.in-Ok.ensures.offers;
  steps =
      let s = c.serve_connections.ensures.steps in
      (s.0, most_is c.args.how.count s.0 (rw c.unwrap_or-count.ensures at s.1), s.2);
  operations =
      let s = c.serve_connections.ensures.operations in
      (s.0, most_is c.args.how.count s.0 (rw c.unwrap_or-count.ensures at s.1), s.2);
  ends = c.end_of_serving.ensures;
}

pub returns-clause-serves : goal.returns-clause-serves
returns-clause-serves g c = record {
  taken = refl;
  site = c.in-Ok.site;
  offers = c.in-Ok.ensures.offers;
  steps =
      let s = c.serve_connections.ensures.steps in
      (s.0, most_is c.args.how.count s.0 (rw c.unwrap_or-count.ensures at s.1), s.2);
  operations =
      let s = c.serve_connections.ensures.operations in
      (s.0, most_is c.args.how.count s.0 (rw c.unwrap_or-count.ensures at s.1), s.2);
  ends =
      of_serving c.args.service.now.ends_at_fault (g.B.Books.failure_of c.serve_connections.new.service.books)
      c.port_failed-in-Err-serve_connections.result c.port_failed-in-Err-serve_connections.ensures;
}
