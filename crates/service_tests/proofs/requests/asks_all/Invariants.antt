use Rattle.service_tests.proofs.requests.asks_all.Given as goal

abbrev pub invariant-loop-exchange : goal.invariant-loop-exchange
invariant-loop-exchange g l = record { kept : g.B.Books.are_kept l.service.books }
