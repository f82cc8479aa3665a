use Rattle.std.proofs.Common.{◌∙◌, ◌==◌, ap, rules}
use Rattle.sqlite.specs.Held.{state}
use Rattle.table_store.specs.Written.{tree_of}
use Rattle.table_store.proofs.Loads.{no-rows}
use Rattle.table_store.proofs.Loading.{one_of_all}
use Rattle.table_store.proofs.read.has_no_row.Goals as goal

pub load_rows-requires : goal.load_rows-requires
load_rows-requires g c clean = one_of_all c.args.table (state g.S.Store c.args.conn.now) (c.requires clean)

pub returns-clause-value : goal.returns-clause-value
returns-clause-value g c clean =
    no-rows c.args.table (tree_of c.args.table (state g.S.Store c.args.conn.now)) c.in_ok-load_rows.field-0.items
    c.is_empty.result (c.in_ok-load_rows.ensures.loaded clean) (c.is_empty.ensures ∙ ap (λ n. n == 0) (search rules))
