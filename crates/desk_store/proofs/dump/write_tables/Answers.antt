use Rattle.std.proofs.Common.{Err, List, ap, get_or, length, map-id, refl, rules, subst, ◌+◌, ◌<◌, ℕ}
use Rattle.std.specs.Prelude.{Option}
use Rattle.std.proofs.lemmas.List.{get_or_default}
use Rattle.std.specs.Io.KnownBytes.{Appends}
use Rattle.table_store.specs.declared.name.TableName.{TableName}
use Rattle.desk_core.specs.Machine.{State}
use Rattle.desk_core.specs.ShopView.{state_of}
use Rattle.desk_store.specs.Dumps.{table_lines, tables_lines}
use Rattle.desk_store.specs.Exports.{Sends}
use Rattle.desk_store.specs.declared.export.ExportFault.{ExportFault}
use Rattle.desk_store.proofs.Exporting.{AreSent, all-sent, front-of, next-sent, none-sent, same-text, sends-front}
use Rattle.desk_store.proofs.dump.write_tables.Goals as goal

abbrev now : TableName → TableName
now table = table

abbrev lines : State → List TableName → List ℕ
lines s tables = tables_lines tables s

abbrev line : State → TableName → List ℕ
line s table = table_lines table s

-- the lines of one table more
next : (s : State) (a b e : Option (List ℕ)) (i : ℕ) (tables : List TableName) (other : TableName) → i < length tables
    → AreSent now (lines s) a b i tables → Appends b e (line s (get_or tables i other))
    → AreSent now (lines s) a e (i + 1) tables
next s a b e i tables other lt it p =
    let row = get_or tables i other in
    next-sent now (lines s) (line s) refl (λ r rs. refl) a b e i tables row lt (get_or_default tables i other row lt) it p

fails : (s : State) (a b e : Option (List ℕ)) (i : ℕ) (tables : List TableName) (other : TableName) (fault : ExportFault)
    → i < length tables → AreSent now (lines s) a b i tables → Sends b e (line s (get_or tables i other)) (Err fault)
    → Sends a e (tables_lines tables s) (Err fault)
fails s a b e i tables other fault lt it h =
    let row = get_or tables i other in
    same-text a e _ _ (Err fault) (ap (lines s) (map-id tables))
    (sends-front a b e (line s row) _ fault h
    (front-of now (lines s) (line s) refl (λ r rs. refl) a b e i tables row lt
    (get_or_default tables i other row lt) it))

pub loop-table-init : goal.loop-table-init
loop-table-init g c =
    none-sent now (lines (state_of c.args.shop.now)) (g.W.Write.contents c.args.writer.now) c.args.tables.now

pub returns-in_err-write_table_lines : goal.returns-in_err-write_table_lines
returns-in_err-write_table_lines g c =
    let s = state_of c.args.shop.now in
    let a = g.W.Write.contents c.args.writer.now in
    let e = g.W.Write.contents c.write_table_lines.new.writer in
    let fault = c.in_err-write_table_lines.field-0.0 in
    let it : Sends a e (tables_lines c.args.tables.now s) (Err fault) =
    fails s a (g.W.Write.contents c.loop-table.writer) e c.loop-table.table-index c.args.tables.now _ fault
    c.loop-table-test.true c.loop-table.invariant c.in_err-write_table_lines.ensures in
    search rules

pub loop-table-preserved : goal.loop-table-preserved
loop-table-preserved g c =
    next (state_of c.args.shop.now) (g.W.Write.contents c.args.writer.now) (g.W.Write.contents c.loop-table.writer)
    (g.W.Write.contents c.write_table_lines.new.writer) c.loop-table.table-index c.args.tables.now _
    c.loop-table-test.true c.loop-table.invariant c.in_ok-write_table_lines.ensures

pub returns : goal.returns
returns g c =
    let s = state_of c.args.shop.now in
    let a = g.W.Write.contents c.args.writer.now in
    let b = g.W.Write.contents c.loop-table.writer in
    subst (Appends a b) (ap (lines s) (map-id c.args.tables.now))
    (all-sent now (lines s) (line s) refl (λ r rs. refl) a b c.loop-table.table-index c.args.tables.now
    c.loop-table-test.false c.loop-table.invariant)
