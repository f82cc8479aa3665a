use Rattle.std.proofs.Common.{Err, flat_map, rules, subst, ◌∙◌}
use Rattle.std.specs.Io.KnownBytes.{Appends}
use Rattle.desk_core.specs.ShopView.{state_of}
use Rattle.desk_store.specs.Dumps.{create_line, insert_line, table_lines}
use Rattle.desk_store.specs.Exports.{AppendsFront, Sends, table_rows}
use Rattle.desk_store.specs.declared.export.ExportFault.TheVariants.{WriteFailed}
use Rattle.desk_store.proofs.Exporting.{sends-then}
use Rattle.desk_store.proofs.Sent.{front-first}
use Rattle.desk_store.proofs.dump.write_table_lines.Goals as goal

pub returns-in_err-write_whole : goal.returns-in_err-write_whole
returns-in_err-write_whole g c =
    let a = g.W.Write.contents c.args.writer.now in
    let b = g.W.Write.contents c.write_whole.new.writer in
    let s = state_of c.args.shop.now in
    let table = c.args.table in
    let front : AppendsFront a b (create_line table) =
    subst (AppendsFront a b) (c.as_bytes.ensures.value ∙ c.create_line.ensures) c.in_err-write_whole.ensures.front in
    let it : Sends a b (table_lines table s) (Err WriteFailed) =
    front-first a b (create_line table) (flat_map (insert_line table) (table_rows table s)) front in
    search rules

pub returns : goal.returns
returns g c =
    let a = g.W.Write.contents c.args.writer.now in
    let b = g.W.Write.contents c.write_whole.new.writer in
    let d = g.W.Write.contents c.write_table.new.writer in
    let s = state_of c.args.shop.now in
    let table = c.args.table in
    let made : Appends a b (create_line table) =
    subst (Appends a b) (c.as_bytes.ensures.value ∙ c.create_line.ensures) c.in_ok-write_whole.ensures.whole in
    sends-then a b d (create_line table) (flat_map (insert_line table) (table_rows table s)) c.write_table.result made
    c.write_table.ensures
