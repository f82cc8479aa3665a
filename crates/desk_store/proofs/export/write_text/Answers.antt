use Rattle.std.proofs.Common.{◌≡◌, ℕ, List, Err, rules, subst, ◌∙◌}
use Rattle.std.specs.Prelude.{Option}
use Rattle.std.specs.Io.KnownBytes.{Appends}
use Rattle.std.proofs.KnownBytes.{Appends-trans}
use Rattle.desk_core.specs.ShopView.{state_of}
use Rattle.desk_store.specs.Exports.{AppendsFront, Sends, header_line, rows_text, table_text}
use Rattle.desk_store.specs.declared.export.ExportFault.TheVariants.{WriteFailed}
use Rattle.desk_store.proofs.Exporting.{sends-kept, sends-then}
use Rattle.desk_store.proofs.Sent.{front-first}
use Rattle.desk_store.proofs.export.write_text.Goals as goal

pub returns-in_err-write_whole : goal.returns-in_err-write_whole
returns-in_err-write_whole g c =
    let a = g.W.Write.contents c.args.writer.now in
    let b = g.W.Write.contents c.write_whole.new.writer in
    let s = state_of c.args.shop.now in
    let front : AppendsFront a b (header_line c.args.table) =
    subst (AppendsFront a b) (c.as_bytes.ensures.value ∙ c.header.ensures) c.in_err-write_whole.ensures.front in
    let it : Sends a b (table_text c.args.table s) (Err WriteFailed) =
    front-first a b (header_line c.args.table) (rows_text c.args.table s) front in
    search rules

-- the header is written
begun : (a b : Option (List ℕ)) (bytes shown header : List ℕ) → bytes ≡ shown → shown ≡ header → Appends a b bytes
    → Appends a b header
begun a b bytes shown header same is = subst (Appends a b) (same ∙ is)

pub returns-in_err-write_table : goal.returns-in_err-write_table
returns-in_err-write_table g c =
    let a = g.W.Write.contents c.args.writer.now in
    let b = g.W.Write.contents c.write_whole.new.writer in
    let d = g.W.Write.contents c.write_table.new.writer in
    let s = state_of c.args.shop.now in
    let fault = c.in_err-write_table.field-0.0 in
    let first = begun a b _ _ _ c.as_bytes.ensures.value c.header.ensures c.in_ok-write_whole.ensures.whole in
    let it : Sends a d (table_text c.args.table s) (Err fault) =
    sends-then a b d (header_line c.args.table) (rows_text c.args.table s) (Err fault) first
    c.in_err-write_table.ensures in
    search rules

pub returns-in_err-flush : goal.returns-in_err-flush
returns-in_err-flush g c =
    let a = g.W.Write.contents c.args.writer.now in
    let b = g.W.Write.contents c.write_whole.new.writer in
    let d = g.W.Write.contents c.write_table.new.writer in
    let e = g.W.Write.contents c.flush.new.writer in
    let s = state_of c.args.shop.now in
    let first = begun a b _ _ _ c.as_bytes.ensures.value c.header.ensures c.in_ok-write_whole.ensures.whole in
    let all = Appends-trans a b d (header_line c.args.table) (rows_text c.args.table s) first c.in_ok-write_table.ensures in
    let it : Sends a e (table_text c.args.table s) (Err WriteFailed) =
    (sends-kept a d e (table_text c.args.table s) all c.flush.ensures).1 in
    search rules

pub returns : goal.returns
returns g c =
    let a = g.W.Write.contents c.args.writer.now in
    let b = g.W.Write.contents c.write_whole.new.writer in
    let d = g.W.Write.contents c.write_table.new.writer in
    let e = g.W.Write.contents c.flush.new.writer in
    let s = state_of c.args.shop.now in
    let first = begun a b _ _ _ c.as_bytes.ensures.value c.header.ensures c.in_ok-write_whole.ensures.whole in
    let all = Appends-trans a b d (header_line c.args.table) (rows_text c.args.table s) first c.in_ok-write_table.ensures in
    (sends-kept a d e (table_text c.args.table s) all c.flush.ensures).0
