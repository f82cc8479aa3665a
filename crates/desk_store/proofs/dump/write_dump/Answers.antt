use Rattle.std.proofs.Common.{Err, rules}
use Rattle.desk_core.specs.ShopView.{state_of}
use Rattle.desk_store.specs.Dumps.{dump_text}
use Rattle.desk_store.specs.Exports.{Sends}
use Rattle.desk_store.specs.declared.export.ExportFault.TheVariants.{WriteFailed}
use Rattle.desk_store.proofs.Dumping.{begin-fails, commit-fails, dump-kept, tables-fail}
use Rattle.desk_store.proofs.dump.write_dump.Goals as goal

pub returns-in_err-write_whole : goal.returns-in_err-write_whole
returns-in_err-write_whole g c =
    let a = g.W.Write.contents c.args.writer.now in
    let b = g.W.Write.contents c.write_whole.new.writer in
    let s = state_of c.args.shop.now in
    let it : Sends a b (dump_text s) (Err WriteFailed) = begin-fails s a b c.in_err-write_whole.ensures.front in
    search rules

pub returns-in_err-write_tables : goal.returns-in_err-write_tables
returns-in_err-write_tables g c =
    let a = g.W.Write.contents c.args.writer.now in
    let b = g.W.Write.contents c.write_whole.new.writer in
    let d = g.W.Write.contents c.write_tables.new.writer in
    let s = state_of c.args.shop.now in
    let fault = c.in_err-write_tables.field-0.0 in
    let it : Sends a d (dump_text s) (Err fault) =
    tables-fail s a b d fault c.in_ok-write_whole.ensures.whole c.in_err-write_tables.ensures in
    search rules

pub returns-in_err-write_whole-2 : goal.returns-in_err-write_whole-2
returns-in_err-write_whole-2 g c =
    let a = g.W.Write.contents c.args.writer.now in
    let b = g.W.Write.contents c.write_whole.new.writer in
    let d = g.W.Write.contents c.write_tables.new.writer in
    let e = g.W.Write.contents c.write_whole-2.new.writer in
    let s = state_of c.args.shop.now in
    let it : Sends a e (dump_text s) (Err WriteFailed) =
    commit-fails s a b d e c.in_ok-write_whole.ensures.whole c.in_ok-write_tables.ensures
    c.in_err-write_whole-2.ensures.front in
    search rules

pub returns-in_err-flush : goal.returns-in_err-flush
returns-in_err-flush g c =
    let a = g.W.Write.contents c.args.writer.now in
    let b = g.W.Write.contents c.write_whole.new.writer in
    let d = g.W.Write.contents c.write_tables.new.writer in
    let e = g.W.Write.contents c.write_whole-2.new.writer in
    let f = g.W.Write.contents c.flush.new.writer in
    let s = state_of c.args.shop.now in
    let it : Sends a f (dump_text s) (Err WriteFailed) =
    (dump-kept s a b d e f c.in_ok-write_whole.ensures.whole c.in_ok-write_tables.ensures
    c.in_ok-write_whole-2.ensures.whole c.flush.ensures).1 in
    search rules

pub returns : goal.returns
returns g c =
    (dump-kept (state_of c.args.shop.now) (g.W.Write.contents c.args.writer.now)
    (g.W.Write.contents c.write_whole.new.writer) (g.W.Write.contents c.write_tables.new.writer)
    (g.W.Write.contents c.write_whole-2.new.writer) (g.W.Write.contents c.flush.new.writer)
    c.in_ok-write_whole.ensures.whole c.in_ok-write_tables.ensures c.in_ok-write_whole-2.ensures.whole
    c.flush.ensures).0
