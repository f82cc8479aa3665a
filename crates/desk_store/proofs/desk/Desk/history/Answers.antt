use Rattle.std.proofs.Common.{rules}
use Rattle.desk_core.specs.ShopView.{state_of}
use Rattle.report_core.specs.History.{entries_on}
use Rattle.report_core.specs.Lines.{report_text}
use Rattle.desk_store.specs.Exports.{Sends}
use Rattle.desk_store.proofs.Exporting.{sent-front}
use Rattle.desk_store.proofs.desk.Desk.history.Goals as goal

pub returns-clause-front : goal.returns-clause-front
returns-clause-front g c =
    let a = g.W.Write.contents c.args.writer.now in
    let b = g.W.Write.contents c.write_entries.new.writer in
    let text = report_text (entries_on c.args.item (state_of c.args.self.now.shop)) in
    let sent : Sends a b text c.write_entries.result = search rules in
    sent-front a b text c.write_entries.result sent
