use Rattle.std.specs.Prelude.{Err}
use Rattle.desk_core.specs.ShopView.{state_of}
use Rattle.desk_store.specs.Dumps.{dump_text}
use Rattle.desk_store.proofs.Exporting.{sent-front}
use Rattle.desk_app.proofs.service.tell_dump.Goals as goal

pub returns-in-Err-clause-front : goal.returns-in-Err-clause-front
returns-in-Err-clause-front g c =
    sent-front (g.W.Write.contents c.args.writer.now) (g.W.Write.contents c.write_dump.new.writer)
    (dump_text (state_of c.args.shop.now)) (Err c.in-Err.field-0) c.in-Err.ensures
