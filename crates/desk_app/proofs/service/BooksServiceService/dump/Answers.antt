use Rattle.std.proofs.Common.{arith, subst}
use Rattle.std.proofs.KnownBytes.{Appends-nil}
use Rattle.std.specs.Prelude.{OnErr, OnOk}
use Rattle.std.specs.Io.KnownBytes.{Appends}
use Rattle.desk_store.specs.Dumps.{dump_text}
use Rattle.desk_http.specs.Serving.{AppendsFront}
use Rattle.desk_app.proofs.service.BooksServiceService.dump.Goals as goal

pub returns-in-Ok-clause-whole : goal.returns-in-Ok-clause-whole
returns-in-Ok-clause-whole g c =
    subst (λ s. OnOk c.tell_dump.result (Appends (g.W.Write.contents c.args.writer.now)
    (g.W.Write.contents c.tell_dump.new.writer) (dump_text s))) c.in-Ok.ensures.shop c.tell_dump.ensures.whole

pub returns-in-Ok-clause-front : goal.returns-in-Ok-clause-front
returns-in-Ok-clause-front g c =
    subst (λ s. OnErr c.tell_dump.result (AppendsFront (g.W.Write.contents c.args.writer.now)
    (g.W.Write.contents c.tell_dump.new.writer) (dump_text s))) c.in-Ok.ensures.shop c.tell_dump.ensures.front

pub returns-in-Err-clause-front : goal.returns-in-Err-clause-front
returns-in-Err-clause-front g c = (0, omega arith, Appends-nil (g.W.Write.contents c.args.writer.now))
