use Rattle.desk_http.proofs.Known.{front_of_both, flushed}
use Rattle.desk_http.proofs.send.send_dump.Goals as goal

pub returns-in-Err : goal.returns-in-Err
returns-in-Err g c =
    front_of_both (g.W.Write.contents c.args.writer.now) (g.W.Write.contents c.send.new.writer)
    (g.W.Write.contents c.dump.new.writer) c.args.head.now
    (g.S.Service.machine.show_dump (g.S.Service.state c.args.service.now))
    (rw c.as_bytes.ensures.value at c.in_ok-send.ensures) c.in-Err.ensures.front

pub returns-in-Err-flush : goal.returns-in-Err-flush
returns-in-Err-flush g c =
    flushed (g.W.Write.contents c.args.writer.now) (g.W.Write.contents c.send.new.writer)
    (g.W.Write.contents c.dump.new.writer) (g.W.Write.contents c.flush.new.self) c.args.head.now
    (g.S.Service.machine.show_dump (g.S.Service.state c.args.service.now))
    (rw c.as_bytes.ensures.value at c.in_ok-send.ensures) c.in-Ok.ensures.whole c.in-Err-flush.ensures.bytes
