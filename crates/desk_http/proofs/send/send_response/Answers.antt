use Rattle.desk_http.proofs.Known.{front_of_both, flushed}
use Rattle.desk_http.proofs.send.send_response.Goals as goal

pub returns-in-Err : goal.returns-in-Err
returns-in-Err g c =
    front_of_both (g.W.Write.contents c.args.writer.now) (g.W.Write.contents c.send.new.writer)
    (g.W.Write.contents c.send-2.new.writer) c.args.head.now c.args.body.now
    (rw c.as_bytes.ensures.value at c.in_ok-send.ensures) c.in-Err.ensures.1

pub returns-in-Err-flush : goal.returns-in-Err-flush
returns-in-Err-flush g c =
    flushed (g.W.Write.contents c.args.writer.now) (g.W.Write.contents c.send.new.writer)
    (g.W.Write.contents c.send-2.new.writer) (g.W.Write.contents c.flush.new.self) c.args.head.now c.args.body.now
    (rw c.as_bytes.ensures.value at c.in_ok-send.ensures) c.in-Ok.ensures c.in-Err-flush.ensures.bytes
