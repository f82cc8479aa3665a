use Rattle.std.proofs.Common.{arith, length}
use Rattle.word_core.proofs.Appending.{sent_more, from_index}
use Rattle.std.proofs.Common.{ap, length-drop}
use Rattle.word_core.proofs.sending.write_whole.Goals as goal

pub loop-at-preserved : goal.loop-at-preserved
loop-at-preserved g c =
    record {
      in_range = omega (
        arith,
        c.in-Ok.ensures.bound,
        ap length (from_index c.args.text.now c.loop-at.at),
        length-drop c.loop-at.at c.args.text.now,
      );
      sent = sent_more _ _ _ c.args.text.now c.loop-at.at c.in-Ok.n c.loop-at.invariant.sent c.in-Ok.ensures.bytes;
    }
