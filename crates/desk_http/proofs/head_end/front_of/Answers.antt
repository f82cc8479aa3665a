use Rattle.desk_http.specs.HeadEnds.{front}
use Rattle.desk_http.proofs.Arriving.{all_short}
use Rattle.desk_http.proofs.head_end.front_of.Goals as goal

pub returns-then-bytes-lt8192-clause-front : goal.returns-then-bytes-lt8192-clause-front
unfolding front
returns-then-bytes-lt8192-clause-front c = all_short 8192 c.args.bytes.now c.if-bytes-lt8192.true
