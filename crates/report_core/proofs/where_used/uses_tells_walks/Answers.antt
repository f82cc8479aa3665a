use Rattle.report_core.proofs.Uses.{sound_names}
use Rattle.report_core.proofs.where_used.uses_tells_walks.Goals as goal

pub returns : goal.returns
returns c s sound number x =
    c.walks_are_short.ensures.walks s.parts s.bills (sound_names s.parts s.bills s.counter.next sound.bills)
    x.number number
