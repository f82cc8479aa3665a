use Rattle.list_core.proofs.Commas.{commas_whole}
use Rattle.list_core.proofs.command_facts.commas.Goals as goal

pub loop-word-init : goal.loop-word-init
loop-word-init c = rw c.new-text.ensures.bytes (commas_whole _)
