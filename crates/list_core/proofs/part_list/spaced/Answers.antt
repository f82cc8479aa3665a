use Rattle.list_core.proofs.SpacedWords.{spaced_whole}
use Rattle.list_core.proofs.part_list.spaced.Goals as goal

pub loop-word-init : goal.loop-word-init
loop-word-init c = rw c.new-text.ensures.bytes (spaced_whole _)
