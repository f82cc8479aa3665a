use Rattle.desk_wire.proofs.Words as words
use Rattle.desk_wire.proofs.row_words.words_are_numbers.Goals as goal

pub returns : goal.returns
returns c = words.words_are_numbers
