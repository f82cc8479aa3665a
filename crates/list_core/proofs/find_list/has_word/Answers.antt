use Rattle.std.proofs.lemmas.Bool.Decides.{same_from_decides}
use Rattle.std.proofs.lemmas.Str.Pattern.{contains_text}
use Rattle.list_core.specs.FindList.{has_word}
use Rattle.list_core.proofs.WordIn.{has_word_tells}
use Rattle.list_core.proofs.find_list.has_word.Goals as goal

pub returns : goal.returns
returns c = let word = c.args.word.now in let text = c.args.text.now in
    same_from_decides _ (has_word word text) (contains_text c.contains.result word text c.contains.ensures.cases)
    (has_word_tells word text)
