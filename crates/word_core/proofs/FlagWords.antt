-- Flags whose words are written are read of their words.
use Rattle.std.specs.Prelude.{◌≡◌, Some}
use Rattle.std.proofs.Common.{rules}
use Rattle.word_core.specs.declared.flags.Flags.{Flags}
use Rattle.word_core.specs.Flags.{no_flags, with_words, flag_words}

pub words_read : (f : Flags) → with_words no_flags (flag_words f) ≡ Some f
words_read f = grind rules
