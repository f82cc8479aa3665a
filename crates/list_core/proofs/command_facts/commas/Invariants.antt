use Rattle.std.proofs.Common.{◌≡◌, ◌++◌, drop, map}
use Rattle.std.specs.String.{string_bytes}
use Rattle.list_core.specs.Facts.{commas}
use Rattle.list_core.proofs.Commas.{commas_on}
use Rattle.list_core.proofs.command_facts.commas.Given as goal

-- the text so far and that of what is left are all text
abbrev pub invariant-loop-word : goal.invariant-loop-word
invariant-loop-word l =
    string_bytes l.text ++ commas_on l.later (map string_bytes (drop l.word-index l.texts))
    ≡ commas (map string_bytes l.texts)
