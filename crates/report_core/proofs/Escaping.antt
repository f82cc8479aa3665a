-- A text that is escaped, character by character.
use Rattle.std.proofs.Common.{◌≡◌, ℕ, ◌+◌, ◌<◌, List, [], ◌++◌, length, drop, get_or, ap, sym, ◌∙◌, append_assoc}
use Rattle.std.proofs.lemmas.List.{at_drop_more}
use Rattle.std.specs.Str.{chars}
use Rattle.report_core.specs.Escaped.{escaped, escaped_char, escaped_chars}

pub nothing_escaped : (text line : List ℕ) → line ≡ [] → line ++ escaped_chars (chars text) ≡ escaped text
unfolding escaped
nothing_escaped text line e = ap (λ v. v ++ escaped_chars (chars text)) e

-- a character's turn
pub one_escaped : (cs line line' : List ℕ) (i c : ℕ) (all : List ℕ) → (i < length cs) × (c ≡ get_or cs i c)
    → line' ≡ line ++ escaped_char c → line ++ escaped_chars (drop i cs) ≡ all
    → line' ++ escaped_chars (drop (i + 1) cs) ≡ all
one_escaped cs line line' i c all turn pushed so_far =
    ap (λ v. v ++ escaped_chars (drop (i + 1) cs)) pushed
    ∙ append_assoc line (escaped_char c) (escaped_chars (drop (i + 1) cs))
    ∙ ap (λ v. line ++ (escaped_char v ++ escaped_chars (drop (i + 1) cs))) turn.1
    ∙ sym (at_drop_more (λ rest. line ++ escaped_chars rest) cs i c turn.0)
    ∙ so_far
