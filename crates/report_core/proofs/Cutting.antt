-- A text that is cut, character by character.
use Rattle.std.proofs.Common.{◌≡◌, ℕ, ◌+◌, ◌<◌, List, [], ◌++◌, length, drop, get_or, ap, sym, ◌∙◌, append_assoc, append-nil}
use Rattle.std.proofs.lemmas.List.{at_drop_more}
use Rattle.std.specs.Str.{chars}
use Rattle.report_core.specs.Cut.{cut_chars, cut_lines, kept_char, left_behind}

pub nothing_kept : (line : List ℕ) → line ≡ line ++ []
nothing_kept line = sym (append-nil line)

pub nothing_cut : (most : ℕ) (text line : List ℕ) → line ≡ [] → line ++ cut_chars most most (chars text) ≡ cut_lines most text
unfolding cut_lines
nothing_cut most text line e = ap (λ v. v ++ cut_chars most most (chars text)) e

-- a character's turn
pub one_cut : (most left left' : ℕ) (cs line line' : List ℕ) (i c : ℕ) (all : List ℕ)
    → (i < length cs) × (c ≡ get_or cs i c)
    → line' ≡ line ++ kept_char left c → left' ≡ left_behind most left c → line ++ cut_chars most left (drop i cs) ≡ all
    → line' ++ cut_chars most left' (drop (i + 1) cs) ≡ all
one_cut most left left' cs line line' i c all turn pushed next so_far =
    ap (λ v. v ++ cut_chars most left' (drop (i + 1) cs)) pushed
    ∙ append_assoc line (kept_char left c) (cut_chars most left' (drop (i + 1) cs))
    ∙ ap (λ v. line ++ (kept_char left c ++ cut_chars most v (drop (i + 1) cs))) next
    ∙ ap (λ v. line ++ (kept_char left v ++ cut_chars most (left_behind most left v) (drop (i + 1) cs))) turn.1
    ∙ sym (at_drop_more (λ rest. line ++ cut_chars most left rest) cs i c turn.0)
    ∙ so_far
