-- What of a name counts when it is held beside another, how a name is shown to a person, and what of a text counts where
-- a word is looked for in it.
use Rattle.std.specs.Prelude.{ℕ, Bool, true, false, not, ◌==◌, ◌||◌, ◌&&◌, List, [], flat_map, if◌then◌else◌}
use Rattle.std.specs.List.{list_all}
use Rattle.std.specs.Char.{encode_utf8, is_control, is_whitespace}
use Rattle.std.specs.Str.{chars}
use Rattle.ucd_case.specs.CaseFolding.{simple_fold}
use Rattle.ucd_category.specs.GeneralCategory.{general_category}
use Rattle.ucd_category.specs.GeneralCategoryGroup.{in_group}
use Rattle.ucd_category.specs.declared.GeneralCategory.{GeneralCategory}
use Rattle.ucd_category.specs.declared.GeneralCategory.TheVariants.{Format}
use Rattle.ucd_category.specs.declared.GeneralCategoryGroup.TheVariants.{Punctuation}
use Rattle.ucd_derived.specs.Binary.{is_default_ignorable_code_point}
use Rattle.ucd_props.specs.Binary.{is_prepended_concatenation_mark}

abbrev pub is_format : GeneralCategory → Bool
is_format Format = true
is_format _ = false

-- the character has no width: it is ignorable by default, or of format and no mark that is drawn before a number
abbrev pub has_no_width : ℕ → Bool
has_no_width c = is_default_ignorable_code_point c
    || (is_format (general_category c) && not (is_prepended_concatenation_mark c))

-- nothing is seen of the character: it is white space, or has no width, or is one of control
abbrev pub is_unseen : ℕ → Bool
is_unseen c = is_whitespace c || (has_no_width c || is_control c)

-- it is seen, and is no punctuation
abbrev pub counts : ℕ → Bool
counts c = not (is_unseen c) && not (in_group Punctuation (general_category c))

-- of a character that counts itself, in lower case
abbrev pub folded_char : ℕ → List ℕ
folded_char c = if counts c then encode_utf8 (simple_fold c) else []

-- what of a name counts
unfoldable pub fold : List ℕ → List ℕ
fold name = flat_map folded_char (chars name)

-- a text with each character in its folded case, so that letters of either case are alike
unfoldable pub case_fold : List ℕ → List ℕ
case_fold text = flat_map (λ c. encode_utf8 (simple_fold c)) (chars text)

-- nothing is seen of the name
unfoldable pub is_blank : List ℕ → Bool
is_blank name = list_all is_unseen (chars name)

-- of a character of which nothing is seen, but for a space, a square
abbrev pub shown_char : ℕ → List ℕ
shown_char c = encode_utf8 (if is_unseen c && not (c == 32) then 0x25A1 else c)

-- a name as a person is shown it
unfoldable pub shown : List ℕ → List ℕ
shown name = flat_map shown_char (chars name)
