-- Flags of parts, and their words.
use Rattle.std.specs.Prelude.{◌≡◌, ℕ, List, [], ◌∷◌, Bool, true, false, ◌&&◌, ◌||◌, codes}
use Rattle.std.specs.Prelude.{Option, Some, None, option_and_then, if◌then◌else◌, refl}
use Rattle.word_core.specs.Named.{named}
use Rattle.word_core.specs.declared.flags.Flag.{Flag}
use Rattle.word_core.specs.declared.flags.Flag.TheVariants.{Template, Assembly, Component, Trackable}
use Rattle.word_core.specs.declared.flags.Flag.TheVariants.{Purchaseable, Salable, Virtual}
use Rattle.word_core.specs.declared.flags.Flags.{Flags}

-- virtual stands with a flag other than component
abbrev pub is_mixed : Flags → Bool
is_mixed f = f.is_virtual && (f.template || f.assembly || f.trackable || f.purchaseable || f.salable)

-- ---- words

abbrev pub flag_word : Flag → List ℕ
flag_word Template = codes "template"
flag_word Assembly = codes "assembly"
flag_word Component = codes "component"
flag_word Trackable = codes "trackable"
flag_word Purchaseable = codes "purchaseable"
flag_word Salable = codes "salable"
flag_word Virtual = codes "virtual"

abbrev pub all_flags : List Flag
all_flags = Template ∷ Assembly ∷ Component ∷ Trackable ∷ Purchaseable ∷ Salable ∷ Virtual ∷ []

pub flags_told : (f : Flag) → named flag_word all_flags (flag_word f) ≡ Some f
flags_told Template = refl
flags_told Assembly = refl
flags_told Component = refl
flags_told Trackable = refl
flags_told Purchaseable = refl
flags_told Salable = refl
flags_told Virtual = refl

abbrev pub no_flags : Flags
no_flags = record {
  template = false;
  assembly = false;
  component = false;
  trackable = false;
  purchaseable = false;
  salable = false;
  is_virtual = false;
}

abbrev pub has_flag : Flags → Flag → Bool
has_flag flags Template = flags.template
has_flag flags Assembly = flags.assembly
has_flag flags Component = flags.component
has_flag flags Trackable = flags.trackable
has_flag flags Purchaseable = flags.purchaseable
has_flag flags Salable = flags.salable
has_flag flags Virtual = flags.is_virtual

abbrev pub set_flag : Flags → Flag → Flags
set_flag flags Template = record flags { template = true }
set_flag flags Assembly = record flags { assembly = true }
set_flag flags Component = record flags { component = true }
set_flag flags Trackable = record flags { trackable = true }
set_flag flags Purchaseable = record flags { purchaseable = true }
set_flag flags Salable = record flags { salable = true }
set_flag flags Virtual = record flags { is_virtual = true }

abbrev pub with_one : Flags → Flag → Option Flags
with_one flags flag = if has_flag flags flag then None else Some (set_flag flags flag)

-- the flags with one more, which wasn't set, by its word
abbrev pub with_word : Flags → List ℕ → Option Flags
with_word flags word = option_and_then (with_one flags) (named flag_word all_flags word)

-- each word sets one flag more
abbrev pub with_words : Flags → List (List ℕ) → Option Flags
with_words flags [] = Some flags
with_words flags (word ∷ words) = option_and_then (λ more. with_words more words) (with_word flags word)

-- the words of those flags that are set
abbrev pub chosen_words : Flags → List Flag → List (List ℕ)
chosen_words flags [] = []
chosen_words flags (flag ∷ rest) =
    if has_flag flags flag then flag_word flag ∷ chosen_words flags rest else chosen_words flags rest

-- in the flags' order
abbrev pub flag_words : Flags → List (List ℕ)
flag_words flags = chosen_words flags all_flags
