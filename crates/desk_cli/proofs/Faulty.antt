-- What is found in words that ask for a run or for help.
use Rattle.std.proofs.Common.{◌≡◌, ◌∙◌, ℕ, Bool, true, false, List, [], ◌∷◌, sym, subst, refl, codes, inl, inr}
use Rattle.std.specs.Prelude.{◌≢◌, ◌||◌, Some, None}
use Rattle.std.specs.Str.{bytes_eq}
use Rattle.std.proofs.lemmas.Slice.Eq.{bytes_eq-Decides}
use Rattle.clap.specs.Words.{kind_of, Kinds, IsAmong, HasKind, fault_of, is_simple, is_simple_and_free, Text}
use Rattle.clap.specs.declared.error.Error.{Error}
use Rattle.clap.specs.declared.error.kind.ErrorKind.{ErrorKind}
use Rattle.clap.specs.declared.error.kind.ErrorKind.TheVariants.{DisplayHelp, DisplayVersion, OutOfMemory}
use Rattle.clap.proofs.OnLiterals.{clap_on_literals}
use Rattle.desk_cli.specs.Words.{asks_run, asks_help, asks_version, IsShown}
use Rattle.desk_cli.specs.Words.{faults, command_line, Places, plain_run, desk_task}

nothing_more : (places : Places) (name : Text) → faults places (name ∷ []) ≡ []
unfolding faults clap_on_literals
nothing_more places name = refl

run_alone : (places : Places) (name : Text) → faults places (name ∷ codes "run" ∷ []) ≡ []
unfolding faults clap_on_literals
run_alone places name = refl

long_help : (places : Places) (name : Text) → faults places (name ∷ codes "--help" ∷ []) ≡ DisplayHelp ∷ []
unfolding faults clap_on_literals
long_help places name = refl

short_help : (places : Places) (name : Text) → faults places (name ∷ codes "-h" ∷ []) ≡ DisplayHelp ∷ []
unfolding faults clap_on_literals
short_help places name = refl

long_version : (places : Places) (name : Text) → faults places (name ∷ codes "--version" ∷ []) ≡ DisplayVersion ∷ []
unfolding faults clap_on_literals
long_version places name = refl

short_version : (places : Places) (name : Text) → faults places (name ∷ codes "-V" ∷ []) ≡ DisplayVersion ∷ []
unfolding faults clap_on_literals
short_version places name = refl

nothing_task : (places : Places) (name : Text) → desk_task places (name ∷ []) ≡ Some (plain_run None)
unfolding desk_task clap_on_literals
nothing_task places name = refl

run_task : (places : Places) (name : Text) → desk_task places (name ∷ codes "run" ∷ []) ≡ Some (plain_run None)
unfolding desk_task clap_on_literals
run_task places name = refl

pub is_free : (places : Places) → is_simple_and_free (command_line places) ≡ true
unfolding clap_on_literals
is_free places = refl

pub is_simple_line : (places : Places) → is_simple (command_line places) ≡ true
unfolding clap_on_literals
is_simple_line places = refl

pub is_faults : (places : Places) (words : List Text) → fault_of (command_line places) words ≡ faults places words
unfolding faults
is_faults places words = refl

pub run_is_free : (places : Places) (words : List Text) → asks_run words ≡ true → faults places words ≡ []
run_is_free places [] h = absurd (cc)
run_is_free places (name ∷ []) h = nothing_more places name
run_is_free places (name ∷ word ∷ []) h =
    subst (λ (w : List ℕ). faults places (name ∷ w ∷ []) ≡ []) (sym ((bytes_eq-Decides word (codes "run")).0 h))
    (run_alone places name)
run_is_free places (name ∷ word ∷ more ∷ words) h = absurd (cc)

pub run_is_task : (places : Places) (words : List Text) → asks_run words ≡ true
    → desk_task places words ≡ Some (plain_run None)
run_is_task places [] h = absurd (cc)
run_is_task places (name ∷ []) h = nothing_task places name
run_is_task places (name ∷ word ∷ []) h =
    subst (λ (w : List ℕ). desk_task places (name ∷ w ∷ []) ≡ Some (plain_run None))
    (sym ((bytes_eq-Decides word (codes "run")).0 h)) (run_task places name)
run_is_task places (name ∷ word ∷ more ∷ words) h = absurd (cc)

help_word : (places : Places) (name word : Text) (long short : Bool) → bytes_eq word (codes "--help") ≡ long
    → bytes_eq word (codes "-h") ≡ short → (long || short) ≡ true
    → faults places (name ∷ word ∷ []) ≡ DisplayHelp ∷ []
help_word places name word true short e f h =
    subst (λ (w : List ℕ). faults places (name ∷ w ∷ []) ≡ DisplayHelp ∷ [])
    (sym ((bytes_eq-Decides word (codes "--help")).0 e)) (long_help places name)
help_word places name word false true e f h =
    subst (λ (w : List ℕ). faults places (name ∷ w ∷ []) ≡ DisplayHelp ∷ [])
    (sym ((bytes_eq-Decides word (codes "-h")).0 f)) (short_help places name)
help_word places name word false false e f h = absurd (cc)

pub help_is_found : (places : Places) (words : List Text) → asks_help words ≡ true
    → faults places words ≡ DisplayHelp ∷ []
help_is_found places [] h = absurd (cc)
help_is_found places (name ∷ []) h = absurd (cc)
help_is_found places (name ∷ word ∷ []) h = help_word places name word _ _ refl refl h
help_is_found places (name ∷ word ∷ more ∷ words) h = absurd (cc)

version_word : (places : Places) (name word : Text) (long short : Bool) → bytes_eq word (codes "--version") ≡ long
    → bytes_eq word (codes "-V") ≡ short → (long || short) ≡ true
    → faults places (name ∷ word ∷ []) ≡ DisplayVersion ∷ []
version_word places name word true short e f h =
    subst (λ (w : List ℕ). faults places (name ∷ w ∷ []) ≡ DisplayVersion ∷ [])
    (sym ((bytes_eq-Decides word (codes "--version")).0 e)) (long_version places name)
version_word places name word false true e f h =
    subst (λ (w : List ℕ). faults places (name ∷ w ∷ []) ≡ DisplayVersion ∷ [])
    (sym ((bytes_eq-Decides word (codes "-V")).0 f)) (short_version places name)
version_word places name word false false e f h = absurd (cc)

pub version_is_found : (places : Places) (words : List Text) → asks_version words ≡ true
    → faults places words ≡ DisplayVersion ∷ []
version_is_found places [] h = absurd (cc)
version_is_found places (name ∷ []) h = absurd (cc)
version_is_found places (name ∷ word ∷ []) h = version_word places name word _ _ refl refl h
version_is_found places (name ∷ word ∷ more ∷ words) h = absurd (cc)

found_alone : (k l : ErrorKind) (kinds : Kinds) → kinds ≡ l ∷ [] → IsAmong k kinds → k ≡ l
found_alone k l kinds e h = elim (subst (IsAmong k) e h) [
  | inl same ↦ same
  | inr none ↦ absurd none
]

-- an error other than of memory is one of those found
pub found : (kinds : Kinds) (e : Error) → HasKind kinds e → (kind_of e ≢ OutOfMemory) → IsAmong (kind_of e) kinds
found kinds e (inl memory) q = absurd (q memory)
found kinds e (inr among) q = among

pub shown_remembers : (k : ErrorKind) → IsShown k → k ≢ OutOfMemory
shown_remembers k (inl help) h = absurd (cc)
shown_remembers k (inr version) h = absurd (cc)

pub nothing_among : (k : ErrorKind) (kinds : Kinds) → kinds ≡ [] → IsAmong k kinds → ⊥
nothing_among k kinds e h = subst (IsAmong k) e h

pub no_run : (places : Places) (words : List Text) (k : ErrorKind) → IsAmong k (faults places words)
    → asks_run words ≡ true → ⊥
no_run places words k h a = nothing_among k (faults places words) (run_is_free places words a) h

-- what is found where help or the version is asked for, alone
pub is_help : (places : Places) (words : List Text) (k : ErrorKind) → IsAmong k (faults places words)
    → asks_help words ≡ true → k ≡ DisplayHelp
is_help places words k h a = found_alone k DisplayHelp (faults places words) (help_is_found places words a) h

pub is_version : (places : Places) (words : List Text) (k : ErrorKind) → IsAmong k (faults places words)
    → asks_version words ≡ true → k ≡ DisplayVersion
is_version places words k h a = found_alone k DisplayVersion (faults places words) (version_is_found places words a) h

pub not_free : (places : Places) (words : List Text) → faults places words ≡ [] → asks_help words ≡ true → ⊥
not_free places words h a = let e : [] ≡ DisplayHelp ∷ [] = sym h ∙ help_is_found places words a in absurd (cc)

pub versions_not_free : (places : Places) (words : List Text) → faults places words ≡ [] → asks_version words ≡ true → ⊥
versions_not_free places words h a =
    let e : [] ≡ DisplayVersion ∷ [] = sym h ∙ version_is_found places words a in
    absurd (cc)
