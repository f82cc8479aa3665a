-- What is found in words that name a file for a run.
use Rattle.std.proofs.Common.{◌≡◌, ◌∙◌, ℕ, Bool, true, false, List, [], ◌∷◌, ap, refl}
use Rattle.std.specs.Prelude.{◌==◌, ◌++◌, not, None, Some, codes}
use Rattle.clap.specs.Faults.{check_fault, defaults_fault, level_fault, settle_fault, turn_fault, walk_fault}
use Rattle.clap.specs.Kinds.{Kinds, or_else}
use Rattle.clap.specs.Simple.{Shape, built_leaf, filled_from, help_rule, inherited, marked_built, with_leaf_noted}
use Rattle.clap.specs.Simple.{with_subcommand}
use Rattle.clap.specs.Walk.{Held, Walk, finished, nothing_held, option, rows_after, settled, walked, walk_from}
use Rattle.clap.specs.Words.{IsAmong, Row, Rule, Text, subcommand_of}
use Rattle.clap.specs.declared.error.kind.ErrorKind.{ErrorKind}
use Rattle.clap.proofs.OnLiterals.{clap_on_literals}
use Rattle.desk_cli.specs.Words.{faults, Places, plain_run, run_on, run_with, is_path, desk_task}
use Rattle.desk_cli.specs.Words.{command_line, desk_task_met, run_line, top_line}
use Rattle.desk_cli.proofs.Faulty.{nothing_among}

named_free : (places : Places) (name file : Text) → faults places (run_on name file) ≡ []
unfolding faults clap_on_literals
named_free places name file = refl

named_task : (places : Places) (name file : Text) → desk_task places (run_on name file) ≡ Some (plain_run (Some file))
unfolding desk_task clap_on_literals
named_task places name file = refl

pub run_on_task : (places : Places) (words : List Text) (name file : Text) → words ≡ run_on name file
    → desk_task places words ≡ Some (plain_run (Some file))
run_on_task places words name file e = ap (desk_task places) e ∙ named_task places name file

pub no_run_on : (places : Places) (words : List Text) (k : ErrorKind) → IsAmong k (faults places words)
    → (name file : Text)
    → words ≡ run_on name file → ⊥
no_run_on places words k h name file e =
    nothing_among k (faults places words) (ap (faults places) e ∙ named_free places name file) h

-- the rules of `run`, once built
abbrev run_rules : List Rule
run_rules = filled_from 1 (run_line.top.rules ++ help_rule ∷ [])

-- `run` is met, and all words after it are its own
run_met : (places : Places) (name word more : Text)
    → subcommand_of (command_line places) (name ∷ codes "run" ∷ word ∷ more ∷ [])
    ≡ Some (codes "run", rows_after run_rules [] (word ∷ more ∷ []))
unfolding clap_on_literals
run_met places name word more = refl

-- `--db` waits for its value
waiting : Walk
waiting = record (walk_from (record nothing_held { pending = Some (codes "db", []) })) { waiting = option (codes "db") }

file_waits : walked run_rules [] (walk_from nothing_held) (codes "--db") ≡ waiting
unfolding waiting clap_on_literals
file_waits = refl

told : Text → Held
told file = record nothing_held { pending = Some (codes "db", file ∷ []) }

file_told : (first : ℕ) (rest : Text) → (first == 45) ≡ false
    → walked run_rules [] waiting (first ∷ rest) ≡ walk_from (told (first ∷ rest))
unfolding waiting told clap_on_literals
file_told first rest h = simp h

-- what is told of the flags that aren't given is the default
rows_told : (file : Text) → desk_task_met (Some (codes "run", finished run_rules (told file)))
    ≡ Some (plain_run (Some file))
unfolding told clap_on_literals
rows_told file = refl

rows_met : (first : ℕ) (rest : Text) → (first == 45) ≡ false
    → rows_after run_rules [] (codes "--db" ∷ (first ∷ rest) ∷ []) ≡ finished run_rules (told (first ∷ rest))
rows_met first rest h =
    ap (λ (w : Walk). finished run_rules (walked run_rules [] w (first ∷ rest)).held) file_waits
    ∙ ap (λ (w : Walk). finished run_rules w.held) (file_told first rest h)

-- ---- nothing is wrong with these words

-- `run`, once built
abbrev run_built : Shape
run_built =
    built_leaf (inherited (with_leaf_noted (marked_built (with_subcommand top_line run_line.top).top)) run_line.top)

-- what is wrong with them is what is wrong with those of `run`
begun_met : (places : Places) (name word more : Text)
    → faults places (name ∷ codes "run" ∷ word ∷ more ∷ [])
    ≡ or_else (level_fault run_built [] nothing_held (word ∷ more ∷ []) false []) []
unfolding faults clap_on_literals
begun_met places name word more = refl

file_free : turn_fault run_built [] (walk_from nothing_held) (codes "--db") ≡ []
unfolding clap_on_literals
file_free = refl

value_free : (first : ℕ) (rest : Text) → (first == 45) ≡ false → turn_fault run_built [] waiting (first ∷ rest) ≡ []
unfolding waiting clap_on_literals
value_free first rest h = simp h

turns_free : (first : ℕ) (rest : Text) → (first == 45) ≡ false
    → walk_fault run_built [] (walk_from nothing_held) (codes "--db" ∷ (first ∷ rest) ∷ []) ≡ []
unfolding walk_fault
turns_free first rest h =
    ap
    (λ (k : Kinds). or_else k (or_else (turn_fault run_built []
    (walked run_rules [] (walk_from nothing_held) (codes "--db")) (first ∷ rest)) [])) file_free
    ∙ ap (λ (w : Walk). or_else (turn_fault run_built [] w (first ∷ rest)) []) file_waits
    ∙ ap (λ (k : Kinds). or_else k []) (value_free first rest h)

-- what is wrong once all words are read, of what is held then
abbrev end_fault : Held → Kinds
end_fault held =
    or_else (settle_fault run_rules run_built.args_override_self held)
    (or_else (defaults_fault (settled run_rules held).rows run_rules)
    (check_fault run_built (finished run_rules held) false))

end_free : (file : Text) → end_fault (told file) ≡ []
unfolding told clap_on_literals
end_free file = refl

level_free : (first : ℕ) (rest : Text) → (first == 45) ≡ false
    → level_fault run_built [] nothing_held (codes "--db" ∷ (first ∷ rest) ∷ []) false [] ≡ []
level_free first rest h =
    ap
    (λ (k : Kinds). or_else k (end_fault (walked run_rules [] (walked run_rules [] (walk_from nothing_held) (codes "--db"))
    (first ∷ rest)).held)) (turns_free first rest h)
    ∙ ap (λ (w : Walk). end_fault (walked run_rules [] w (first ∷ rest)).held) file_waits
    ∙ ap (λ (w : Walk). end_fault w.held) (file_told first rest h)
    ∙ end_free (first ∷ rest)

begun_free : (places : Places) (name : Text) (first : ℕ) (rest : Text) → (first == 45) ≡ false
    → faults places (run_with name (first ∷ rest)) ≡ []
begun_free places name first rest h =
    begun_met places name (codes "--db") (first ∷ rest)
    ∙ ap (λ (k : Kinds). or_else k []) (level_free first rest h)

begun_task : (places : Places) (name : Text) (first : ℕ) (rest : Text) → (first == 45) ≡ false
    → desk_task places (run_with name (first ∷ rest)) ≡ Some (plain_run (Some (first ∷ rest)))
unfolding desk_task
begun_task places name first rest h =
    ap desk_task_met (run_met places name (codes "--db") (first ∷ rest))
    ∙ ap (λ (rows : List Row). desk_task_met (Some (codes "run", rows))) (rows_met first rest h)
    ∙ rows_told (first ∷ rest)

no_hyphen : (b : Bool) → not b ≡ true → b ≡ false
no_hyphen true h = absurd (cc)
no_hyphen false h = refl

path_free : (places : Places) (name file : Text) → is_path file ≡ true → faults places (run_with name file) ≡ []
path_free places name [] h = absurd (cc)
path_free places name (first ∷ rest) h = begun_free places name first rest (no_hyphen (first == 45) h)

path_task : (places : Places) (name file : Text) → is_path file ≡ true
    → desk_task places (run_with name file) ≡ Some (plain_run (Some file))
path_task places name [] h = absurd (cc)
path_task places name (first ∷ rest) h = begun_task places name first rest (no_hyphen (first == 45) h)

pub run_with_task : (places : Places) (words : List Text) (name file : Text) → is_path file ≡ true
    → words ≡ run_with name file → desk_task places words ≡ Some (plain_run (Some file))
run_with_task places words name file h e = ap (desk_task places) e ∙ path_task places name file h

pub no_run_with : (places : Places) (words : List Text) (k : ErrorKind) → IsAmong k (faults places words)
    → (name file : Text) → is_path file ≡ true
    → words ≡ run_with name file → ⊥
no_run_with places words k a name file h e =
    nothing_among k (faults places words) (ap (faults places) e ∙ path_free places name file h) a
