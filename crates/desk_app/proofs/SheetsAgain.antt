-- Files of a command, as texts of lines.
use Rattle.std.proofs.Common.{◌≡◌, ◌∙◌, ◌⊎◌, ◌+◌, ◌++◌, ◌==◌, ◌&&◌, ℕ, List, [], ◌∷◌, Bool, true, false, cond, not, refl, sym, ap, subst, inl, inr}
use Rattle.std.proofs.Common.{append-nil, true≢false}
use Rattle.std.specs.Prelude.{Option, Result, Ok, Err}
use Rattle.std.specs.List.{list_all}
use Rattle.std.proofs.lemmas.Bool.{and_parts}
use Rattle.desk_core.specs.Machine.{State}
use Rattle.desk_core.specs.Naming.{Naming}
use Rattle.desk_wire.specs.declared.fault.What.{What}
use Rattle.desk_wire.specs.declared.read.Wish.{Wish}
use Rattle.desk_wire.specs.declared.read.Wish.TheVariants.{Request, Report}
use Rattle.desk_wire.specs.Reading as reading
use Rattle.desk_wire.specs.SheetLaws.{AreKeyed, AreLinesOf, IsKeyed, SheetsAreLines, SheetsAskUnderKeys, ended, is_one_line}
use Rattle.desk_app.specs.LinesAgain.{AskUnderKeys, AsksUnderKey, LinesSentAgainEndAlike}
use Rattle.desk_app.specs.Runs.{all_fine, by_wish, is_blank, is_fine, line_after, line_step, lines_of, naming, onto_first, run_after, run_out}
use Rattle.desk_app.specs.SheetRuns.{sheet_options}
use Rattle.desk_app.specs.SheetsAgain.{AreReadAlike, SheetsSentAgainChangeNothing, TextsAreLines, TextsRunAlike}
use Rattle.desk_app.proofs.LinesAgain.{blank_step}
use Rattle.desk_app.proofs.Stepping.{keyed_after}

-- ---- line by line

not_true : (c : Bool) → not c ≡ true → c ≡ false
not_true true e = sym e
not_true false e = refl

-- one line, and what stands behind its end
first_line : (l rest : List ℕ) → is_one_line l ≡ true → lines_of (l ++ 10 ∷ rest) ≡ l ∷ lines_of rest
first_line [] rest h = refl
first_line (b ∷ l) rest h =
    let parts = and_parts (not (b == 10)) (is_one_line l) h in
    ap (λ c. cond c ([] ∷ lines_of (l ++ 10 ∷ rest)) (onto_first b (lines_of (l ++ 10 ∷ rest))))
    (not_true (b == 10) parts.0)
    ∙ ap (onto_first b) (first_line l rest parts.1)

lines_ended : (ls : List (List ℕ)) → list_all is_one_line ls ≡ true → lines_of (ended ls) ≡ ls
lines_ended [] h = refl
lines_ended (l ∷ ls) h =
    let parts = and_parts (is_one_line l) (list_all is_one_line ls) h in
    first_line l (ended ls) parts.0 ∙ ap (λ ks. l ∷ ks) (lines_ended ls parts.1)

one_line_each : (line : ℕ → List (List ℕ) → Result (List ℕ) What) (n : ℕ) (rs : List (List (List ℕ))) (ls : List (List ℕ))
    → AreLinesOf line n rs ls → list_all is_one_line ls ≡ true
one_line_each line n [] [] h = refl
one_line_each line n [] (l ∷ ls) h = absurd h
one_line_each line n (r ∷ rs) [] h = absurd h
one_line_each line n (r ∷ rs) (l ∷ ls) h =
    ap (λ c. c && list_all is_one_line ls) h.1 ∙ one_line_each line (n + 1) rs ls h.2

pub texts_are_lines : SheetsAreLines → TextsAreLines
texts_are_lines law sheet bytes text e =
    let parts = law sheet bytes text e in (
      parts,
      ap lines_of parts.whole
          ∙ lines_ended ([] ∷ parts.lines) (one_line_each _ _ _ parts.lines parts.each),
    )

-- ---- run alone

pub texts_run_alike : TextsRunAlike
texts_run_alike text short = (rw short refl, rw short refl)

-- ---- sent again

-- a line that was run and refused nothing asks for something under its key
asks_by : (later s : State) (n : ℕ) (l : List ℕ) (o : Result Wish What) → is_blank l ≡ false
    → reading.line (naming true s) l ≡ o → ((wish : Wish) → o ≡ Ok wish → IsKeyed wish)
    → reading.line (naming true later) l ≡ reading.line (naming true s) l → is_fine sheet_options s n l ≡ true
    → AsksUnderKey sheet_options later s l
unfolding line_step
asks_by later s n l (Err what) filled read keyed alike fine =
    absurd (true≢false (sym fine ∙ ap (λ c. (cond c (s, [], true) (by_wish false s n (reading.line (naming true s) l))).2) filled
    ∙ ap (λ o. (by_wish false s n o).2) read))
asks_by later s n l (Ok (Report name of)) filled read keyed alike fine = absurd (keyed (Report name of) refl)
asks_by later s n l (Ok (Request r)) filled read keyed alike fine = record {
  request = r;
  filled = filled;
  read = read;
  read_again = alike ∙ read;
  keyed = keyed (Request r) refl;
}

ask_under_keys : (later s : State) (n : ℕ) (ls : List (List ℕ)) → AreKeyed ls → AreReadAlike later s n ls
    → all_fine sheet_options s n ls ≡ true → AskUnderKeys sheet_options later s ls
ask_under_keys later s n [] keyed alike fine = tt
ask_under_keys later s n (l ∷ ls) keyed alike fine =
    by (is_blank l) refl keyed.0 (ask_under_keys later (line_after sheet_options s n l) (n + 1) ls keyed.1 alike.1 parts.1)
  where
    parts : (is_fine sheet_options s n l ≡ true) × (all_fine sheet_options (line_after sheet_options s n l) (n + 1) ls ≡ true)
    parts = and_parts (is_fine sheet_options s n l) (all_fine sheet_options (line_after sheet_options s n l) (n + 1) ls) fine

    by : (c : Bool) → is_blank l ≡ c
        → (l ≡ []) ⊎ ((names : Option Naming) (wish : Wish) → reading.line names l ≡ Ok wish → IsKeyed wish)
        → AskUnderKeys sheet_options later (line_after sheet_options s n l) ls → AskUnderKeys sheet_options later s (l ∷ ls)
    by true blank k rest =
        inl (blank, subst (λ t. AskUnderKeys sheet_options later t ls) (ap (λ t. t.0) (blank_step sheet_options s n l blank)) rest)
    by false filled (inl none) rest = absurd (true≢false (ap is_blank (sym none) ∙ filled))
    by false filled (inr each) rest =
        let asks =
        asks_by later s n l (reading.line (naming true s) l) filled refl (each (naming true s)) alike.0 parts.0 in
        inr (
          asks,
          subst (λ t. AskUnderKeys sheet_options later t ls) (keyed_after sheet_options s n l asks.request asks.filled asks.read asks.keyed)
              rest,
        )

pub sent_again : LinesSentAgainEndAlike → SheetsAskUnderKeys → SheetsSentAgainChangeNothing
sent_again again law command sheet bytes text s form e alike fine =
    let (ls, one, keyed, whole) = law command sheet bytes text form e in
    let same : lines_of text ≡ ls = ap lines_of whole ∙ lines_ended ls one in
    let lines = lines_of text in
    let there = run_after sheet_options s 1 lines in
    let asks = ask_under_keys there s 1 lines (subst AreKeyed (sym same) keyed) alike fine in
    let ends = again sheet_options s lines [] asks fine in
    let all = append-nil lines in (
      ap (run_after sheet_options there 1) (sym all) ∙ ends.0 ∙ ap (run_after sheet_options s 1) all,
      ap (run_out sheet_options there 1) (sym all) ∙ ends.1 ∙ ap (run_out sheet_options s 1) all,
    )
