-- What comes of sending lines again.
use Rattle.std.specs.Prelude.{◌≡◌, ◌⊎◌, ℕ, true, false, List, [], ◌∷◌, ◌++◌, IsSome, Ok}
use Rattle.desk_core.specs.Machine.{State, step}
use Rattle.desk_core.specs.declared.command.Request.{Request as Req}
use Rattle.desk_wire.specs.Reading as reading
use Rattle.desk_wire.specs.declared.read.Wish.TheVariants.{Request}
use Rattle.desk_app.specs.declared.options.LineOptions.{LineOptions}
use Rattle.desk_app.specs.Runs.{all_fine, is_blank, naming, run_after, run_out}

-- The line asks for something under a key in the state s, and for the same in a later one. Where no row may be named, the
-- two are one; a name that is still the name of the same row makes them one, too.
pub record AsksUnderKey (options : LineOptions) (later s : State) (line : List ℕ) : Type 0 where
  pub request : Req
  pub filled : is_blank line ≡ false
  pub read : reading.line (naming options.names s) line ≡ Ok (Request request)
  pub read_again : reading.line (naming options.names later) line ≡ Ok (Request request)
  pub keyed : IsSome request.key

-- each of the lines does, in the state that those before it leave, or is blank
abbrev pub AskUnderKeys : LineOptions → State → State → List (List ℕ) → Type 0
AskUnderKeys options later s [] = Unit {0}
AskUnderKeys options later s (line ∷ lines) =
    ((is_blank line ≡ true) × AskUnderKeys options later s lines)
    ⊎ ((asks : AsksUnderKey options later s line) × AskUnderKeys options later (step s asks.request).0 lines)

-- where the first lines of a text ask for something under keys or are blank, were run and accepted, and stand in the books,
-- and no other line does: the whole text, sent again, ends in the state and with the answers of a text that is sent once
abbrev pub LinesSentAgainEndAlike : Type 0
LinesSentAgainEndAlike =
    (options : LineOptions) (s : State) (done rest : List (List ℕ))
    → (let then_ = run_after options s 1 done in
    AskUnderKeys options then_ s done
    → all_fine options s 1 done ≡ true
    → (run_after options then_ 1 (done ++ rest) ≡ run_after options s 1 (done ++ rest))
    × (run_out options then_ 1 (done ++ rest) ≡ run_out options s 1 (done ++ rest)))
