-- The requests that lines ask for.
use Rattle.std.specs.Prelude.{◌≡◌, ℕ, Bool, false, if◌then◌else◌, List, [], ◌∷◌, ◌++◌, Result, Ok, Err}
use Rattle.desk_core.specs.Machine.{State, run}
use Rattle.desk_core.specs.declared.command.Request.{Request as Req}
use Rattle.desk_wire.specs.Reading as reading
use Rattle.desk_wire.specs.declared.fault.What.{What}
use Rattle.desk_wire.specs.declared.read.Wish.{Wish}
use Rattle.desk_wire.specs.declared.read.Wish.TheVariants.{Request, Report}
use Rattle.desk_app.specs.Journal.{journalled}
use Rattle.desk_app.specs.Runs.{is_blank, naming, run_after}
use Rattle.desk_app.specs.declared.options.LineOptions.{LineOptions}

-- with the journal a request without a key is asked for with the key that it gets
abbrev pub asked_by : Bool → State → Result Wish What → List Req
asked_by journal s (Ok (Request request)) = journalled journal s request ∷ []
asked_by journal s (Ok (Report name of)) = []
asked_by journal s (Err what) = []

-- what one line asks for in this state; a line that is blank, asks for a report or is faulty asks for nothing
abbrev pub asked_in : LineOptions → State → List ℕ → List Req
asked_in options s line =
    if is_blank line then [] else asked_by options.journal s (reading.line (naming options.names s) line)

-- in their order, each line in the state that those before it leave
abbrev pub requests_in : LineOptions → State → List (List ℕ) → List Req
requests_in options s [] = []
requests_in options s (line ∷ lines) =
    asked_in options s line ++ requests_in options (run s (asked_in options s line)).0 lines

-- lines change the state as the requests do that they ask for
abbrev pub LinesAreRequests : Type 0
LinesAreRequests =
    (options : LineOptions) (s : State) (number : ℕ) (lines : List (List ℕ))
    → run_after options s number lines ≡ (run s (requests_in options s lines)).0

-- no row may be named, and no key is given
abbrev pub plain : LineOptions
plain = record { names = false; journal = false }

-- then what lines ask for is said by the lines alone
abbrev pub LinesAloneAsk : Type 0
LinesAloneAsk = (s t : State) (lines : List (List ℕ)) → requests_in plain s lines ≡ requests_in plain t lines
