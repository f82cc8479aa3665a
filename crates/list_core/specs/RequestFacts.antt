-- What a reason says of a request: what its key was used for, the facts of its command, and which of its serials are
-- taken.
use Rattle.std.specs.Prelude.{ℕ, Bool, not, List, [], ◌∷◌, ◌++◌, map, filter, codes, Option, Some, None, option_map}
use Rattle.std.specs.FinMap as table
use Rattle.word_core.specs.FormTables.{forms_by}
use Rattle.yard_core.specs.Stock.{is_serial_free}
use Rattle.stock_core.specs.declared.stock_command.StockCommand.{StockCommand}
use Rattle.stock_core.specs.declared.stock_command.StockCommand.TheVariants.{Found, Serialise}
use Rattle.order_core.specs.declared.order_command.OrderCommand.{OrderCommand}
use Rattle.order_core.specs.declared.order_command.OrderCommand.TheVariants.{Receive}
use Rattle.build_core.specs.declared.build_command.BuildCommand.{BuildCommand}
use Rattle.build_core.specs.declared.build_command.BuildCommand.TheVariants.{NewOutputs}
use Rattle.desk_core.specs.CommandForms.{command_fields, command_forms, command_verb}
use Rattle.desk_core.specs.Machine.{State}
use Rattle.desk_core.specs.declared.command.Command.{Command}
use Rattle.desk_core.specs.declared.command.Command.TheVariants.{Stock, Order, Build}
use Rattle.desk_core.specs.declared.kept.Kept.{Kept}
use Rattle.list_core.specs.Facts.{commas, facts_of}

-- ---- the key

-- what a key was used for
abbrev pub used_fact : List ℕ → List ℕ → List ℕ
used_fact key command = codes "key " ++ (key ++ (codes " was used for " ++ command))

abbrev pub used_facts : List ℕ → Option Kept → List (List ℕ)
used_facts key None = []
used_facts key (Some kept) = used_fact key kept.command ∷ []

-- of a request's key, where there is one and an answer is kept under it
abbrev pub key_facts : State → Option (List ℕ) → List (List ℕ)
key_facts s None = []
key_facts s (Some key) = used_facts key (table.get s.answers key)

-- ---- the serials

abbrev pub taken_fact : List ℕ → List ℕ
taken_fact serial = codes "serial " ++ (serial ++ codes " is taken")

-- whether a serial isn't free in the part's family
abbrev pub is_taken : State → ℕ → List ℕ → Bool
is_taken s part serial = not (is_serial_free serial part s.parts s.stock)

-- those of the serials, in order
abbrev pub taken_facts : State → List (List ℕ) → Option ℕ → List (List ℕ)
taken_facts s serials None = []
taken_facts s serials (Some part) = map taken_fact (filter (is_taken s part) serials)

-- of new items of a part, if they are to have serials
abbrev pub taken_in : State → Option (List (List ℕ)) → Option ℕ → List (List ℕ)
taken_in s None part = []
taken_in s (Some serials) part = taken_facts s serials part

-- of what is found, its part; of what gets serials, the item's
abbrev pub taken_by_stock : State → StockCommand → List (List ℕ)
taken_by_stock s (Found part location new) = taken_in s new.serials (Some part)
taken_by_stock s (Serialise item quantity serials) =
    taken_facts s serials (option_map (λ x. x.part) (table.get s.stock.items (item ∷ [])))
taken_by_stock s _ = []

-- of what is received, the part of its order's line
abbrev pub taken_by_order : State → OrderCommand → List (List ℕ)
taken_by_order s (Receive line location new) =
    taken_in s new.serials (option_map (λ l. l.part) (table.get s.order_lines (line ∷ [])))
taken_by_order s _ = []

-- of outputs, the part of their build
abbrev pub taken_by_build : State → BuildCommand → List (List ℕ)
taken_by_build s (NewOutputs build new) =
    taken_in s new.serials (option_map (λ b. b.part) (table.get s.builds (build ∷ [])))
taken_by_build s _ = []

-- which of a command's serials are taken
abbrev pub taken : State → Command → List (List ℕ)
taken s (Stock command) = taken_by_stock s command
taken s (Order command) = taken_by_order s command
taken s (Build command) = taken_by_build s command
taken s _ = []

-- ---- all

-- the facts of a command: each row that it names, as the tables have it, and what it asks for
abbrev pub command_facts : State → Command → List (List ℕ)
command_facts s command = facts_of (forms_by command_forms) (command_verb command) (command_fields command) s

-- the facts of a request of that key
abbrev pub request_facts : State → Option (List ℕ) → Command → List ℕ
request_facts s key command = commas (key_facts s key ++ (command_facts s command ++ taken s command))
