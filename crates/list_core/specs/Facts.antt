-- What a reason says of the rows that a command names, and of the amounts that it asks for: facts of the tables.
use Rattle.std.specs.Prelude.{ℕ, nat_lt, ◌==◌, Bool, List, [], ◌∷◌, ◌++◌, length, map, filter, decimal, codes}
use Rattle.std.specs.Prelude.{Option, Some, None, option_map}
use Rattle.std.specs.FinMap as table
use Rattle.part_core.specs.Catalogue.{category_in, part_in}
use Rattle.word_core.specs.Flags.{flag_words}
use Rattle.word_core.specs.Forms.{Blanks, Form, form_named}
use Rattle.word_core.specs.Side.{side_name}
use Rattle.word_core.specs.Status.{status_name}
use Rattle.word_core.specs.declared.field.Field.{Field}
use Rattle.word_core.specs.declared.field.Field.TheVariants as field
use Rattle.word_core.specs.declared.field.FieldKind.{FieldKind}
use Rattle.word_core.specs.declared.field.FieldKind.TheVariants as kind
use Rattle.word_core.specs.declared.field.RowKind.{RowKind}
use Rattle.word_core.specs.declared.field.RowKind.TheVariants as table_of
use Rattle.part_core.specs.declared.part.Part.{Part}
use Rattle.forest.specs.declared.item.Item.{Item}
use Rattle.bom_core.specs.declared.line.Line.{Line}
use Rattle.bom_core.specs.declared.substitute.Substitute.{Substitute}
use Rattle.alloc_core.specs.Allocations.{allocated_for_sale_line, allocation_in}
use Rattle.alloc_core.specs.declared.allocation.Allocation.{Allocation}
use Rattle.alloc_core.specs.declared.purpose.Purpose.{Purpose}
use Rattle.alloc_core.specs.declared.purpose.Purpose.TheVariants.{Sale, Build}
use Rattle.order_core.specs.declared.line.OrderLine.{OrderLine}
use Rattle.order_core.specs.declared.order.Order.{Order}
use Rattle.build_core.specs.declared.build.Build as builds
use Rattle.build_core.specs.declared.shortage.Shortage.{Shortage}
use Rattle.desk_core.specs.Machine.{State}
use Rattle.list_core.specs.Amounts.{free_of}
use Rattle.list_core.specs.BuildList.{build_state_name}
use Rattle.report_core.specs.Shortage.{wants_of}
use Rattle.report_core.specs.Fields.{name_of}
use Rattle.list_core.specs.ItemList.{where_text}
use Rattle.list_core.specs.OrderList.{order_state_name, outstanding}
use Rattle.list_core.specs.PartList.{line_words, spaced, word_if}
use Rattle.list_core.specs.Ways.{way_text}

-- ---- words

-- texts with a comma between two
abbrev pub commas : List (List ℕ) → List ℕ
commas [] = []
commas (w ∷ []) = w
commas (w ∷ v ∷ vs) = w ++ (codes ", " ++ commas (v ∷ vs))

-- so many of something
abbrev pub many : ℕ → List ℕ → List ℕ
many n what = decimal n ++ (codes " " ++ what)

-- so many of a part, as outstanding or missing
abbrev pub many_of : ℕ → List ℕ → List ℕ → List ℕ
many_of n part what = decimal n ++ (codes " of " ++ (part ++ (codes " " ++ what)))

-- something with its number
abbrev pub numbered : List ℕ → ℕ → List ℕ
numbered what n = what ++ (codes " " ++ decimal n)

-- ---- what is said of a row

abbrev pub part_words : Part → List (List ℕ)
part_words part = part.name ∷ (flag_words part.flags ++ word_if part.retired (codes "retired"))

-- a line of a bill: how many go into one piece, and what it asks for
abbrev pub line_facts : State → Line → List (List ℕ)
line_facts s line =
    many line.quantity (name_of (part_in line.component s.parts))
    ∷ (codes "in " ++ name_of (part_in line.assembly s.parts))
    ∷ line_words line.flags

abbrev pub substitute_words : State → Substitute → List (List ℕ)
substitute_words s substitute =
    name_of (part_in substitute.part s.parts) ∷ numbered (codes "in line") substitute.line ∷ []

abbrev pub serial_words : Option (List ℕ) → List (List ℕ)
serial_words None = []
serial_words (Some serial) = (codes "serial " ++ serial) ∷ []

abbrev pub batch_words : Option (List ℕ) → List (List ℕ)
batch_words None = []
batch_words (Some batch) = (codes "batch " ++ batch) ∷ []

-- the batch and the serial of an item, where it has one
abbrev pub lot_words : Item → List (List ℕ)
lot_words item = batch_words item.lot.batch ++ serial_words item.lot.serial

-- an item: its part, its batch, its serial, where it is, how much of it there is, how much of that is free, and its status
abbrev pub item_words : State → Item → List (List ℕ)
item_words s item =
    name_of (part_in item.part s.parts)
    ∷ (lot_words item
    ++ (where_text s item.place
    ∷ decimal item.quantity
    ∷ many (free_of s item) (codes "free")
    ∷ status_name item.lot.status
    ∷ []))

abbrev pub order_words : Order → List (List ℕ)
order_words order = side_name order.side ∷ order_state_name order.state ∷ order.partner ∷ []

-- whether something of a line is outstanding
abbrev pub is_left : Order → OrderLine → Bool
is_left order line = nat_lt 0 (outstanding order line)

-- how much of a line is
abbrev pub left_fact : State → Order → OrderLine → List ℕ
left_fact s order line =
    many_of (outstanding order line) (name_of (part_in line.part s.parts)) (codes "outstanding")

-- of an order: what is said of it, and what is outstanding of each of its lines of which something is, by number
abbrev pub order_facts : State → Order → List (List ℕ)
order_facts s order =
    order_words order
    ++ map (left_fact s order)
    (filter (is_left order) (filter (λ l. l.order == order.number) (table.values s.order_lines)))

-- what is said of the order that a line is of, and how many are still outstanding
abbrev pub by_order : OrderLine → Option Order → List (List ℕ)
by_order line None = []
by_order line (Some order) = many (outstanding order line) (codes "outstanding") ∷ order_words order

-- a line of an order: how many are wanted, done and allocated, and what is said of its order
abbrev pub order_line_words : State → OrderLine → List (List ℕ)
order_line_words s line =
    name_of (part_in line.part s.parts)
    ∷ many line.quantity (codes "wanted")
    ∷ many line.done (codes "done")
    ∷ many (allocated_for_sale_line line.number s.allocations) (codes "allocated")
    ∷ numbered (codes "order") line.order
    ∷ by_order line (table.get s.orders (line.order ∷ []))

abbrev pub build_words : State → builds.Build → List (List ℕ)
build_words s build =
    name_of (part_in build.part s.parts)
    ∷ build_state_name build.state
    ∷ many build.quantity (codes "wanted")
    ∷ many build.done (codes "done")
    ∷ []

-- whether something is missing of what a build wants of a line
abbrev pub is_missing : Shortage → Bool
is_missing want = nat_lt 0 want.missing

-- how much is
abbrev pub missing_fact : State → Shortage → List ℕ
missing_fact s want = many_of want.missing (name_of (part_in want.component s.parts)) (codes "missing")

-- of a build: what is said of it, and what is missing of each line of which something is, by number
abbrev pub build_facts : State → builds.Build → List (List ℕ)
build_facts s build = build_words s build ++ map (missing_fact s) (filter is_missing (wants_of build.number s))

abbrev pub output_words : Option ℕ → List (List ℕ)
output_words None = []
output_words (Some output) = numbered (codes "output") output ∷ []

-- what an allocation is for
abbrev pub purpose_words : Purpose → List (List ℕ)
purpose_words (Sale order line) = numbered (codes "order") order ∷ numbered (codes "line") line ∷ []
purpose_words (Build build line output) =
    numbered (codes "build") build ∷ numbered (codes "line") line ∷ output_words output

abbrev pub allocation_words : Allocation → List (List ℕ)
allocation_words allocation =
    decimal allocation.quantity ∷ numbered (codes "item") allocation.item ∷ purpose_words allocation.purpose

-- what is said of the row of that number in a table; none where there is no such row
abbrev pub row_words : State → RowKind → ℕ → Option (List (List ℕ))
row_words s table_of.Category n =
    option_map (λ _. way_text (Some n) s.parts.categories ∷ []) (category_in n s.parts)
row_words s table_of.Part n = option_map part_words (part_in n s.parts)
row_words s table_of.Line n = option_map (line_facts s) (table.get s.bills.lines (n ∷ []))
row_words s table_of.Substitute n = option_map (substitute_words s) (table.get s.bills.substitutes (n ∷ []))
row_words s table_of.Location n =
    option_map (λ _. way_text (Some n) s.stock.locations ∷ []) (table.get s.stock.locations (n ∷ []))
row_words s table_of.Item n = option_map (item_words s) (table.get s.stock.items (n ∷ []))
row_words s table_of.Order n = option_map (order_facts s) (table.get s.orders (n ∷ []))
row_words s table_of.OrderLine n = option_map (order_line_words s) (table.get s.order_lines (n ∷ []))
row_words s table_of.Build n = option_map (build_facts s) (table.get s.builds (n ∷ []))
row_words s table_of.Allocation n = option_map allocation_words (allocation_in n s.allocations)

abbrev pub words_or_none : Option (List (List ℕ)) → List ℕ
words_or_none None = codes "no such row"
words_or_none (Some words) = commas words

-- a row that a field names: the field, the row's number, and what is said of it
abbrev pub row_fact : State → List ℕ → RowKind → ℕ → List ℕ
row_fact s name kind n =
    numbered name n ++ (codes " (" ++ (words_or_none (row_words s kind n) ++ codes ")"))

-- ---- what is said of a field, and of a command

abbrev pub text_fact : List ℕ → List ℕ → List ℕ
text_fact name text = name ++ (codes " " ++ text)

-- the words of flags, or that there are none
abbrev pub words_or_nothing : List (List ℕ) → List ℕ
words_or_nothing [] = codes "none"
words_or_nothing (w ∷ ws) = spaced (w ∷ ws)

-- A field of a command: each row that it names, an amount, a text, flags, a status, a side, or how many serials there
-- are.
abbrev pub field_facts : State → List ℕ → FieldKind → Field → List (List ℕ)
field_facts s name kind.Number (field.Number n) = numbered name n ∷ []
field_facts s name (kind.Row of) (field.Number n) = row_fact s name of n ∷ []
field_facts s name (kind.MaybeRow of) (field.MaybeNumber (Some n)) = row_fact s name of n ∷ []
field_facts s name (kind.Rows of) (field.Numbers ns) = map (row_fact s name of) ns
field_facts s name kind.Text (field.Text text) = text_fact name text ∷ []
field_facts s name kind.MaybeText (field.MaybeText (Some text)) = text_fact name text ∷ []
field_facts s name kind.Flags (field.Flags flags) = text_fact name (words_or_nothing (flag_words flags)) ∷ []
field_facts s name kind.Status (field.Status status) = text_fact name (status_name status) ∷ []
field_facts s name kind.Side (field.Side side) = text_fact name (side_name side) ∷ []
field_facts s name kind.Serials (field.Serials serials) = many (length serials) name ∷ []
field_facts s name kind.MaybeSerials (field.MaybeSerials (Some serials)) = many (length serials) name ∷ []
field_facts s name _ _ = []

abbrev pub facts_from : State → Blanks → List Field → List (List ℕ)
facts_from s (b ∷ bs) (x ∷ xs) = field_facts s b.0 b.1 x ++ facts_from s bs xs
facts_from s _ _ = []

abbrev pub facts_by : State → List Field → Option Form → List (List ℕ)
facts_by s fields None = []
facts_by s fields (Some form) = facts_from s form.fields fields

-- the facts of a command of that verb with these fields, in the order of the verb's form
abbrev pub facts_of : List Form → List ℕ → List Field → State → List (List ℕ)
facts_of forms verb fields s = facts_by s fields (form_named verb forms)
