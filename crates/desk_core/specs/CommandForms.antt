-- The forms of all commands: those of each crate, within the type of all commands.
use Rattle.std.specs.Prelude.{◌≡◌, ℕ, List, [], true, Some, refl}
use Rattle.word_core.proofs.JoinedForms.{back_here, back_later, told_within, distinct_within}
use Rattle.word_core.specs.declared.field.Field.{Field}
use Rattle.part_core.specs.declared.part_command.PartCommand.{PartCommand}
use Rattle.word_core.specs.Forms.{Fills, IsCommand, have_distinct, are_distinct, verbs_of}
use Rattle.word_core.specs.FormLaws.{rows_fill, rows_made}
use Rattle.word_core.specs.FormTables.{AllTell, FormRow, command_by, forms_by}
use Rattle.word_core.specs.JoinedForms.{rows_within}
use Rattle.part_core.specs.PartForms.{part_forms, part_verb, part_fields, part_back, part_told, part_distinct}
use Rattle.bom_core.specs.declared.bom_command.BomCommand.{BomCommand}
use Rattle.bom_core.specs.BomForms.{bom_forms, bom_verb, bom_fields, bom_back, bom_told, bom_distinct}
use Rattle.yard_core.specs.declared.yard_command.YardCommand.{YardCommand}
use Rattle.yard_core.specs.YardForms.{yard_forms, yard_verb, yard_fields, yard_back, yard_told, yard_distinct}
use Rattle.alloc_core.specs.declared.alloc_command.AllocCommand.{AllocCommand}
use Rattle.alloc_core.specs.AllocForms.{alloc_forms, alloc_verb, alloc_fields, alloc_back, alloc_told, alloc_distinct}
use Rattle.stock_core.specs.declared.stock_command.StockCommand.{StockCommand}
use Rattle.stock_core.specs.StockForms.{stock_forms, stock_verb, stock_fields, stock_back, stock_told, stock_distinct}
use Rattle.order_core.specs.declared.order_command.OrderCommand.{OrderCommand}
use Rattle.order_core.specs.OrderForms.{order_forms, order_verb, order_fields, order_back, order_told, order_distinct}
use Rattle.build_core.specs.declared.build_command.BuildCommand.{BuildCommand}
use Rattle.build_core.specs.BuildForms.{build_forms, build_verb, build_fields, build_back, build_told, build_distinct}
use Rattle.desk_core.specs.declared.command.Command.{Command}
use Rattle.desk_core.specs.declared.command.Command.TheVariants.{Part, Bom, Yard, Stock, Alloc, Order, Build}

-- ---- the table, from its last crate to its first. Stock comes first, since most requests are of it

unfoldable pub from_alloc : List (FormRow Command)
from_alloc = rows_within Alloc alloc_forms []

unfoldable pub from_yard : List (FormRow Command)
from_yard = rows_within Yard yard_forms from_alloc

unfoldable pub from_bom : List (FormRow Command)
from_bom = rows_within Bom bom_forms from_yard

unfoldable pub from_part : List (FormRow Command)
from_part = rows_within Part part_forms from_bom

unfoldable pub from_build : List (FormRow Command)
from_build = rows_within Build build_forms from_part

unfoldable pub from_order : List (FormRow Command)
from_order = rows_within Order order_forms from_build

unfoldable pub command_forms : List (FormRow Command)
command_forms = rows_within Stock stock_forms from_order

abbrev pub command_verb : Command → List ℕ
command_verb (Part c) = part_verb c
command_verb (Bom c) = bom_verb c
command_verb (Yard c) = yard_verb c
command_verb (Stock c) = stock_verb c
command_verb (Alloc c) = alloc_verb c
command_verb (Order c) = order_verb c
command_verb (Build c) = build_verb c

abbrev pub command_fields : Command → List Field
command_fields (Part c) = part_fields c
command_fields (Bom c) = bom_fields c
command_fields (Yard c) = yard_fields c
command_fields (Stock c) = stock_fields c
command_fields (Alloc c) = alloc_fields c
command_fields (Order c) = order_fields c
command_fields (Build c) = build_fields c

-- ---- no verb stands twice, so what a crate makes of a verb is made by the whole table too

abbrev AreOnce : List (FormRow Command) → Type 0
AreOnce rows = are_distinct (verbs_of (forms_by rows)) ≡ true

-- the rows make this command of its verb and its fields
abbrev Makes : List (FormRow Command) → Command → Type 0
Makes rows c = command_by rows (command_verb c) (command_fields c) ≡ Some c

once_from_yard : AreOnce from_yard
unfolding from_yard from_alloc yard_forms alloc_forms
once_from_yard = refl

once_from_bom : AreOnce from_bom
unfolding from_bom from_yard from_alloc bom_forms yard_forms alloc_forms
once_from_bom = refl

once_from_part : AreOnce from_part
unfolding from_part from_bom from_yard from_alloc part_forms bom_forms yard_forms alloc_forms
once_from_part = refl

once_from_build : AreOnce from_build
unfolding from_build from_part from_bom from_yard from_alloc build_forms part_forms bom_forms yard_forms alloc_forms
once_from_build = refl

once_from_order : AreOnce from_order
unfolding from_order from_build from_part from_bom from_yard from_alloc order_forms build_forms part_forms bom_forms
    yard_forms alloc_forms
once_from_order = refl

once : AreOnce command_forms
unfolding command_forms from_order from_build from_part from_bom from_yard from_alloc stock_forms order_forms
    build_forms part_forms bom_forms yard_forms alloc_forms
once = refl

past_yard : (c : Command) → Makes from_alloc c → Makes from_yard c
unfolding from_yard
past_yard c = back_later Yard yard_forms from_alloc (command_verb c) (command_fields c) c once_from_yard

past_bom : (c : Command) → Makes from_yard c → Makes from_bom c
unfolding from_bom
past_bom c = back_later Bom bom_forms from_yard (command_verb c) (command_fields c) c once_from_bom

past_part : (c : Command) → Makes from_bom c → Makes from_part c
unfolding from_part
past_part c = back_later Part part_forms from_bom (command_verb c) (command_fields c) c once_from_part

past_build : (c : Command) → Makes from_part c → Makes from_build c
unfolding from_build
past_build c = back_later Build build_forms from_part (command_verb c) (command_fields c) c once_from_build

past_order : (c : Command) → Makes from_build c → Makes from_order c
unfolding from_order
past_order c = back_later Order order_forms from_build (command_verb c) (command_fields c) c once_from_order

past_stock : (c : Command) → Makes from_order c → Makes command_forms c
unfolding command_forms
past_stock c = back_later Stock stock_forms from_order (command_verb c) (command_fields c) c once

stock_here : (c : StockCommand) → Makes command_forms (Stock c)
unfolding command_forms
stock_here c = back_here Stock stock_forms from_order (stock_verb c) (stock_fields c) c (stock_back c)

order_here : (c : OrderCommand) → Makes from_order (Order c)
unfolding from_order
order_here c = back_here Order order_forms from_build (order_verb c) (order_fields c) c (order_back c)

build_here : (c : BuildCommand) → Makes from_build (Build c)
unfolding from_build
build_here c = back_here Build build_forms from_part (build_verb c) (build_fields c) c (build_back c)

part_here : (c : PartCommand) → Makes from_part (Part c)
unfolding from_part
part_here c = back_here Part part_forms from_bom (part_verb c) (part_fields c) c (part_back c)

bom_here : (c : BomCommand) → Makes from_bom (Bom c)
unfolding from_bom
bom_here c = back_here Bom bom_forms from_yard (bom_verb c) (bom_fields c) c (bom_back c)

yard_here : (c : YardCommand) → Makes from_yard (Yard c)
unfolding from_yard
yard_here c = back_here Yard yard_forms from_alloc (yard_verb c) (yard_fields c) c (yard_back c)

alloc_here : (c : AllocCommand) → Makes from_alloc (Alloc c)
unfolding from_alloc
alloc_here c = back_here Alloc alloc_forms [] (alloc_verb c) (alloc_fields c) c (alloc_back c)

-- what a crate behind those of stock, of orders and of builds makes, the whole table makes
past_three : (c : Command) → Makes from_part c → Makes command_forms c
past_three c made = past_stock c (past_order c (past_build c made))

-- ---- the laws of the table

pub command_back : (c : Command) → Makes command_forms c
command_back (Part c) = past_three (Part c) (part_here c)
command_back (Bom c) = past_three (Bom c) (past_part (Bom c) (bom_here c))
command_back (Yard c) = past_three (Yard c) (past_part (Yard c) (past_bom (Yard c) (yard_here c)))
command_back (Alloc c) =
    past_three (Alloc c) (past_part (Alloc c) (past_bom (Alloc c) (past_yard (Alloc c) (alloc_here c))))
command_back (Order c) = past_stock (Order c) (order_here c)
command_back (Build c) = past_stock (Build c) (past_order (Build c) (build_here c))
command_back (Stock c) = stock_here c

pub command_fills : (c : Command) → Fills (forms_by command_forms) (command_verb c) (command_fields c)
command_fills c = rows_fill command_forms (command_verb c) (command_fields c) c (command_back c)

abbrev AreTold : List (FormRow Command) → Type 0
AreTold rows = AllTell command_verb command_fields rows

told_from_alloc : AreTold from_alloc
unfolding from_alloc
told_from_alloc =
    told_within Alloc alloc_verb alloc_fields command_verb command_fields (λ c. refl) (λ c. refl) alloc_forms []
    alloc_told tt

told_from_yard : AreTold from_yard
unfolding from_yard
told_from_yard =
    told_within Yard yard_verb yard_fields command_verb command_fields (λ c. refl) (λ c. refl) yard_forms from_alloc
    yard_told told_from_alloc

told_from_bom : AreTold from_bom
unfolding from_bom
told_from_bom =
    told_within Bom bom_verb bom_fields command_verb command_fields (λ c. refl) (λ c. refl) bom_forms from_yard bom_told
    told_from_yard

told_from_part : AreTold from_part
unfolding from_part
told_from_part =
    told_within Part part_verb part_fields command_verb command_fields (λ c. refl) (λ c. refl) part_forms from_bom
    part_told told_from_bom

told_from_build : AreTold from_build
unfolding from_build
told_from_build =
    told_within Build build_verb build_fields command_verb command_fields (λ c. refl) (λ c. refl) build_forms from_part
    build_told told_from_part

told_from_order : AreTold from_order
unfolding from_order
told_from_order =
    told_within Order order_verb order_fields command_verb command_fields (λ c. refl) (λ c. refl) order_forms from_build
    order_told told_from_build

command_told : AreTold command_forms
unfolding command_forms
command_told =
    told_within Stock stock_verb stock_fields command_verb command_fields (λ c. refl) (λ c. refl) stock_forms from_order
    stock_told told_from_order

pub command_made : (verb : List ℕ) (fields : List Field) → Fills (forms_by command_forms) verb fields
    → IsCommand command_verb command_fields (command_by command_forms verb fields) verb fields
command_made = rows_made command_verb command_fields command_forms command_told

pub command_distinct : have_distinct (forms_by command_forms) ≡ true
unfolding command_forms from_order from_build from_part from_bom from_yard from_alloc
command_distinct =
    distinct_within Stock stock_forms from_order stock_distinct
    (distinct_within Order order_forms from_build order_distinct
    (distinct_within Build build_forms from_part build_distinct
    (distinct_within Part part_forms from_bom part_distinct
    (distinct_within Bom bom_forms from_yard bom_distinct
    (distinct_within Yard yard_forms from_alloc yard_distinct
    (distinct_within Alloc alloc_forms [] alloc_distinct refl))))))
