-- A verb's form, and the command of a verb and fields, by the crate that has the verb.
use Rattle.std.proofs.Common.{◌≡◌, ℕ, List, [], ◌∙◌, ap, refl}
use Rattle.std.specs.Prelude.{Option, Some, None, option_map, if◌then◌else◌}
use Rattle.word_core.proofs.JoinedForms.{form_within, command_within, only_within}
use Rattle.word_core.specs.declared.field.Field.{Field}
use Rattle.word_core.specs.Forms.{Form, form_named}
use Rattle.word_core.specs.FormTables.{command_by, forms_by}
use Rattle.word_core.specs.JoinedForms.{or_else, knows}
use Rattle.part_core.specs.PartForms.{part_forms}
use Rattle.bom_core.specs.BomForms.{bom_forms}
use Rattle.yard_core.specs.YardForms.{yard_forms}
use Rattle.alloc_core.specs.AllocForms.{alloc_forms}
use Rattle.stock_core.specs.StockForms.{stock_forms}
use Rattle.order_core.specs.OrderForms.{order_forms}
use Rattle.build_core.specs.BuildForms.{build_forms}
use Rattle.desk_core.specs.declared.command.Command.{Command}
use Rattle.desk_core.specs.declared.command.Command.TheVariants.{Part, Bom, Yard, Stock, Alloc, Order, Build}
use Rattle.desk_core.specs.CommandForms.{from_alloc, from_yard, from_bom, from_part}
use Rattle.desk_core.specs.CommandForms.{from_build, from_order, command_forms}

or_none : {A : Type 0} (o : Option A) → or_else o None ≡ o
or_none None = refl
or_none (Some x) = refl

-- ---- forms

abbrev form_of_alloc : List ℕ → Option Form
form_of_alloc verb = form_named verb (forms_by alloc_forms)

abbrev form_from_yard : List ℕ → Option Form
form_from_yard verb = or_else (form_named verb (forms_by yard_forms)) (form_of_alloc verb)

abbrev form_from_bom : List ℕ → Option Form
form_from_bom verb = or_else (form_named verb (forms_by bom_forms)) (form_from_yard verb)

abbrev form_from_part : List ℕ → Option Form
form_from_part verb = or_else (form_named verb (forms_by part_forms)) (form_from_bom verb)

abbrev form_from_build : List ℕ → Option Form
form_from_build verb = or_else (form_named verb (forms_by build_forms)) (form_from_part verb)

abbrev form_from_order : List ℕ → Option Form
form_from_order verb = or_else (form_named verb (forms_by order_forms)) (form_from_build verb)

from_alloc_form : (verb : List ℕ) → form_named verb (forms_by from_alloc) ≡ form_of_alloc verb
unfolding from_alloc
from_alloc_form verb = form_within Alloc alloc_forms [] verb ∙ or_none (form_of_alloc verb)

from_yard_form : (verb : List ℕ) → form_named verb (forms_by from_yard) ≡ form_from_yard verb
unfolding from_yard
from_yard_form verb =
    form_within Yard yard_forms from_alloc verb
    ∙ ap (or_else (form_named verb (forms_by yard_forms))) (from_alloc_form verb)

from_bom_form : (verb : List ℕ) → form_named verb (forms_by from_bom) ≡ form_from_bom verb
unfolding from_bom
from_bom_form verb =
    form_within Bom bom_forms from_yard verb ∙ ap (or_else (form_named verb (forms_by bom_forms))) (from_yard_form verb)

from_part_form : (verb : List ℕ) → form_named verb (forms_by from_part) ≡ form_from_part verb
unfolding from_part
from_part_form verb =
    form_within Part part_forms from_bom verb
    ∙ ap (or_else (form_named verb (forms_by part_forms))) (from_bom_form verb)

from_build_form : (verb : List ℕ) → form_named verb (forms_by from_build) ≡ form_from_build verb
unfolding from_build
from_build_form verb =
    form_within Build build_forms from_part verb
    ∙ ap (or_else (form_named verb (forms_by build_forms))) (from_part_form verb)

from_order_form : (verb : List ℕ) → form_named verb (forms_by from_order) ≡ form_from_order verb
unfolding from_order
from_order_form verb =
    form_within Order order_forms from_build verb
    ∙ ap (or_else (form_named verb (forms_by order_forms))) (from_build_form verb)

pub form_by_crate : (verb : List ℕ)
    → form_named verb (forms_by command_forms) ≡ or_else (form_named verb (forms_by stock_forms)) (form_from_order verb)
unfolding command_forms
form_by_crate verb =
    form_within Stock stock_forms from_order verb
    ∙ ap (or_else (form_named verb (forms_by stock_forms))) (from_order_form verb)

-- ---- commands

abbrev by_alloc : List ℕ → List Field → Option Command
by_alloc verb fields = option_map Alloc (command_by alloc_forms verb fields)

abbrev by_yard : List ℕ → List Field → Option Command
by_yard verb fields =
    if knows yard_forms verb then option_map Yard (command_by yard_forms verb fields) else by_alloc verb fields

abbrev by_bom : List ℕ → List Field → Option Command
by_bom verb fields =
    if knows bom_forms verb then option_map Bom (command_by bom_forms verb fields) else by_yard verb fields

abbrev by_part : List ℕ → List Field → Option Command
by_part verb fields =
    if knows part_forms verb then option_map Part (command_by part_forms verb fields) else by_bom verb fields

abbrev by_build : List ℕ → List Field → Option Command
by_build verb fields =
    if knows build_forms verb then option_map Build (command_by build_forms verb fields) else by_part verb fields

abbrev by_order : List ℕ → List Field → Option Command
by_order verb fields =
    if knows order_forms verb then option_map Order (command_by order_forms verb fields) else by_build verb fields

abbrev by_stock : List ℕ → List Field → Option Command
by_stock verb fields =
    if knows stock_forms verb then option_map Stock (command_by stock_forms verb fields) else by_order verb fields

from_alloc_command : (verb : List ℕ) (fields : List Field) → command_by from_alloc verb fields ≡ by_alloc verb fields
unfolding from_alloc
from_alloc_command verb fields = only_within Alloc alloc_forms verb fields

from_yard_command : (verb : List ℕ) (fields : List Field) → command_by from_yard verb fields ≡ by_yard verb fields
unfolding from_yard
from_yard_command verb fields =
    command_within Yard yard_forms from_alloc verb fields
    ∙ ap (λ o. if knows yard_forms verb then option_map Yard (command_by yard_forms verb fields) else o)
    (from_alloc_command verb fields)

from_bom_command : (verb : List ℕ) (fields : List Field) → command_by from_bom verb fields ≡ by_bom verb fields
unfolding from_bom
from_bom_command verb fields =
    command_within Bom bom_forms from_yard verb fields
    ∙ ap (λ o. if knows bom_forms verb then option_map Bom (command_by bom_forms verb fields) else o)
    (from_yard_command verb fields)

from_part_command : (verb : List ℕ) (fields : List Field) → command_by from_part verb fields ≡ by_part verb fields
unfolding from_part
from_part_command verb fields =
    command_within Part part_forms from_bom verb fields
    ∙ ap (λ o. if knows part_forms verb then option_map Part (command_by part_forms verb fields) else o)
    (from_bom_command verb fields)

from_build_command : (verb : List ℕ) (fields : List Field) → command_by from_build verb fields ≡ by_build verb fields
unfolding from_build
from_build_command verb fields =
    command_within Build build_forms from_part verb fields
    ∙ ap (λ o. if knows build_forms verb then option_map Build (command_by build_forms verb fields) else o)
    (from_part_command verb fields)

from_order_command : (verb : List ℕ) (fields : List Field) → command_by from_order verb fields ≡ by_order verb fields
unfolding from_order
from_order_command verb fields =
    command_within Order order_forms from_build verb fields
    ∙ ap (λ o. if knows order_forms verb then option_map Order (command_by order_forms verb fields) else o)
    (from_build_command verb fields)

pub command_by_crate : (verb : List ℕ) (fields : List Field)
    → command_by command_forms verb fields ≡ by_stock verb fields
unfolding command_forms
command_by_crate verb fields =
    command_within Stock stock_forms from_order verb fields
    ∙ ap (λ o. if knows stock_forms verb then option_map Stock (command_by stock_forms verb fields) else o)
    (from_order_command verb fields)
