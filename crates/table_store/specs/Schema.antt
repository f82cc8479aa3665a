-- The desk's tables, as the database describes them.
use Rattle.std.specs.Prelude.{◌≡◌, ◌⊎◌, true, false, nat_lt, if◌then◌else◌, take, map, codes, ℕ, Bool, List, [], ◌∷◌, Some, None}
use Rattle.sqlite_value.specs.Keys.{plain}
use Rattle.sqlite.specs.declared.types.Value.TheVariants.{Null}
use Rattle.sqlite.specs.Collation.TheVariants.{Binary}
use Rattle.sqlite.specs.Kind.{Kind}
use Rattle.sqlite.specs.Kind.TheVariants.{Integer, Text}
use Rattle.sqlite.specs.Table.{Table}
use Rattle.sqlite.specs.Schema.{Schema}
use Rattle.sqlite_schema.specs.declared.schema.Column.{Column}
use Rattle.sqlite_schema.specs.declared.schema.Index.{Index}
use Rattle.sqlite_schema.specs.declared.schema.Stamps.{Stamps}
use Rattle.table_store.specs.declared.name.TableName.{TableName}
use Rattle.table_store.specs.declared.name.TableName.TheVariants.{Meta, Categories, Locations, Parts, Lines}
use Rattle.table_store.specs.declared.name.TableName.TheVariants.{Substitutes, Items, History, Orders}
use Rattle.table_store.specs.declared.name.TableName.TheVariants.{OrderLines, Builds, Allocations, Kept, Spent}

-- the place of a table among the fourteen, in the order in which they are made
abbrev pub position : TableName → ℕ
position Meta = 0
position Categories = 1
position Locations = 2
position Parts = 3
position Lines = 4
position Substitutes = 5
position Items = 6
position History = 7
position Orders = 8
position OrderLines = 9
position Builds = 10
position Allocations = 11
position Kept = 12
position Spent = 13

-- the number of a table's tree: the index that the database makes for the words of `kept` has a tree of its own, which
-- comes before that of `spent`
abbrev pub tree_number : TableName → ℕ
tree_number Spent = 14
tree_number table = position table

abbrev pub name_of : TableName → List ℕ
name_of Meta = codes "meta"
name_of Categories = codes "categories"
name_of Locations = codes "locations"
name_of Parts = codes "parts"
name_of Lines = codes "lines"
name_of Substitutes = codes "substitutes"
name_of Items = codes "items"
name_of History = codes "history"
name_of Orders = codes "orders"
name_of OrderLines = codes "order_lines"
name_of Builds = codes "builds"
name_of Allocations = codes "allocations"
name_of Spent = codes "spent"
name_of Kept = codes "kept"

-- a column of a STRICT table, without a default
abbrev pub column_of : Kind → Bool → List ℕ → Column
column_of kind not_null name =
    record { name = name; kind = kind; is_strict = true; not_null = not_null; default = Null; collation = Binary }

-- the whole number that is the primary key, which is never NULL though the column doesn't say so
abbrev key : List ℕ → Column
key = column_of Integer false

abbrev number : List ℕ → Column
number = column_of Integer true

abbrev number_or_null : List ℕ → Column
number_or_null = column_of Integer false

abbrev pub text : List ℕ → Column
text = column_of Text true

abbrev text_or_null : List ℕ → Column
text_or_null = column_of Text false

abbrev pub columns_of : TableName → List Column
columns_of Meta =
    key (codes "one") ∷ number (codes "version") ∷ number (codes "next") ∷ number (codes "entries")
    ∷ number (codes "max_numbers") ∷ number (codes "max_entries") ∷ []
columns_of Categories = key (codes "id") ∷ text (codes "name") ∷ number_or_null (codes "parent") ∷ []
columns_of Locations = key (codes "id") ∷ text (codes "name") ∷ number_or_null (codes "parent") ∷ []
columns_of Parts =
    key (codes "id") ∷ text (codes "name") ∷ number_or_null (codes "category") ∷ number_or_null (codes "template")
    ∷ number (codes "flags") ∷ number (codes "retired") ∷ []
columns_of Lines =
    key (codes "id") ∷ number (codes "assembly") ∷ number (codes "component") ∷ number (codes "quantity")
    ∷ number (codes "flags") ∷ []
columns_of Substitutes = key (codes "id") ∷ number (codes "line") ∷ number (codes "part") ∷ []
columns_of Items =
    key (codes "id") ∷ number (codes "part") ∷ text_or_null (codes "batch") ∷ text_or_null (codes "serial")
    ∷ number (codes "status") ∷ number (codes "quantity") ∷ number (codes "place") ∷ number (codes "ref") ∷ []
columns_of History =
    key (codes "n") ∷ text (codes "day") ∷ number (codes "kind") ∷ number (codes "item") ∷ number (codes "part")
    ∷ number (codes "quantity") ∷ number (codes "place") ∷ number (codes "ref") ∷ []
columns_of Orders = key (codes "id") ∷ number (codes "side") ∷ text (codes "partner") ∷ number (codes "state") ∷ []
columns_of OrderLines =
    key (codes "id") ∷ number (codes "owner") ∷ number (codes "part") ∷ number (codes "quantity")
    ∷ number (codes "done") ∷ []
columns_of Builds =
    key (codes "id") ∷ number (codes "part") ∷ number (codes "quantity") ∷ number (codes "state")
    ∷ number (codes "done") ∷ []
columns_of Allocations =
    key (codes "id") ∷ number (codes "item") ∷ number (codes "quantity") ∷ number (codes "side")
    ∷ number (codes "owner") ∷ number (codes "line") ∷ number (codes "output") ∷ []
columns_of Spent =
    key (codes "id") ∷ number (codes "build") ∷ number (codes "line") ∷ number (codes "quantity") ∷ []
columns_of Kept = text (codes "word") ∷ text (codes "command") ∷ text (codes "answer") ∷ []

-- no default reads the time
abbrev pub no_stamps : Stamps
no_stamps = record { places = []; terms = []; formats = [] }

-- a STRICT table whose first column is its INTEGER PRIMARY KEY
abbrev keyed : List ℕ → ℕ → List Column → Table
keyed name tree columns = record {
  name = name;
  tree = tree;
  columns = columns;
  key = Some 0;
  primary = 0 ∷ [];
  uniques = [];
  orders = [];
  checks = [];
  references = [];
  computed = [];
  stamps = no_stamps;
  is_counted = false;
}

abbrev pub table_of : TableName → Table
table_of Kept = record (keyed (name_of Kept) (tree_number Kept) (columns_of Kept)) {
  key = None;
  primary = 1 ∷ [];
  uniques = (1 ∷ []) ∷ [];
  orders = plain ∷ [];
}
table_of Meta = keyed (name_of Meta) (tree_number Meta) (columns_of Meta)
table_of Categories = keyed (name_of Categories) (tree_number Categories) (columns_of Categories)
table_of Locations = keyed (name_of Locations) (tree_number Locations) (columns_of Locations)
table_of Parts = keyed (name_of Parts) (tree_number Parts) (columns_of Parts)
table_of Lines = keyed (name_of Lines) (tree_number Lines) (columns_of Lines)
table_of Substitutes = keyed (name_of Substitutes) (tree_number Substitutes) (columns_of Substitutes)
table_of Items = keyed (name_of Items) (tree_number Items) (columns_of Items)
table_of History = keyed (name_of History) (tree_number History) (columns_of History)
table_of Orders = keyed (name_of Orders) (tree_number Orders) (columns_of Orders)
table_of OrderLines = keyed (name_of OrderLines) (tree_number OrderLines) (columns_of OrderLines)
table_of Builds = keyed (name_of Builds) (tree_number Builds) (columns_of Builds)
table_of Allocations = keyed (name_of Allocations) (tree_number Allocations) (columns_of Allocations)
table_of Spent = keyed (name_of Spent) (tree_number Spent) (columns_of Spent)

-- the index that the database makes for the words of `kept`
abbrev pub kept_index : Index
kept_index = record {
  name = codes "sqlite_autoindex_kept_1";
  tree = 13;
  table = 12;
  columns = 1 ∷ [];
  order = plain;
  is_unique = true;
}

abbrev pub all_names : List TableName
all_names =
    Meta ∷ Categories ∷ Locations ∷ Parts ∷ Lines ∷ Substitutes ∷ Items ∷ History ∷ Orders ∷ OrderLines ∷ Builds
    ∷ Allocations ∷ Kept ∷ Spent ∷ []

-- the schema once so many of the tables are made, in their order
abbrev pub schema_up_to : ℕ → Schema
schema_up_to count = record {
  tables = map table_of (take count all_names);
  indexes = if nat_lt 12 count then kept_index ∷ [] else [];
  views = [];
}

abbrev pub desk_schema : Schema
desk_schema = schema_up_to 14

-- the schema of version 1, which lacks `spent`
abbrev pub old_schema : Schema
old_schema = schema_up_to 13

-- it is the schema of the desk's tables, of this version or of version 1
abbrev pub IsOwn : Schema → Type 0
IsOwn schema = (schema ≡ desk_schema) ⊎ (schema ≡ old_schema)
