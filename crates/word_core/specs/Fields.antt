-- Fields, taken one after another.
use Rattle.std.specs.Prelude.{ℕ, List, [], ◌∷◌, Bool, Option, Some, None}
use Rattle.word_core.specs.declared.field.FieldKind.{FieldKind}
use Rattle.word_core.specs.declared.field.FieldKind.TheVariants as kind
use Rattle.word_core.specs.declared.field.Field.{Field}
use Rattle.word_core.specs.declared.field.Field.TheVariants as field
use Rattle.word_core.specs.declared.flags.Flags.{Flags}
use Rattle.word_core.specs.declared.side.Side.{Side}
use Rattle.word_core.specs.declared.status.Status.{Status}

-- what stands in a field of the kind
abbrev pub Value : FieldKind → Type 0
Value kind.Number = ℕ
Value (kind.Row r) = ℕ
Value (kind.MaybeRow r) = Option ℕ
Value kind.Text = List ℕ
Value kind.MaybeText = Option (List ℕ)
Value kind.Yes = Bool
Value kind.Flags = Flags
Value kind.Status = Status
Value kind.Side = Side
Value kind.Serials = List (List ℕ)
Value kind.MaybeSerials = Option (List (List ℕ))
Value (kind.Rows r) = List ℕ

-- the field of that kind with this value
abbrev pub field_with : (k : FieldKind) → Value k → Field
field_with kind.Number n = field.Number n
field_with (kind.Row r) n = field.Number n
field_with (kind.MaybeRow r) n = field.MaybeNumber n
field_with kind.Text t = field.Text t
field_with kind.MaybeText t = field.MaybeText t
field_with kind.Yes b = field.Yes b
field_with kind.Flags f = field.Flags f
field_with kind.Status s = field.Status s
field_with kind.Side s = field.Side s
field_with kind.Serials s = field.Serials s
field_with kind.MaybeSerials s = field.MaybeSerials s
field_with (kind.Rows r) n = field.Numbers n

-- a field's value, where it is of that kind
abbrev pub value_of : (k : FieldKind) → Field → Option (Value k)
value_of kind.Number (field.Number n) = Some n
value_of (kind.Row r) (field.Number n) = Some n
value_of (kind.MaybeRow r) (field.MaybeNumber n) = Some n
value_of kind.Text (field.Text t) = Some t
value_of kind.MaybeText (field.MaybeText t) = Some t
value_of kind.Yes (field.Yes b) = Some b
value_of kind.Flags (field.Flags f) = Some f
value_of kind.Status (field.Status s) = Some s
value_of kind.Side (field.Side s) = Some s
value_of kind.Serials (field.Serials s) = Some s
value_of kind.MaybeSerials (field.MaybeSerials s) = Some s
value_of (kind.Rows r) (field.Numbers n) = Some n
value_of k _ = None

-- the first field's value
abbrev pub first : (k : FieldKind) → List Field → Option (Value k)
first k [] = None
first k (x ∷ xs) = value_of k x

-- the fields after the first
abbrev pub rest : List Field → List Field
rest [] = []
rest (x ∷ xs) = xs

abbrev pub end : List Field → Option (Unit {0})
end [] = Some tt
end (x ∷ xs) = None
