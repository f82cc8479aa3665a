use Rattle.std.proofs.Common.{ℕ, false, [], ◌∷◌, Option, Some, None, inr, refl}
use Rattle.sqlite.specs.Kind.TheVariants.{Integer}
use Rattle.sheet_core.specs.declared.column.Column.TheVariants.{Text}
use Rattle.sheet_core.specs.Columns.{number_or_absent}
use Rattle.table_store.specs.Stored.{value_of}
use Rattle.table_store.specs.Values.{Takes}
use Rattle.table_tests.proofs.sheets.written.Goals as goal

parent-fits : (parent : Option ℕ) → Takes Integer false (value_of (number_or_absent parent))
parent-fits None = tt
parent-fits (Some n) = tt

pub write_pending-requires-clause-suits : goal.write_pending-requires-clause-suits
write_pending-requires-clause-suits g c = record {
  numbered = λ r. (r.number, Text r.name ∷ number_or_absent r.parent ∷ [], refl, refl);
  fits = λ r. (tt, (parent-fits r.parent, tt));
  keys = λ n. refl;
}

pub write_pending-requires-clause-stays : goal.write_pending-requires-clause-stays
write_pending-requires-clause-stays g c = inr c.requires.stays
