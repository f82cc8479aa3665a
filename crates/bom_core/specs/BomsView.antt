-- What a contract sees of the bills: what they hold now, and what they held before the request.
use Rattle.std.specs.Prelude.{List, [], ◌∷◌}
use Rattle.word_core.specs.Counter.{Counting, numbering_before, numbering_of}
use Rattle.sheet_core.specs.Filled.{filled}
use Rattle.sheet_core.specs.Sheet.{now_of}
use Rattle.bom_core.specs.Bills.{Bills}
use Rattle.bom_core.specs.Changes.{BillBooks}
use Rattle.bom_core.specs.declared.boms.Boms.{Boms}
use Rattle.bom_core.specs.declared.line.Line.{Line}
use Rattle.bom_core.specs.declared.substitute.Substitute.{Substitute}

abbrev pub bills_of : Boms → Bills
bills_of b = record { lines = now_of b.lines; substitutes = now_of b.substitutes }

abbrev pub bills_before : Boms → Bills
bills_before b = record { lines = b.lines.before; substitutes = b.substitutes.before }

-- the tables of these rows
abbrev pub bills_from : List Line → List Substitute → Bills
bills_from lines substitutes =
    record { lines = filled (λ l. l.number ∷ []) lines; substitutes = filled (λ s. s.number ∷ []) substitutes }

abbrev pub bill_books : Boms → Counting → BillBooks
bill_books boms counter = record { bills = bills_of boms; counter = numbering_of counter }

abbrev pub bill_books_before : Boms → Counting → BillBooks
bill_books_before boms counter = record { bills = bills_before boms; counter = numbering_before counter }
