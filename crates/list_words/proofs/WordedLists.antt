-- The lines of a list that words ask for are those of the list that is found by them.
use Rattle.std.proofs.Common.{◌≡◌, refl, ℕ, List, Bool, true, false}
use Rattle.std.specs.Prelude.{Option, Some, None, Result, Ok, Err}
use Rattle.std.specs.Borrow.{Bor}
use Rattle.word_core.specs.declared.field.RowKind.TheVariants.{Item, Location, Order, Part}
use Rattle.desk_core.specs.Machine.{State}
use Rattle.list_core.specs.Listings.{listing_lines}
use Rattle.list_core.specs.TraceList.{has_batch}
use Rattle.list_core.specs.declared.listing.Listing.{Listing}
use Rattle.report_core.specs.Lines.{Lines}
use Rattle.desk_wire.specs.Reading.{table_of}
use Rattle.desk_wire.specs.declared.fault.What.{What}
use Rattle.list_words.specs.Lists.{forward_by, forward_lines, lines_at, lines_by, lines_of, listed_of, listing_by, of_row}
use Rattle.list_words.specs.WordRows.{row_at, subject_at}
use Rattle.list_words.specs.declared.list_of.ListOf.{ListOf}
use Rattle.list_words.specs.declared.list_of.ListOf.TheVariants as list

at_row : (listing : ℕ → Listing) (row : Result ℕ What) (s : State)
    → lines_at (λ number. listing_lines (listing number) s) row ≡ lines_of (of_row listing row) s
at_row listing (Ok number) s = refl
at_row listing (Err what) s = refl

forward : (word : Bor (List ℕ)) (batch : Bool) (s : State) → forward_lines word.now batch s ≡ lines_of (forward_by word batch s) s
forward word true s = refl
forward word false s = at_row _ (row_at Item word.now s) s

pub same_lines : (asked : ListOf) (s : State) → lines_by (listed_of asked) s ≡ lines_of (listing_by asked s) s
same_lines (list.Stock low) s = refl
same_lines (list.At word) s = at_row _ (row_at Location word.now s) s
same_lines (list.Part word) s = at_row _ (row_at Part word.now s) s
same_lines (list.Item word) s = at_row _ (row_at Item word.now s) s
same_lines (list.Orders only_open) s = refl
same_lines (list.Builds only_open) s = refl
same_lines (list.Find word) s = refl
same_lines list.Shortages s = refl
same_lines (list.TraceForward word) s = forward word (has_batch word.now s) s
same_lines (list.TraceBack word) s = at_row _ (row_at Item word.now s) s
same_lines (list.CountSheet None) s = refl
same_lines (list.CountSheet (Some word)) s = at_row _ (row_at Location word.now s) s
same_lines (list.ReceiptSheet None) s = refl
same_lines (list.ReceiptSheet (Some word)) s = at_row _ (row_at Order word.now s) s
same_lines (list.History None days) s = refl
same_lines (list.History (Some word) days) s = at_row _ (subject_at word.now s) s
same_lines (list.Report name word) s = at_row _ (row_at (table_of name) word.now s) s
