use Rattle.std.specs.Prelude.{◌≡◌, ◌≤◌, ◌-◌, None, take}
use Rattle.std.specs.String.{string_bytes}
use Rattle.sqlite.specs.Tree.{Trees}
use Rattle.desk_store.specs.StateTables.{TablesAre}
use Rattle.desk_app.specs.ImportRuns.{rows_after}
use Rattle.desk_app.proofs.Rows.{RowsRunning}
use Rattle.desk_app.proofs.import.add_rows.Given as goal

abbrev pub invariant-loop-row : goal.invariant-loop-row
invariant-loop-row g l = record {
  running :
      RowsRunning l.rows l.row-index (g.B.Books.state_in l.initial.books) (g.B.Books.state_in l.books)
      (string_bytes l.text) l.fine;
  grouping : g.B.Books.are_grouping l.books;
  count : l.waiting ≤ 1000;
  within : l.waiting ≤ l.row-index;
  stays_open : g.B.Books.failure_of l.initial.books ≡ None → g.B.Books.failure_of l.books ≡ None;
  was_open : g.B.Books.failure_of l.books ≡ None → g.B.Books.failure_of l.initial.books ≡ None;
  left : g.B.Books.failure_of l.initial.books ≡ None → (trees : Trees) → g.B.Books.may_leave l.books trees
      → TablesAre (rows_after (g.B.Books.state_in l.initial.books) (take (l.row-index - l.waiting) l.rows)) trees;
}
