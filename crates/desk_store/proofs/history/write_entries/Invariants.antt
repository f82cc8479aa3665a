use Rattle.std.proofs.Common.{map}
use Rattle.std.specs.Borrow.{Bor}
use Rattle.forest.specs.declared.entry.Entry.{Entry}
use Rattle.report_core.specs.Lines.{report_text}
use Rattle.yard_core.specs.EntryLines.{entry_line}
use Rattle.desk_store.proofs.Exporting.{AreSent}
use Rattle.desk_store.proofs.history.write_entries.Given as goal

abbrev pub invariant-loop-entry : goal.invariant-loop-entry
invariant-loop-entry g l =
    AreSent (λ (entry : Bor Entry). entry.now) (λ entries. report_text (map entry_line entries)) (g.W.Write.contents l.initial.writer)
    (g.W.Write.contents l.writer) l.entry-index l.entries
