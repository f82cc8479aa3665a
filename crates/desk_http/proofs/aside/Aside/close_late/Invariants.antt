use Rattle.std.proofs.Common.{◌≤◌, length}
use Rattle.desk_http.proofs.aside.Aside.close_late.Given as goal

abbrev pub invariant-late : goal.invariant-late
invariant-late g l = length l.self.silent.items ≤ length l.initial.self.silent.items
