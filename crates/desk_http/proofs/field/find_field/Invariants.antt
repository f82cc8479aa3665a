use Rattle.std.proofs.Common.{◌≡◌, ◌++◌, drop, map}
use Rattle.httparse.specs.Spans.{header_bytes}
use Rattle.desk_http.specs.Fields.{values, found_so_far}
use Rattle.desk_http.proofs.field.find_field.Given as goal

abbrev pub invariant-loop-span : goal.invariant-loop-span
invariant-loop-span l =
    values l.name (map (header_bytes l.head) l.spans)
    ≡ found_so_far l.found ++ values l.name (map (header_bytes l.head) (drop l.span-index l.spans))
