use Rattle.std.proofs.Common.{◌≡◌, drop, map}
use Rattle.std.specs.List.{list_any}
use Rattle.httparse.specs.Spans.{header_bytes}
use Rattle.desk_http.specs.Fields.{is_named}
use Rattle.desk_http.proofs.field.has_field.Given as goal

abbrev pub invariant-loop-span : goal.invariant-loop-span
invariant-loop-span l =
    list_any (is_named l.name) (map (header_bytes l.head) l.spans)
    ≡ list_any (is_named l.name) (map (header_bytes l.head) (drop l.span-index l.spans))
