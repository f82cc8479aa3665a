-- A head as the parser gives it: where its parts lie in the bytes.
use Rattle.std.specs.Prelude.{◌≡◌, ℕ, List, length, map, take}
use Rattle.std.specs.Str.{IsUtf8}
use Rattle.httparse.specs.declared.spans.HeaderSpan.{HeaderSpan}
use Rattle.httparse.specs.declared.spans.RequestSpans.{RequestSpans}
use Rattle.httparse.specs.Spans.{span_bytes, header_bytes, IsRequestWithin}
use Rattle.desk_http.specs.Heads.{Class, WellFormed, TooManyFields, Malformed, HeadParts}
use Rattle.desk_http.specs.declared.head.Head.{Head}
use Rattle.desk_http.specs.declared.head.Head.TheVariants as head

abbrev pub head_parts_at : List ℕ → List HeaderSpan → RequestSpans → HeadParts
head_parts_at bytes spans r = record {
  method = span_bytes bytes r.method;
  target = span_bytes bytes r.path;
  version = r.version;
  fields = map (header_bytes bytes) (take r.headers spans);
}

abbrev pub class_of : List ℕ → List HeaderSpan → Head → Class
class_of bytes spans (head.WellFormed r) = WellFormed (head_parts_at bytes spans r)
class_of bytes spans head.TooManyFields = TooManyFields
class_of bytes spans head.Malformed = Malformed

abbrev pub LiesWithin : List ℕ → List HeaderSpan → Head → Type 0
LiesWithin bytes spans (head.WellFormed r) =
    IsRequestWithin bytes spans r × (r.len ≡ length bytes) × IsUtf8 (span_bytes bytes r.path)
LiesWithin bytes spans head.TooManyFields = Unit {0}
LiesWithin bytes spans head.Malformed = Unit {0}
