-- What the bytes of a head are.
use Rattle.std.specs.Prelude.{◌≡◌, ◌≤◌, ◌<◌, ℕ, List, [], length, map}
use Rattle.httparse.specs.Grammar.{RequestHead, ReadsRequest}
use Rattle.httparse.specs.Spans.{RequestExceeds, name_and_value}

-- what counts of a head: the version, of which 1 is HTTP/1.1 and 0 is HTTP/1.0; and each field's name, and its value
-- without the white space around it
pub record HeadParts : Type 0 where
  pub method : List ℕ
  pub target : List ℕ
  pub version : ℕ
  pub fields : List (List ℕ × List ℕ)

pub data Class : Type 0 where
  WellFormed : HeadParts → Class
  TooManyFields Malformed : Class

abbrev pub head_parts_of : RequestHead → HeadParts
head_parts_of h = record {
  method = h.method;
  target = h.target;
  version = h.minor;
  fields = map name_and_value h.fields;
}

-- The bytes are a head of the grammar with at most 64 fields; or they are none with so few, and begin with more
-- field lines; or they are no head. Of bytes that are no head and begin with more than 64 field lines both may be said.
abbrev pub IsHead : List ℕ → Class → Type 0
IsHead bytes (WellFormed parts) =
    (h : RequestHead) × ReadsRequest bytes h [] × (length h.fields ≤ 64) × (parts ≡ head_parts_of h)
IsHead bytes TooManyFields =
    RequestExceeds 64 bytes × ((h : RequestHead) → ReadsRequest bytes h [] → 64 < length h.fields)
IsHead bytes Malformed = (h : RequestHead) → ¬ (ReadsRequest bytes h [])
