-- What the bytes that a connection gives say that a service answers.
use Rattle.std.specs.Prelude.{◌≡◌, ◌≤◌, ◌&&◌, nat_lt, ℕ, Bool, List, length, take, map, codes, if◌then◌else◌}
use Rattle.std.specs.Prelude.{Option, Some, None, Result, Ok, Err, IfSome}
use Rattle.std.specs.Borrow.{Bor}
use Rattle.std.specs.Str.{bytes_eq}
use Rattle.std.specs.Io.KnownBytes.{Appends}
use Rattle.httparse.specs.Grammar.{ResponseHead, ReadsResponse, HasNoResponse, MayBecomeResponse, status_code}
use Rattle.httparse.specs.Spans.{ResponseOverflows, name_and_value}
use Rattle.desk_http.specs.AccessRules.{has_to_say}
use Rattle.desk_http.specs.Fields.{Said, Nothing, One, Several, said}
use Rattle.desk_http.specs.Serving.{AppendsFront}
use Rattle.desk_http.specs.Targets.{number_of}
use Rattle.desk_http.specs.declared.answer.Answer.{Answer}
use Rattle.desk_http.specs.declared.answer.Unheard.{Unheard}
use Rattle.desk_http.specs.declared.answer.Unheard.TheVariants.{Foreign, Cut, Failed, Memory}

-- what counts of a response's head: its status, and each field's name and value
pub record Told : Type 0 where
  pub status : ℕ
  pub fields : List (List ℕ × List ℕ)

abbrev pub told_of : ResponseHead → Told
told_of h = record { status = status_code h; fields = map name_and_value h.fields }

-- The bytes begin with a head of at most 64 fields, and these stand behind it; or they may become one; or, whatever
-- follows them, they begin with none.
pub data Begun : Type 0 where
  Head : Told → List ℕ → Begun
  Unfinished NoHead : Begun

abbrev pub Begins : List ℕ → Begun → Type 0
Begins bytes (Head told rest) =
    (h : ResponseHead) × ReadsResponse bytes h rest × (length h.fields ≤ 64) × (told ≡ told_of h)
Begins bytes Unfinished = HasNoResponse bytes × MayBecomeResponse bytes
Begins bytes NoHead = ResponseOverflows 64 bytes

-- the fields have one of this name, and it says this
abbrev pub says : List ℕ → List ℕ → List (List ℕ × List ℕ) → Bool
says name value fields = has_to_say (λ text. bytes_eq text value) (said name fields)

-- the fields are those that each response of a service with a page has
abbrev pub are_own : List (List ℕ × List ℕ) → Bool
are_own fields =
    says (codes "x-content-type-options") (codes "nosniff") fields
    && says (codes "cache-control") (codes "no-store") fields
    && says (codes "cross-origin-resource-policy") (codes "same-origin") fields

abbrev pub body_within : Option ℕ → List ℕ → Result (List ℕ) Unheard
body_within None rest = Err Foreign
body_within (Some count) rest = if nat_lt (length rest) count then Err Cut else Ok (take count rest)

-- the body of what stands behind a head whose length is said so: without a length all is
abbrev pub body_by : Said → List ℕ → Result (List ℕ) Unheard
body_by Nothing rest = Ok rest
body_by (One text) rest = body_within (number_of text) rest
body_by Several rest = Err Foreign

-- the body of what stands behind a head with these fields, if a service with a page answers so
abbrev pub own_body : List (List ℕ × List ℕ) → List ℕ → Result (List ℕ) Unheard
own_body fields rest =
    if are_own fields then body_by (said (codes "content-length") fields) rest else Err Foreign

abbrev pub with_status : ℕ → Result (List ℕ) Unheard → Result (ℕ × List ℕ) Unheard
with_status status (Ok body) = Ok (status, body)
with_status status (Err why) = Err why

abbrev pub answer_of : Told → List ℕ → Result (ℕ × List ℕ) Unheard
answer_of told rest = with_status told.status (own_body told.fields rest)

-- the status and the body that are answered, or why none are
abbrev pub answered : Begun → Result (ℕ × List ℕ) Unheard
answered (Head told rest) = answer_of told rest
answered Unfinished = Err Cut
answered NoHead = Err Foreign

abbrev pub Says : List ℕ → Result (ℕ × List ℕ) Unheard → Type 0
Says bytes outcome = (begun : Begun) × Begins bytes begun × (outcome ≡ answered begun)

-- ---- the same as code has it

abbrev pub body_view : Result (Bor (List ℕ)) Unheard → Result (List ℕ) Unheard
body_view (Ok body) = Ok body.now
body_view (Err why) = Err why

-- of a device that failed, and without memory, nothing is told
abbrev pub IsHeard : List ℕ → Result Answer Unheard → Type 0
IsHeard bytes (Ok answer) = Says bytes (Ok (answer.status, answer.body.items))
IsHeard bytes (Err Foreign) = Says bytes (Err Foreign)
IsHeard bytes (Err Cut) = Says bytes (Err Cut)
IsHeard bytes (Err Failed) = Unit {0}
IsHeard bytes (Err Memory) = Unit {0}

-- ---- what is asked and answered

-- the request was written whole, and the bytes that the connection gives, as far as they are known, say the answer; or a
-- device failed, or there was no memory, and a front of the request was written
abbrev pub IsAsked : List ℕ → Option (List ℕ) → Option (List ℕ) → Option (List ℕ) → Result Answer Unheard → Type 0
IsAsked request known w w' (Ok answer) = Appends w w' request × IfSome known (λ bytes. IsHeard bytes (Ok answer))
IsAsked request known w w' (Err Foreign) = Appends w w' request × IfSome known (λ bytes. IsHeard bytes (Err Foreign))
IsAsked request known w w' (Err Cut) = Appends w w' request × IfSome known (λ bytes. IsHeard bytes (Err Cut))
IsAsked request known w w' (Err Failed) = AppendsFront w w' request
IsAsked request known w w' (Err Memory) = AppendsFront w w' request
