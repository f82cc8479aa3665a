-- Who may ask, by what a head tells of where it comes from. A browser tells it of each page, and no page can leave it
-- out; other programs needn't.
use Rattle.std.specs.Prelude.{◌≡◌, ◌==◌, ◌&&◌, ◌||◌, nat_eq, nat_le, not, ℕ, Bool, true, false, List, ◌∷◌, length, drop}
use Rattle.std.specs.Prelude.{codes, decimal, Option, Some, None, is_none, if◌then◌else◌}
use Rattle.std.specs.List.{list_all, starts_with}
use Rattle.std.specs.Str.{bytes_eq}
use Rattle.desk_http.specs.Fields.{Said, Nothing, One, Several, said}
use Rattle.desk_http.specs.declared.rejection.Rejection.{Rejection}
use Rattle.desk_http.specs.declared.rejection.Rejection.TheVariants.{Misdirected, Forbidden, Unauthorized}

-- ASCII that is seen: no space and nothing that controls
abbrev pub is_visible : ℕ → Bool
is_visible b = nat_le 33 b && nat_le b 126

-- 32 to 128 such bytes
abbrev pub is_token : List ℕ → Bool
is_token bytes = nat_le 32 (length bytes) && nat_le (length bytes) 128 && list_all is_visible bytes

-- what is asked of a head: the port that it came to and, if one is asked for, the token that it shows
pub record AccessRules : Type 0 where
  pub port : ℕ
  pub token : Option (List ℕ)

abbrev pub port_part : ℕ → List ℕ
port_part port = 58 ∷ decimal port

-- the port as it stands behind a host, which may be left out where it is 80, HTTP's own
abbrev pub is_port_part : ℕ → List ℕ → Bool
is_port_part port text = bytes_eq text (port_part port) || (port == 80 && length text == 0)

-- the text is the host with the port
abbrev pub is_host : ℕ → List ℕ → List ℕ → Bool
is_host port host text = starts_with nat_eq text host && is_port_part port (drop (length host) text)

-- A service that asks for a token isn't called localhost: that is a name of [::1] too, where another program may listen
-- at the same port.
abbrev pub is_own_name : AccessRules → List ℕ → Bool
is_own_name rules text =
    is_host rules.port (codes "127.0.0.1") text || (is_none rules.token && is_host rules.port (codes "localhost") text)

abbrev pub is_own_origin : AccessRules → List ℕ → Bool
is_own_origin rules text = starts_with nat_eq text (codes "http://") && is_own_name rules (drop 7 text)

abbrev pub is_own_site : List ℕ → Bool
is_own_site text = bytes_eq text (codes "same-origin") || bytes_eq text (codes "none")

abbrev pub is_bearer : List ℕ → List ℕ → Bool
is_bearer token text = starts_with nat_eq text (codes "Bearer ") && bytes_eq (drop 7 text) token

-- nothing is said, or once what passes the test
abbrev pub may_say : (List ℕ → Bool) → Said → Bool
may_say test Nothing = true
may_say test (One text) = test text
may_say test Several = false

-- it is said once, and passes the test
abbrev pub has_to_say : (List ℕ → Bool) → Said → Bool
has_to_say test Nothing = false
has_to_say test (One text) = test text
has_to_say test Several = false

abbrev pub shows : Option (List ℕ) → Said → Bool
shows None authorization = true
shows (Some token) authorization = has_to_say (is_bearer token) authorization

-- the first rule that the fields of a head break which asks for a page, if they break one: it has to name this service,
-- and to be sent for no other origin. A page is no secret, and may be come to from anywhere
abbrev pub page_fault : AccessRules → List (List ℕ × List ℕ) → Option Rejection
page_fault rules fields =
    if not (may_say (is_own_name rules) (said (codes "host") fields)) then Some Misdirected
    else (if not (may_say (is_own_origin rules) (said (codes "origin") fields)) then Some Forbidden
    else None)

abbrev pub or_else : Option Rejection → Option Rejection → Option Rejection
or_else (Some rejection) other = Some rejection
or_else None other = other

-- the same of a head that asks for anything else: it has to be sent for no other site, too
abbrev pub sender_fault : AccessRules → List (List ℕ × List ℕ) → Option Rejection
sender_fault rules fields =
    or_else (page_fault rules fields)
    (if not (may_say is_own_site (said (codes "sec-fetch-site") fields)) then Some Forbidden else None)

-- and, unless it asks for the proof that the token is known, to show the token
abbrev pub access_fault : AccessRules → List (List ℕ × List ℕ) → Option Rejection
access_fault rules fields =
    or_else (sender_fault rules fields)
    (if not (shows rules.token (said (codes "authorization") fields)) then Some Unauthorized else None)

-- the fields tell nothing of where the head comes from
pub record TellNoOrigin (fields : List (List ℕ × List ℕ)) : Type 0 where
  pub host : said (codes "host") fields ≡ Nothing
  pub origin : said (codes "origin") fields ≡ Nothing
  pub site : said (codes "sec-fetch-site") fields ≡ Nothing
