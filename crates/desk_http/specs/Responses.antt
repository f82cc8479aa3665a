-- Responses, byte by byte.
use Rattle.std.specs.Prelude.{◌≡◌, ◌++◌, ℕ, Bool, List, [], ◌∷◌, length, codes, decimal, Option, Some, None}
use Rattle.std.specs.Prelude.{if◌then◌else◌}
use Rattle.http.specs.StatusCode.{status_text}
use Rattle.desk_http.specs.Services.{ReplyView, tag_text}
use Rattle.desk_http.specs.Sites.{PageView}
use Rattle.desk_http.specs.declared.rejection.Rejection.{Rejection}
use Rattle.desk_http.specs.declared.rejection.Rejection.TheVariants.{HeadTooLarge, BadRequest, NotFound, OnlyPost}
use Rattle.desk_http.specs.declared.rejection.Rejection.TheVariants.{OnlyGet, LengthRequired, BodyTooLarge}
use Rattle.desk_http.specs.declared.rejection.Rejection.TheVariants.{Misdirected, Forbidden, Unauthorized}
use Rattle.desk_http.specs.declared.service.Outcome.{Outcome}
use Rattle.desk_http.specs.declared.service.Outcome.TheVariants.{Answered, Refused, Faulty, Reported}
use Rattle.desk_http.specs.declared.service.Outcome.TheVariants.{Exported, Shown, Unchanged, Unknown, FaultyLines}
use Rattle.desk_http.specs.declared.service.Outcome.TheVariants.{AnsweredLines, Dumped}
use Rattle.desk_http.specs.declared.service.Failure.{Failure}
use Rattle.desk_http.specs.declared.service.Failure.TheVariants.{Store, Memory}
use Rattle.desk_http.specs.declared.service.Tag.{Tag}

-- a response: its status, and all its bytes
pub record Response : Type 0 where
  pub status : ℕ
  pub bytes : List ℕ

abbrev pub response : ℕ → List ℕ → Response
response status bytes = record { status = status; bytes = bytes }

abbrev pub crlf : List ℕ
crlf = 13 ∷ 10 ∷ []

unfoldable pub line : List ℕ → List ℕ → List ℕ
line name value = name ++ value ++ crlf

-- a status's number and name, as the crate http has them
unfoldable pub status_words : ℕ → List ℕ
status_words status = status_text status

-- the names of all statuses that are answered
pub record AreNamed : Type 0 where
  pub ok : status_text 200 ≡ codes "200 OK"
  pub not_modified : status_text 304 ≡ codes "304 Not Modified"
  pub bad_request : status_text 400 ≡ codes "400 Bad Request"
  pub unauthorized : status_text 401 ≡ codes "401 Unauthorized"
  pub forbidden : status_text 403 ≡ codes "403 Forbidden"
  pub not_found : status_text 404 ≡ codes "404 Not Found"
  pub not_allowed : status_text 405 ≡ codes "405 Method Not Allowed"
  pub conflict : status_text 409 ≡ codes "409 Conflict"
  pub length_required : status_text 411 ≡ codes "411 Length Required"
  pub body_too_large : status_text 413 ≡ codes "413 Payload Too Large"
  pub misdirected : status_text 421 ≡ codes "421 Misdirected Request"
  pub head_too_large : status_text 431 ≡ codes "431 Request Header Fields Too Large"
  pub server_error : status_text 500 ≡ codes "500 Internal Server Error"
  pub unavailable : status_text 503 ≡ codes "503 Service Unavailable"

-- the fields that each response of a service with a page has besides: that its body is what its field says and not what
-- it looks like, that it isn't to be kept, and that no other site's page may use it
abbrev pub guards : Option PageView → List ℕ
guards None = []
guards (Some page) =
    line (codes "X-Content-Type-Options: ") (codes "nosniff") ++ line (codes "Cache-Control: ") (codes "no-store")
    ++ line (codes "Cross-Origin-Resource-Policy: ") (codes "same-origin")

-- the status line, the fields, and an empty line; `further` is the lines of fields more, or nothing
abbrev pub head_bytes : Option PageView → ℕ → List ℕ → ℕ → List ℕ → List ℕ
head_bytes page status media count further =
    line (codes "HTTP/1.1 ") (status_words status) ++ line (codes "Content-Type: ") media
    ++ line (codes "Content-Length: ") (decimal count)
    ++ further ++ guards page ++ line (codes "Connection: close") [] ++ crlf

-- the head of a response whose body ends with the connection, since how long it is isn't known before
abbrev pub open_head : Option PageView → ℕ → List ℕ → List ℕ
open_head page status media =
    line (codes "HTTP/1.1 ") (status_words status) ++ line (codes "Content-Type: ") media ++ guards page
    ++ line (codes "Connection: close") [] ++ crlf

-- a head, and a body as long as it says
abbrev pub response_bytes : Option PageView → ℕ → List ℕ → List ℕ → List ℕ → List ℕ
response_bytes page status media further body = head_bytes page status media (length body) further ++ body

abbrev pub json : List ℕ
json = codes "application/json"

abbrev pub plain_text : List ℕ
plain_text = codes "text/plain; charset=utf-8"

abbrev pub csv : List ℕ
csv = codes "text/csv; charset=utf-8"

abbrev pub json_lines : List ℕ
json_lines = codes "application/x-ndjson"

abbrev pub sql : List ℕ
sql = codes "application/sql"

abbrev pub html : List ℕ
html = codes "text/html; charset=utf-8"

-- {"http":404} and LF
abbrev pub error_body : ℕ → List ℕ
error_body status = 123 ∷ 34 ∷ codes "http" ++ 34 ∷ 58 ∷ decimal status ++ 125 ∷ 10 ∷ []

abbrev pub error_response : Option PageView → ℕ → List ℕ → Response
error_response page status further = response status (response_bytes page status json further (error_body status))

-- ---- before the response

-- a client that waits is told to send its body, by an interim response that has neither fields nor a body; to another
-- nothing is written
abbrev pub interim_bytes : Bool → List ℕ
interim_bytes waits = if waits then codes "HTTP/1.1 100 Continue" ++ crlf ++ crlf else []

-- ---- a request that is rejected

abbrev pub rejection_status : Rejection → ℕ
rejection_status HeadTooLarge = 431
rejection_status BadRequest = 400
rejection_status NotFound = 404
rejection_status OnlyPost = 405
rejection_status OnlyGet = 405
rejection_status Misdirected = 421
rejection_status Forbidden = 403
rejection_status Unauthorized = 401
rejection_status LengthRequired = 411
rejection_status BodyTooLarge = 413

-- what else a rejection tells: which method is allowed, or how a client shows who it is
abbrev pub further_of : Rejection → List ℕ
further_of OnlyPost = codes "Allow: POST" ++ crlf
further_of OnlyGet = codes "Allow: GET" ++ crlf
further_of Unauthorized = codes "WWW-Authenticate: Bearer" ++ crlf
further_of HeadTooLarge = []
further_of BadRequest = []
further_of NotFound = []
further_of Misdirected = []
further_of Forbidden = []
further_of LengthRequired = []
further_of BodyTooLarge = []

abbrev pub rejection_response : Option PageView → Rejection → Response
rejection_response page rejection = error_response page (rejection_status rejection) (further_of rejection)

-- ---- the page

-- what the page tells its browser: to name it to no other site, to let no other site's page hold it, to give up what it
-- kept of whatever listened at this port before, and what it may load and run
abbrev pub page_fields : PageView → List ℕ
page_fields page =
    line (codes "Referrer-Policy: ") (codes "same-origin") ++ line (codes "Cross-Origin-Opener-Policy: ") (codes "same-origin")
    ++ line (codes "Clear-Site-Data: ") (34 ∷ codes "cache" ++ 34 ∷ [])
    ++ line (codes "Content-Security-Policy: ") page.policy

abbrev pub page_response : PageView → Response
page_response page = response 200 (response_bytes (Some page) 200 html (page_fields page) page.text)

-- ---- the proof that the token is known

abbrev pub proof_response : Option PageView → List ℕ → Response
proof_response page proof = response 200 (response_bytes page 200 plain_text [] proof)

-- ---- what the service replied

abbrev pub outcome_status : Outcome → ℕ
outcome_status Answered = 200
outcome_status Refused = 409
outcome_status Faulty = 400
outcome_status Reported = 200
outcome_status Exported = 200
outcome_status (Shown tag) = 200
outcome_status (Unchanged tag) = 304
outcome_status Unknown = 404
outcome_status FaultyLines = 400
outcome_status AnsweredLines = 200
outcome_status Dumped = 200

abbrev pub media_of : Outcome → List ℕ
media_of Answered = json
media_of Refused = json
media_of Faulty = json
media_of Reported = plain_text
media_of Exported = csv
media_of (Shown tag) = json
media_of (Unchanged tag) = json
media_of Unknown = json
media_of FaultyLines = plain_text
media_of AnsweredLines = json_lines
media_of Dumped = sql

abbrev pub tag_line : Tag → List ℕ
tag_line tag = line (codes "ETag: ") (tag_text tag)

-- the tag of what is shown, where it has one
abbrev pub tag_of : Outcome → List ℕ
tag_of (Shown (Some tag)) = tag_line tag
tag_of (Shown None) = []
tag_of Answered = []
tag_of Refused = []
tag_of Faulty = []
tag_of Reported = []
tag_of Exported = []
tag_of (Unchanged tag) = []
tag_of Unknown = []
tag_of FaultyLines = []
tag_of AnsweredLines = []
tag_of Dumped = []

-- what was replied, whole
abbrev pub told_response : Option PageView → Outcome → List ℕ → Response
told_response page outcome body =
    response (outcome_status outcome)
    (response_bytes page (outcome_status outcome) (media_of outcome) (tag_of outcome) body)

-- that nothing has changed: neither a body, nor what kind of body or how long
abbrev pub unchanged_response : Option PageView → Tag → Response
unchanged_response page tag =
    response 304
    (line (codes "HTTP/1.1 ") (status_words 304) ++ tag_line tag ++ guards page ++ line (codes "Connection: close") []
    ++ crlf)

-- all tables, which are sent as they are written
abbrev pub dump_response : Option PageView → List ℕ → Response
dump_response page body = response 200 (open_head page 200 sql ++ body)

abbrev pub outcome_response : Option PageView → Outcome → List ℕ → Response
outcome_response page (Unchanged tag) body = unchanged_response page tag
outcome_response page Unknown body = rejection_response page NotFound
outcome_response page Answered body = told_response page Answered body
outcome_response page Refused body = told_response page Refused body
outcome_response page Faulty body = told_response page Faulty body
outcome_response page Reported body = told_response page Reported body
outcome_response page Exported body = told_response page Exported body
outcome_response page (Shown tag) body = told_response page (Shown tag) body
outcome_response page FaultyLines body = told_response page FaultyLines body
outcome_response page AnsweredLines body = told_response page AnsweredLines body
outcome_response page Dumped body = dump_response page body

abbrev pub reply_response : Option PageView → ReplyView → Response
reply_response page reply = outcome_response page reply.0 reply.1

-- ---- the service failed

abbrev pub failure_status : Failure → ℕ
failure_status Store = 500
failure_status Memory = 503

abbrev pub failure_response : Option PageView → Failure → Response
failure_response page failure = error_response page (failure_status failure) []
