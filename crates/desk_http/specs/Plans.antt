-- What a head asks for, by the checks in their order.
use Rattle.std.specs.Prelude.{◌≡◌, ◌==◌, ◌&&◌, nat_lt, ℕ, Bool, false, List, Option, Some, None, Result, Ok, Err}
use Rattle.std.specs.Prelude.{length, if◌then◌else◌, codes}
use Rattle.std.specs.List.{list_any}
use Rattle.std.specs.Str.{bytes_eq, str_eq_ignore_ascii_case}
use Rattle.desk_http.specs.AccessRules.{access_fault, has_to_say, page_fault, sender_fault}
use Rattle.desk_http.specs.Fields.{Said, Nothing, One, Several, said, is_named}
use Rattle.desk_http.specs.Heads.{HeadParts, Class, WellFormed, TooManyFields, Malformed}
use Rattle.desk_http.specs.Proofs.{nonce_at}
use Rattle.desk_http.specs.Sites.{PageView, SiteRules, page_view}
use Rattle.desk_http.specs.Targets.{Resource, Run, Import, Report, Export, Books, HistoryFrom, Sheet, Show, RunAll, Stop}
use Rattle.desk_http.specs.Targets.{Dump, resource, resource_at, page_at, number_of, some_text, IsProper}
use Rattle.desk_http.specs.declared.plan.Work.{Work}
use Rattle.desk_http.specs.declared.plan.Work.TheVariants as work
use Rattle.desk_http.specs.declared.rejection.Rejection.{Rejection}
use Rattle.desk_http.specs.declared.rejection.Rejection.TheVariants.{HeadTooLarge, BadRequest, NotFound, OnlyPost}
use Rattle.desk_http.specs.declared.rejection.Rejection.TheVariants.{OnlyGet, LengthRequired, BodyTooLarge}

-- what is to be done: the page is shown; or it is proved, by what was said, that the token is known; or a resource does
-- something, with what the field If-None-Match says, where it stands once, and a body of so many bytes
pub data Plan : Type 0 where
  ShowPage : PageView → Plan
  Prove : List ℕ → Plan
  Ask : Resource → Option (List ℕ) → ℕ → Plan

abbrev pub length_within : Option ℕ → Result ℕ Rejection
length_within None = Err BadRequest
length_within (Some n) = if nat_lt 1048576 n then Err BodyTooLarge else Ok n

-- the length of a body, of what the fields named Content-Length say
abbrev pub one_length : Said → Result ℕ Rejection
one_length Nothing = Err LengthRequired
one_length (One text) = length_within (number_of text)
one_length Several = Err BadRequest

-- the length of the body that the fields of a POST tell
abbrev pub body_length : List (List ℕ × List ℕ) → Result ℕ Rejection
body_length fields =
    if list_any (is_named (codes "transfer-encoding")) fields then Err BadRequest
    else one_length (said (codes "content-length") fields)

abbrev pub unless_get : List ℕ → Option Rejection
unless_get method = if bytes_eq method (codes "GET") then None else Some OnlyGet

abbrev pub unless_post : List ℕ → Option Rejection
unless_post method = if bytes_eq method (codes "POST") then None else Some OnlyPost

abbrev pub method_fault : List ℕ → Resource → Option Rejection
method_fault method Run = unless_post method
method_fault method (Import loose kind document day) = unless_post method
method_fault method (Report name number) = unless_get method
method_fault method (Export table) = unless_get method
method_fault method Books = unless_get method
method_fault method (HistoryFrom number) = unless_get method
method_fault method (Sheet command document day) = unless_post method
method_fault method (Show list word said) = unless_get method
method_fault method (RunAll said) = unless_post method
method_fault method Stop = unless_post method
method_fault method Dump = unless_get method

-- how many bytes of body are read for a resource: for what is only read none, and none to stop
abbrev pub length_for : Resource → List (List ℕ × List ℕ) → Result ℕ Rejection
length_for Run fields = body_length fields
length_for (Import loose kind document day) fields = body_length fields
length_for (Report name number) fields = Ok 0
length_for (Export table) fields = Ok 0
length_for Books fields = Ok 0
length_for (HistoryFrom number) fields = Ok 0
length_for (Sheet command document day) fields = body_length fields
length_for (Show list word said) fields = Ok 0
length_for (RunAll said) fields = body_length fields
length_for Stop fields = Ok 0
length_for Dump fields = Ok 0

abbrev pub unless : {A : Type 0} → Option Rejection → Result A Rejection → Result A Rejection
unless (Some rejection) result = Err rejection
unless None result = result

-- the length of the body, or the first check that fails: of the method, of who may ask, and of the length
abbrev pub checked : Option Rejection → List ℕ → Resource → List (List ℕ × List ℕ) → Result ℕ Rejection
checked fault method resource fields = unless (method_fault method resource) (unless fault (length_for resource fields))

abbrev pub said_once : Said → Option (List ℕ)
said_once Nothing = None
said_once (One text) = Some text
said_once Several = None

-- the tag of the books that is known to whoever asks
abbrev pub known_tag : List (List ℕ × List ℕ) → Option (List ℕ)
known_tag fields = said_once (said (codes "if-none-match") fields)

abbrev pub with_length : Resource → Option (List ℕ) → Result ℕ Rejection → Result Plan Rejection
with_length resource known (Ok n) = Ok (Ask resource known n)
with_length resource known (Err rejection) = Err rejection

abbrev pub planned : Option Rejection → List ℕ → Option Resource → List (List ℕ × List ℕ) → Result Plan Rejection
planned fault method None fields = Err NotFound
planned fault method (Some resource) fields =
    with_length resource (known_tag fields) (checked fault method resource fields)

-- the page, or the first check that fails: of the method, and of who may ask for it
abbrev pub planned_page : Option Rejection → List ℕ → PageView → Result Plan Rejection
planned_page fault method page = unless (unless_get method) (unless fault (Ok (ShowPage page)))

-- the proof of what is said, or the first check that fails: of the method, and of who may ask for it
abbrev pub planned_proof : Option Rejection → List ℕ → List ℕ → Result Plan Rejection
planned_proof fault method nonce = unless (unless_get method) (unless fault (Ok (Prove nonce)))

-- what the target names that is no page: of the fault of who asks for it
abbrev pub planned_else : Option Rejection → Option PageView → HeadParts → Result Plan Rejection
planned_else fault page parts = planned fault parts.method (resource_at page parts.target) parts.fields

-- of the faults of who asks for a proof, and for what a target names: the proof, if one is asked for
abbrev pub plan_beside : Option Rejection → Option Rejection → Option PageView → HeadParts → Option (List ℕ)
    → Result Plan Rejection
plan_beside of_proof of_else page parts (Some nonce) = planned_proof of_proof parts.method nonce
plan_beside of_proof of_else page parts None = planned_else of_else page parts

-- of the fault of who asks for the page: the page, if that is named, or what is planned beside it
abbrev pub plan_by : Option Rejection → HeadParts → Option PageView → Result Plan Rejection → Result Plan Rejection
plan_by of_page parts (Some shown) beside = planned_page of_page parts.method shown
plan_by of_page parts None beside = beside

-- what is to be done, or the first check that fails
abbrev pub plan_of : SiteRules → Class → Result Plan Rejection
plan_of site TooManyFields = Err HeadTooLarge
plan_of site Malformed = Err BadRequest
plan_of site (WellFormed parts) =
    plan_by (page_fault site.access parts.fields) parts (page_at site.page parts.target)
    (plan_beside (sender_fault site.access parts.fields) (access_fault site.access parts.fields) site.page parts
    (nonce_at site parts.target))

-- the same of a service with this page, or with none, that anyone may ask
abbrev pub open_plan_of : Option PageView → Class → Result Plan Rejection
open_plan_of page TooManyFields = Err HeadTooLarge
open_plan_of page Malformed = Err BadRequest
open_plan_of page (WellFormed parts) = plan_by None parts (page_at page parts.target) (planned_else None page parts)

-- what is done without a page: a line, an import that isn't read loosely, or a report
abbrev pub IsOfProgram : Resource → Type 0
IsOfProgram Run = Unit {0}
IsOfProgram (Import loose kind document day) = loose ≡ false
IsOfProgram (Report name number) = Unit {0}
IsOfProgram (Export table) = ⊥
IsOfProgram Books = ⊥
IsOfProgram (HistoryFrom number) = ⊥
IsOfProgram (Sheet command document day) = ⊥
IsOfProgram (Show list word said) = ⊥
IsOfProgram (RunAll said) = ⊥
IsOfProgram Stop = ⊥
IsOfProgram Dump = ⊥

abbrev pub ShowsNoPage : Result Plan Rejection → Type 0
ShowsNoPage (Ok (ShowPage page)) = ⊥
ShowsNoPage (Ok (Prove nonce)) = ⊥
ShowsNoPage (Ok (Ask resource known n)) = IsOfProgram resource
ShowsNoPage (Err rejection) = Unit {0}

-- ---- what is waited for

-- whatever its case
abbrev pub is_continue : List ℕ → Bool
is_continue text = str_eq_ignore_ascii_case text (codes "100-continue")

-- a head of HTTP/1.1 asks to be told that its body may come, by the one field Expect
abbrev pub expects_continue : Class → Bool
expects_continue TooManyFields = false
expects_continue Malformed = false
expects_continue (WellFormed parts) = parts.version == 1 && has_to_say is_continue (said (codes "expect") parts.fields)

-- a client of whom so much has come behind the head waits to be told: it asks for that, and its body is to be read and
-- hasn't come whole
abbrev pub waits : Class → Result Plan Rejection → List ℕ → Bool
waits class (Err rejection) rest = false
waits class (Ok (ShowPage page)) rest = false
waits class (Ok (Prove nonce)) rest = false
waits class (Ok (Ask resource known n)) rest = nat_lt (length rest) n && expects_continue class

-- ---- the same as code has it

abbrev pub work_plan : Work → Plan
work_plan (work.ShowPage page) = ShowPage (page_view page)
work_plan (work.Prove nonce) = Prove nonce.now
work_plan (work.Ask target known n) = Ask (resource target) (some_text known) n

abbrev pub plan : Result Work Rejection → Result Plan Rejection
plan (Ok w) = Ok (work_plan w)
plan (Err rejection) = Err rejection

-- a target that is asked names a document of its form, if it names one
abbrev pub AsksProperly : Work → Type 0
AsksProperly (work.ShowPage page) = Unit {0}
AsksProperly (work.Prove nonce) = Unit {0}
AsksProperly (work.Ask target known n) = IsProper target
