-- What is planned with a page, and without one.
use Rattle.std.proofs.Common.{◌≡◌, ap, refl, sym, subst, ℕ, List, [], ◌∷◌, Bool, true, false, cond, drop}
use Rattle.std.specs.Prelude.{Option, Some, None, Result, Ok, Err, codes, nat_eq}
use Rattle.std.specs.List.{starts_with}
use Rattle.word_core.specs.Day.{day_of}
use Rattle.desk_http.specs.AccessRules.{AccessRules, access_fault, page_fault, sender_fault}
use Rattle.desk_http.specs.Heads.{Class, HeadParts, WellFormed, TooManyFields, Malformed}
use Rattle.desk_http.specs.Plans.{IsOfProgram, ShowsNoPage, checked, known_tag, planned, planned_page, plan_by, plan_of}
use Rattle.desk_http.specs.Plans.{plan_beside, with_length}
use Rattle.desk_http.specs.Proofs.{nonce_at, nonce_by}
use Rattle.desk_http.specs.Sites.{PageView, SiteRules}
use Rattle.desk_http.specs.Targets.{Resource, ◌then◌, where_it, cut, kind_of, name_of, number_of, is_document}
use Rattle.desk_http.specs.Targets.{import_resource, report_resource, run_resource, resource_of, page_at}
use Rattle.desk_http.specs.declared.rejection.Rejection.{Rejection}

abbrev AreOfProgram : Option Resource → Type 0
AreOfProgram None = Unit {0}
AreOfProgram (Some resource) = IsOfProgram resource

then_of : {A : Type 0} (o : Option A) (f : A → Option Resource) → ((a : A) → AreOfProgram (f a)) → AreOfProgram (o then f)
then_of None f h = tt
then_of (Some a) f h = h a

either : (c : Bool) (a b : Option Resource) → AreOfProgram a → AreOfProgram b → AreOfProgram (cond c a b)
either true a b h k = h
either false a b h k = k

imports : (bytes : List ℕ) → AreOfProgram (import_resource false bytes)
imports bytes =
    then_of (cut bytes) _
    (λ parts. then_of (kind_of parts.0) _
    (λ kind. then_of (cut parts.1) _
    (λ rest. then_of (where_it is_document rest.0) _ (λ document. then_of (day_of rest.1) _ (λ day. refl)))))

reports : (bytes : List ℕ) → AreOfProgram (report_resource bytes)
reports bytes =
    then_of (cut bytes) _ (λ parts. then_of (name_of parts.0) _ (λ name. then_of (number_of parts.1) _ (λ number. tt)))

runs : (bytes : List ℕ) → AreOfProgram (run_resource bytes)
runs [] = tt
runs (b ∷ bs) = tt

of_program : (target : List ℕ) → AreOfProgram (resource_of target)
of_program target =
    either (starts_with nat_eq target (codes "/import/")) _ _ (imports (drop 8 target))
    (either (starts_with nat_eq target (codes "/report/")) _ _ (reports (drop 8 target))
    (either (starts_with nat_eq target (codes "/run")) _ _ (runs (drop 4 target)) tt))

with_any : (resource : Resource) (known : Option (List ℕ)) (length : Result ℕ Rejection) → IsOfProgram resource
    → ShowsNoPage (with_length resource known length)
with_any resource known (Ok n) h = h
with_any resource known (Err rejection) h = tt

plans : (fault : Option Rejection) (method : List ℕ) (o : Option Resource) (fields : List (List ℕ × List ℕ))
    → AreOfProgram o → ShowsNoPage (planned fault method o fields)
plans fault method None fields h = tt
plans fault method (Some resource) fields h =
    with_any resource (known_tag fields) (checked fault method resource fields) h

no_nonce : (token : Option (List ℕ)) (target : List ℕ) → nonce_by token None target ≡ None
no_nonce None target = refl
no_nonce (Some token) target = refl

pub no_page : (access : AccessRules) (class : Class)
    → ShowsNoPage (plan_of (record { access = access; page = None }) class)
no_page access TooManyFields = tt
no_page access Malformed = tt
no_page access (WellFormed parts) =
    subst
    (λ nonce. ShowsNoPage (plan_beside (sender_fault access parts.fields) (access_fault access parts.fields) None parts nonce))
    (sym (no_nonce access.token parts.target))
    (plans (access_fault access parts.fields) parts.method (resource_of parts.target) parts.fields (of_program parts.target))

-- where the target names the page, that is what is planned for it
pub page_planned : (site : SiteRules) (parts : HeadParts) (page : PageView) → Some page ≡ page_at site.page parts.target
    → planned_page (page_fault site.access parts.fields) parts.method page ≡ plan_of site (WellFormed parts)
page_planned site parts page e =
    ap
    (λ shown. plan_by (page_fault site.access parts.fields) parts shown
    (plan_beside (sender_fault site.access parts.fields) (access_fault site.access parts.fields) site.page parts
    (nonce_at site parts.target))) e
