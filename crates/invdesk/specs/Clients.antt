-- Clients of the loopback that are served.
use Rattle.std.specs.Prelude.{◌≡◌, ◌≤◌, ◌^◌, ◌-◌, ◌==◌, ◌&&◌, ℕ, Bool, true, false, List, Option, Some, None, Result, IfSome, IsSome}
use Rattle.std.specs.Prelude.{is_none, is_some, not, if◌then◌else◌}
use Rattle.std.specs.List.{before_first}
use Rattle.sqlite.specs.Tree.{Trees}
use Rattle.desk_core.specs.Machine.{State}
use Rattle.desk_http.specs.AccessRules.{is_token}
use Rattle.desk_http.specs.Services.{Operation, Performs, ReplyView}
use Rattle.desk_http.specs.Serving.{AreSteps, IsOneOperation, IsOneStep, IsTaken}
use Rattle.desk_http.specs.Sites.{SiteRules}
use Rattle.desk_http.specs.declared.service.NoReply.{NoReply}
use Rattle.desk_app.specs.Services.{desk_machine, is_over, leaves, IsStoppedBy, Relates}
use Rattle.desk_app.specs.declared.options.LineOptions.{LineOptions}
use Rattle.desk_app.specs.declared.service.BooksService.{BooksService}
use Rattle.desk_cli.specs.declared.task.ServeWords.{ServeWords}
use Rattle.desk_core.specs.declared.end.RunEnd.{RunEnd}
use Rattle.desk_core.specs.declared.end.RunEnd.TheVariants.{Done, ReadFailed, WriteFailed, Memory, Store}
use Rattle.invdesk.specs.declared.token.TokenFile.{TokenFile}
use Rattle.invdesk.specs.declared.token.TokenFault.{TokenFault}
use Rattle.invdesk.specs.declared.token.TokenFault.TheVariants.{NoFile, Foreign, Shared}

-- why a file gives no token: it has to be a regular one, to be the user's own that the program acts as, and to give nothing
-- to others
abbrev pub fault_of_token_file : TokenFile → Option TokenFault
fault_of_token_file file =
    if not file.is_file then Some NoFile
    else if not file.is_own then Some Foreign
    else if file.is_shared then Some Shared
    else None

-- a text, if it may be a token
abbrev pub fit_token : List ℕ → Option (List ℕ)
fit_token text = if is_token text then Some text else None

-- the token in a file of these bytes: its first line
abbrev pub token_in : List ℕ → Option (List ℕ)
token_in bytes = fit_token (before_first (λ b. b == 10) bytes)

-- Which file is named, and what it holds, is known to no clause: so it is the token in some bytes.
abbrev pub IsInFile : List ℕ → Type 0
IsInFile token = (bytes : List ℕ) × (token_in bytes ≡ Some token)

-- requests are to come to this port, and to show this token, if there is one; a page is shown, or none
pub record Offers (port : ℕ) (token : Option (List ℕ)) (has_page : Bool) (site : SiteRules) : Type 0 where
  pub port_is : site.access.port ≡ port
  pub token_is : site.access.token ≡ token
  pub page_is : is_some site.page ≡ has_page

-- the same with the token in a file, or with none
pub record OffersTo (port : ℕ) (has_token has_page : Bool) (site : SiteRules) : Type 0 where
  pub token : Option (List ℕ)
  pub has : is_some token ≡ has_token
  pub in_file : IfSome token IsInFile
  pub offers : Offers port token has_page site

-- how the lines of clients are taken, by the words
abbrev pub served_by : ServeWords → LineOptions
served_by how = record { names = how.names; journal = how.journal }

-- how many connections are served at most
abbrev pub most_of : Option ℕ → ℕ
most_of (Some count) = count
most_of None = 2 ^ 64 - 1

-- with a page, and with no count of connections, it ends once a fault has closed its books
abbrev pub ends_at_fault : Bool → Option ℕ → Bool
ends_at_fault has_page count = has_page && is_none count

-- how a serving may end, that ends at a fault or doesn't, with books that this fault has closed, if one has: as work does
-- that failed where it ends by one, and fine where it doesn't
abbrev pub IsOfServing : {F : Type 0} → Bool → Option F → RunEnd → Type 0
IsOfServing ends failure (Done all) = (all ≡ true) × (ends ≡ true → failure ≡ None)
IsOfServing ends failure ReadFailed = Unit {0}
IsOfServing ends failure WriteFailed = Unit {0}
IsOfServing ends failure Memory = Unit {0}
IsOfServing ends failure Store = (ends ≡ true) × IsSome failure

-- Of books it is known what state they hold, what fault has closed them, if one has, and what a crash may leave of them.
module _ {B F : Type 0} (state_in : B → State) (failure_of : B → Option F) (may_leave : B → Trees → Type 0) where
  -- the books, as a service, did an operation
  abbrev pub DoesOperation : BooksService B → Operation → Result ReplyView NoReply → BooksService B → Type 0
  DoesOperation =
      Performs (λ service. (state_in service.books, service.options, service.tag)) desk_machine leaves
      (λ old operation why new. Relates old.options (failure_of old.books) (failure_of new.books) (may_leave new.books)
      (state_in old.books) (state_in new.books) operation why × IsStoppedBy operation why old.stopped new.stopped)

  -- the service takes no further request
  abbrev pub takes_none : BooksService B → Bool
  takes_none service = is_over service.stopped service.ends_at_fault (failure_of service.books)

  -- So many connections at most were served by the books, one after another, of a site that asks for this port and, it may
  -- be, the token in a file, and shows a page or none; and the serving ended so. What came by them, and what was answered, is known to
  -- no clause: so each did what some bytes ask for, and that is an operation at most. None came once the service took no
  -- further request. What was sent was taken in this way.
  pub record ServesClients (options : LineOptions) (how : ServeWords) (old new : BooksService B) (end : RunEnd)
      : Type 0 where
    pub taken : old.options ≡ options
    pub site : SiteRules
    pub offers : OffersTo how.port (is_some how.token) how.page site
    pub steps : (n : ℕ) × (n ≤ most_of how.count) × AreSteps (IsTaken takes_none (IsOneStep DoesOperation site)) n old new
    pub operations : (n : ℕ) × (n ≤ most_of how.count) × AreSteps (IsTaken takes_none (IsOneOperation DoesOperation)) n old new
    pub ends : IsOfServing old.ends_at_fault (failure_of new.books) end
