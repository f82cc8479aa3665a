-- What a connection is answered, and what becomes of the service.
use Rattle.std.specs.Prelude.{◌≡◌, ◌≤◌, ◌⊎◌, nat_lt, ℕ, zero, suc, Bool, true, false, List, length, take, drop}
use Rattle.std.specs.Prelude.{Option, Some, None, Result, Ok, Err, if◌then◌else◌}
use Rattle.std.specs.Io.{StartsWith}
use Rattle.std.specs.Io.KnownBytes.{Appends, Keeps}
use Rattle.desk_http.specs.Sites.{PageView, SiteRules}
use Rattle.desk_http.specs.Heads.{Class, IsHead}
use Rattle.desk_http.specs.Proofs.{proof_of}
use Rattle.desk_http.specs.Plans.{Plan, ShowPage, Prove, Ask, plan_of, waits}
use Rattle.desk_http.specs.Services.{Operation, operation, ReplyView}
use Rattle.desk_http.specs.HeadEnds.{arrival, EndsWithHead}
use Rattle.desk_http.specs.Responses.{Response, rejection_response, page_response, proof_response, reply_response}
use Rattle.desk_http.specs.Responses.{failure_response, interim_bytes}
use Rattle.desk_http.specs.declared.receive.HeadArrival.{HeadArrival}
use Rattle.desk_http.specs.declared.receive.HeadArrival.TheVariants as arrival
use Rattle.desk_http.specs.declared.rejection.Rejection.{Rejection}
use Rattle.desk_http.specs.declared.rejection.Rejection.TheVariants.{HeadTooLarge}
use Rattle.desk_http.specs.declared.service.Failure.{Failure}
use Rattle.desk_http.specs.declared.service.NoReply.{NoReply}
use Rattle.desk_http.specs.declared.service.NoReply.TheVariants.{Failed}
use Rattle.desk_http.specs.declared.served.Served.{Served}
use Rattle.desk_http.specs.declared.served.Served.TheVariants as served
use Rattle.desk_http.specs.declared.served.Stop.{Stop}
use Rattle.desk_http.specs.declared.served.Stop.TheVariants.{Ended, ReadFailed, WriteFailed, Memory}

-- ---- what the bytes of a connection are

pub data Received : Type 0 where
  -- they end before the request does
  Incomplete : Received
  Rejected : Rejection → Received
  ForPage : PageView → Received
  ForProof : List ℕ → Received
  Complete : Operation → Received

-- of a plan and the bytes behind the head: what follows the body doesn't count
abbrev pub received_of : Result Plan Rejection → List ℕ → Received
received_of (Err rejection) rest = Rejected rejection
received_of (Ok (ShowPage page)) rest = ForPage page
received_of (Ok (Prove nonce)) rest = ForProof nonce
received_of (Ok (Ask resource known n)) rest =
    if nat_lt (length rest) n then Incomplete else Complete (operation resource known (take n rest))

abbrev pub IsReceivedAt : SiteRules → HeadArrival → List ℕ → Received → Type 0
IsReceivedAt site arrival.Incomplete xs r = r ≡ Incomplete
IsReceivedAt site arrival.TooLong xs r = r ≡ Rejected HeadTooLarge
IsReceivedAt site (arrival.Head n) xs r =
    (class : Class) × IsHead (take n xs) class × (r ≡ received_of (plan_of site class) (drop n xs))

-- the bytes are that to a service of this site, as far as they are known
abbrev pub IsReceived : SiteRules → Option (List ℕ) → Received → Type 0
IsReceived site None r = Unit {0}
IsReceived site (Some xs) r = IsReceivedAt site (arrival xs) xs r

-- the same, where it is known how far the head goes
abbrev pub IsReceivedFrom : SiteRules → HeadArrival → Option (List ℕ) → Received → Type 0
IsReceivedFrom site a None r = Unit {0}
IsReceivedFrom site a (Some xs) r = IsReceivedAt site a xs r

-- all bytes are that, as far as they are known, and so are those that were read
abbrev pub AreReceived : SiteRules → HeadArrival → Option (List ℕ) → List ℕ → Received → Type 0
AreReceived site a known read r = IsReceivedFrom site a known r × IsReceived site (Some read) r

-- ---- whether a client waits to be told that its body may come

-- So much of the bytes is read with the head, which has come then, if it comes at all. How much a read gives is the
-- reader's to say.
pub record IsReadWithHead (xs early : List ℕ) : Type 0 where
  pub front : StartsWith xs early
  pub arrived : arrival early ≡ arrival xs
  pub last : EndsWithHead early

-- of what was read with a head that goes so far
abbrev pub WaitsAt : SiteRules → HeadArrival → List ℕ → Bool → Type 0
WaitsAt site arrival.Incomplete early b = b ≡ false
WaitsAt site arrival.TooLong early b = b ≡ false
WaitsAt site (arrival.Head n) early b =
    (class : Class) × IsHead (take n early) class × (b ≡ waits class (plan_of site class) (drop n early))

-- of the bytes that come to a service of this site, as far as they are known
abbrev pub Waits : SiteRules → Option (List ℕ) → Bool → Type 0
Waits site None b = Unit {0}
Waits site (Some xs) b = (early : List ℕ) × IsReadWithHead xs early × WaitsAt site (arrival xs) early b

-- ---- what comes of it

abbrev pub result_of : Served → Result ℕ Stop
result_of (served.Answered status) = Ok status
result_of served.Ended = Err Ended
result_of served.ReadFailed = Err ReadFailed
result_of served.WriteFailed = Err WriteFailed
result_of served.Memory = Err Memory

-- a front of the bytes was written
abbrev pub AppendsFront : Option (List ℕ) → Option (List ℕ) → List ℕ → Type 0
AppendsFront w w' bytes = (n : ℕ) × (n ≤ length bytes) × Appends w w' (take n bytes)

-- a response was written, or a front of it; or there was no memory for it, and nothing was written
abbrev pub Sends : Response → Option (List ℕ) → Option (List ℕ) → Result ℕ Stop → Type 0
Sends p w w' (Ok status) = (status ≡ p.status) × Appends w w' p.bytes
Sends p w w' (Err WriteFailed) = AppendsFront w w' p.bytes
Sends p w w' (Err Memory) = Keeps w w'
Sends p w w' (Err Ended) = ⊥
Sends p w w' (Err ReadFailed) = ⊥

-- What becomes of a service of this site that `performs` says what it may do, where `are` says what the bytes may be.
module _ {D : Type 0} (performs : D → Operation → Result ReplyView NoReply → D → Type 0) (site : SiteRules) where
  -- the service did the operation, and this is the response to it: its reply, or that it failed
  abbrev pub Replies : D → Operation → D → Response → Type 0
  Replies d o d' p =
      ((reply : ReplyView) × performs d o (Ok reply) d' × (p ≡ reply_response site.page reply))
      ⊎ ((e : Failure) × performs d o (Err (Failed e)) d' × (p ≡ failure_response site.page e))

  -- this is the response to what was received, and this becomes of the service
  abbrev pub Responds : D → Received → D → Response → Type 0
  Responds d Incomplete d' p = ⊥
  Responds d (Rejected rejection) d' p = (d' ≡ d) × (p ≡ rejection_response site.page rejection)
  Responds d (ForPage page) d' p = (d' ≡ d) × (p ≡ page_response page)
  Responds d (ForProof nonce) d' p = (d' ≡ d) × (p ≡ proof_response site.page (proof_of site.access nonce))
  Responds d (Complete o) d' p = Replies d o d' p

  -- the response to these bytes
  abbrev pub Answers : (Received → Type 0) → D → D → Response → Type 0
  Answers are d d' p = (r : Received) × are r × Responds d r d' p

  -- the operation of these bytes was done, whatever came of it
  abbrev pub Does : (Received → Type 0) → D → D → Type 0
  Does are d d' = (o : Operation) × are (Complete o) × (outcome : Result ReplyView NoReply) × performs d o outcome d'

  -- What a call did that may write an answer. Answered: the response is written. Ended: the bytes aren't a whole
  -- request, and nothing was done or written. ReadFailed: nothing was done or written. WriteFailed: what the response
  -- tells was done, and a front of it is written. Memory: nothing is written, and the operation was done or nothing was.
  abbrev pub Serves : (Received → Type 0) → D → D → Option (List ℕ) → Option (List ℕ) → Result ℕ Stop → Type 0
  Serves are d d' w w' (Ok status) = (p : Response) × Answers are d d' p × (status ≡ p.status) × Appends w w' p.bytes
  Serves are d d' w w' (Err Ended) = are Incomplete × (d' ≡ d) × Keeps w w'
  Serves are d d' w w' (Err ReadFailed) = (d' ≡ d) × Keeps w w'
  Serves are d d' w w' (Err WriteFailed) = (p : Response) × Answers are d d' p × AppendsFront w w' p.bytes
  Serves are d d' w w' (Err Memory) = ((d' ≡ d) ⊎ Does are d d') × Keeps w w'

  -- it stopped before it knew what is asked for, and did and wrote nothing
  abbrev pub StopsEarly : D → D → Option (List ℕ) → Option (List ℕ) → Result ℕ Stop → Type 0
  StopsEarly d d' w w' r = ((r ≡ Err ReadFailed) ⊎ (r ≡ Err Memory)) × (d' ≡ d) × Keeps w w'

  -- an interim response was waited for, of which a front is written, and it did nothing
  abbrev pub FailsToInvite : (Bool → Type 0) → D → D → Option (List ℕ) → Option (List ℕ) → Result ℕ Stop → Type 0
  FailsToInvite wait d d' w w' r =
      wait true × (r ≡ Err WriteFailed) × (d' ≡ d) × AppendsFront w w' (interim_bytes true)

  -- an interim response is written where one is waited for, and nothing where none is; and then an answer may be
  abbrev pub InvitesAndServes : (Bool → Type 0) → (Received → Type 0) → D → D → Option (List ℕ) → Option (List ℕ)
      → Result ℕ Stop → Type 0
  InvitesAndServes wait are d d' w w' r =
      (b : Bool) × wait b × (between : Option (List ℕ)) × Appends w between (interim_bytes b)
      × Serves are d d' between w' r

  -- What a call did, where `wait` says whether an interim response may be waited for.
  abbrev pub ServesOne : (Bool → Type 0) → (Received → Type 0) → D → D → Option (List ℕ) → Option (List ℕ)
      → Result ℕ Stop → Type 0
  ServesOne wait are d d' w w' r =
      StopsEarly d d' w w' r ⊎ (FailsToInvite wait d d' w w' r ⊎ InvitesAndServes wait are d d' w w' r)

  -- an operation was answered, and how that was sent; or there was no memory to ask for it, or for its reply
  abbrev pub PerformsAndSends : D → Operation → D → Option (List ℕ) → Option (List ℕ) → Result ℕ Stop → Type 0
  PerformsAndSends d o d' w w' r =
      ((p : Response) × Replies d o d' p × Sends p w w' r)
      ⊎ ((r ≡ Err Memory) × ((d' ≡ d) ⊎ ((outcome : Result ReplyView NoReply) × performs d o outcome d')) × Keeps w w')

  -- What a connection did to a service of this site: what some bytes ask for, as a call does that reads them. Of what it
  -- wrote nothing is known.
  abbrev pub IsOneStep : D → D → Type 0
  IsOneStep d d' =
      (xs : List ℕ) × (r : Result ℕ Stop)
      × ServesOne (Waits site (Some xs)) (IsReceived site (Some xs)) d d' None None r

-- nothing was done to a service, or one operation, whatever came of it
module _ {D : Type 0} (performs : D → Operation → Result ReplyView NoReply → D → Type 0) where
  abbrev pub IsOneOperation : D → D → Type 0
  IsOneOperation d d' =
      (d' ≡ d) ⊎ ((o : Operation) × (outcome : Result ReplyView NoReply) × performs d o outcome d')

-- a step of a service that takes a request yet
abbrev pub IsTaken : {D : Type 0} → (D → Bool) → (D → D → Type 0) → D → D → Type 0
IsTaken is_over is_step d d' = (is_over d ≡ false) × is_step d d'

-- Steps of one kind, one after another.
module _ {D : Type 0} (is_step : D → D → Type 0) where
  -- so many
  abbrev pub AreSteps : ℕ → D → D → Type 0
  AreSteps zero d d' = d' ≡ d
  AreSteps (suc n) d d' = (middle : D) × AreSteps n d middle × is_step middle d'
