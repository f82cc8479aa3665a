-- Clients that wait to be told that their body may come, and all that is done for a client.
use Rattle.std.proofs.Common.{◌≡◌, ◌+◌, ◌-◌, ◌≤◌, ◌<◌, ℕ, Bool, true, false, List, [], take, drop, length, arith, ap}
use Rattle.std.proofs.Common.{sym, refl, ◌∙◌, subst, length-drop, inl, inr}
use Rattle.std.specs.Prelude.{Option, Some, None, Result, Ok, Err, IfSome, IsErrAnd, ◌⊎◌, ◌&&◌, nat_lt}
use Rattle.std.specs.Io.KnownBytes.{Appends, IsAtEnd, Keeps}
use Rattle.std.specs.Io.{StartsWith}
use Rattle.std.proofs.KnownBytes.{Appends-nil, prepend_known-front, starts_with_rest}
use Rattle.std.proofs.lemmas.List.{take_all}
use Rattle.desk_http.specs.declared.receive.HeadArrival.{HeadArrival}
use Rattle.desk_http.specs.declared.receive.HeadArrival.TheVariants as arrival
use Rattle.desk_http.specs.declared.rejection.Rejection.{Rejection}
use Rattle.desk_http.specs.declared.service.NoReply.{NoReply}
use Rattle.desk_http.specs.declared.served.Stop.{Stop}
use Rattle.desk_http.specs.declared.served.Stop.TheVariants.{Ended, ReadFailed, Memory}
use Rattle.desk_http.specs.Sites.{PageView, SiteRules}
use Rattle.desk_http.specs.Heads.{Class, IsHead}
use Rattle.desk_http.specs.Targets.{Resource}
use Rattle.desk_http.specs.Plans.{Plan, Ask, ShowPage, Prove, plan_of, expects_continue, waits}
use Rattle.desk_http.specs.Proofs.{proof_of}
use Rattle.desk_http.specs.HeadEnds.{arrival, all_of, EndsWithHead}
use Rattle.desk_http.specs.Services.{Operation, operation, ReplyView}
use Rattle.desk_http.specs.Responses.{rejection_response, page_response, proof_response, interim_bytes}
use Rattle.desk_http.specs.Serving.{Received, Incomplete, Rejected, ForPage, ForProof, AreReceived, IsReceivedFrom}
use Rattle.desk_http.specs.Serving.{PerformsAndSends, Sends, Serves, ServesOne, Waits, WaitsAt}
use Rattle.desk_http.proofs.Arriving.{head_stays}
use Rattle.desk_http.proofs.Serving.{are_settled, are_incomplete, are_complete, moved, rejected, shown, proved}
use Rattle.desk_http.proofs.Serving.{ended, performed, stopped}

-- ---- whether a client waits, by what was read

-- a client of whom this was read with the head, whatever comes behind it
waits_among : (site : SiteRules) (xs bs : List ℕ) (a : HeadArrival) (b : Bool) → StartsWith xs bs → a ≡ arrival bs
    → a ≡ arrival xs → EndsWithHead bs → WaitsAt site a bs b → Waits site (Some xs) b
waits_among site xs bs a b front here whole last is = (
  bs,
  record { front = front; arrived = sym here ∙ whole; last = last },
  subst (λ v. WaitsAt site v bs b) whole is,
)

-- what was read and is still to come are the bytes at the start
pub waits_of_all : (site : SiteRules) (o r : Option (List ℕ)) (bs : List ℕ) (a : HeadArrival)
    → Keeps (all_of o []) (all_of r bs) → IfSome (all_of r bs) (λ xs. a ≡ arrival xs) → a ≡ arrival bs
    → EndsWithHead bs → (b : Bool) → WaitsAt site a bs b → Waits site o b
waits_of_all site None r bs a k e here last b is = tt
waits_of_all site (Some xs) None bs a k e here last b is = absurd k
waits_of_all site (Some xs) (Some ys) bs a k e here last b is =
    waits_among site xs bs a b (prepend_known-front (Some xs) (Some ys) bs k) here (e ∙ ap arrival k) last is

-- more was read behind the head
pub waits_of_read : (site : SiteRules) (bs bs' : List ℕ) (n : ℕ) → StartsWith bs' bs → arrival.Head n ≡ arrival bs
    → EndsWithHead bs → (b : Bool) → WaitsAt site (arrival.Head n) bs b → Waits site (Some bs') b
waits_of_read site bs bs' n more here last b is =
    waits_among site bs' bs (arrival.Head n) b more here
    (subst (λ v. arrival.Head n ≡ arrival v) (sym (starts_with_rest bs' bs more))
    (head_stays bs (drop (length bs) bs') n here)) last is

-- nothing more was read
pub waits_of_this : (site : SiteRules) (bs : List ℕ) (a : HeadArrival) → a ≡ arrival bs → EndsWithHead bs
    → WaitsAt site a bs false → Waits site (Some bs) false
waits_of_this site bs a here last is = waits_among site bs bs a false (take_all (length bs) bs (omega arith)) here here last is

pub is_unfinished : (site : SiteRules) (known : Option (List ℕ)) → IsReceivedFrom site arrival.Incomplete known Incomplete
is_unfinished site None = tt
is_unfinished site (Some xs) = refl

module _ {D : Type 0} (performs : D → Operation → Result ReplyView NoReply → D → Type 0) (site : SiteRules) where
  -- where more is known of the bytes, and of whether a client waits
  pub moved_one : (wait wait' : Bool → Type 0) → ((b : Bool) → wait b → wait' b) → (are be : Received → Type 0)
      → ((q : Received) → are q → be q) → (d d' : D) (w w' : Option (List ℕ)) (res : Result ℕ Stop)
      → ServesOne performs site wait are d d' w w' res → ServesOne performs site wait' be d d' w w' res
  moved_one wait wait' g are be f d d' w w' res (inl early) = inl early
  moved_one wait wait' g are be f d d' w w' res (inr (inl (h, fails, same, front))) =
      inr (inl (g true h, fails, same, front))
  moved_one wait wait' g are be f d d' w w' res (inr (inr (b, h, between, told, served))) =
      inr (inr (b, g b h, between, told, moved performs site are be f d d' between w' res served))

  -- nobody waits
  pub uninvited : (wait : Bool → Type 0) (are : Received → Type 0) (d d' : D) (w w' : Option (List ℕ)) (res : Result ℕ Stop)
      → wait false → Serves performs site are d d' w w' res → ServesOne performs site wait are d d' w w' res
  uninvited wait are d d' w w' res h served = inr (inr (false, h, w, Appends-nil w, served))

  -- ---- what is done where a head has come, of so many of the bytes that were read
  module _ (r : Option (List ℕ)) (bs h : List ℕ) (n : ℕ) (class : Class) (inside : n ≤ length bs)
      (here : arrival.Head n ≡ arrival bs) (cut : h ≡ take n bs) (is : IsHead h class) where
    abbrev Wait : Bool → Type 0
    Wait = WaitsAt site (arrival.Head n) bs

    abbrev Are : List ℕ → Received → Type 0
    Are bs' = AreReceived site (arrival.Head n) (all_of r bs) bs'

    -- a plan that has no body
    for_none : (planned : Result Plan Rejection) → ((rest : List ℕ) → false ≡ waits class planned rest)
        → planned ≡ plan_of site class → Wait false
    for_none planned none p = (
      class,
      subst (λ v. IsHead v class) cut is,
      none (drop n bs) ∙ ap (λ q. waits class q (drop n bs)) p,
    )

    for_body : (len : ℕ) (resource : Resource) (known : Option (List ℕ)) (b : Bool)
        → Ok (Ask resource known len) ≡ plan_of site class
        → b ≡ (nat_lt (length bs - n) len && expects_continue class) → Wait b
    for_body len resource known b p waiting = (
      class,
      subst (λ v. IsHead v class) cut is,
      waiting
          ∙ ap (λ k. nat_lt k len && expects_continue class) (sym (length-drop n bs))
          ∙ ap (λ q. waits class q (drop n bs)) p,
    )

    pub rejected_one : (rejection : Rejection) (d : D) (w w' : Option (List ℕ)) (res : Result ℕ Stop)
        → Err rejection ≡ plan_of site class → Sends (rejection_response site.page rejection) w w' res
        → ServesOne performs site Wait (Are bs) d d w w' res
    rejected_one rejection d w w' res p sends =
        uninvited Wait (Are bs) d d w w' res (for_none (Err rejection) (λ _. refl) p)
        (rejected performs site (Are bs) rejection d w w' res
        (are_settled site r bs h n class (Err rejection) (Rejected rejection) (λ _. refl) inside here cut is p) sends)

    pub shown_one : (page : PageView) (d : D) (w w' : Option (List ℕ)) (res : Result ℕ Stop)
        → Ok (ShowPage page) ≡ plan_of site class → Sends (page_response page) w w' res
        → ServesOne performs site Wait (Are bs) d d w w' res
    shown_one page d w w' res p sends =
        uninvited Wait (Are bs) d d w w' res (for_none (Ok (ShowPage page)) (λ _. refl) p)
        (shown performs site (Are bs) page d w w' res
        (are_settled site r bs h n class (Ok (ShowPage page)) (ForPage page) (λ _. refl) inside here cut is p) sends)

    pub proved_one : (nonce : List ℕ) (d : D) (w w' : Option (List ℕ)) (res : Result ℕ Stop)
        → Ok (Prove nonce) ≡ plan_of site class → Sends (proof_response site.page (proof_of site.access nonce)) w w' res
        → ServesOne performs site Wait (Are bs) d d w w' res
    proved_one nonce d w w' res p sends =
        uninvited Wait (Are bs) d d w w' res (for_none (Ok (Prove nonce)) (λ _. refl) p)
        (proved performs site (Are bs) nonce d w w' res
        (are_settled site r bs h n class (Ok (Prove nonce)) (ForProof nonce) (λ _. refl) inside here cut is p) sends)

    -- ---- what is done where a body is to be read, of a client that waits or doesn't
    module _ (len : ℕ) (resource : Resource) (known : Option (List ℕ)) (p : Ok (Ask resource known len) ≡ plan_of site class)
        (b : Bool) (waiting : b ≡ (nat_lt (length bs - n) len && expects_continue class)) where
      -- it was told, if it waits
      module _ (d d' : D) (w between : Option (List ℕ)) (told : Appends w between (interim_bytes b)) where
        invited : (bs' : List ℕ) (w' : Option (List ℕ)) (res : Result ℕ Stop)
            → Serves performs site (Are bs') d d' between w' res → ServesOne performs site Wait (Are bs') d d' w w' res
        invited bs' w' res served = inr (inr (b, for_body len resource known b p waiting, between, told, served))

        pub performed_one : (r' : Option (List ℕ)) (bs' body : List ℕ) (w' : Option (List ℕ)) (res : Result ℕ Stop)
            → Keeps (all_of r bs) (all_of r' bs') → StartsWith bs' bs → n + len ≤ length bs' → body ≡ take len (drop n bs')
            → PerformsAndSends performs site d (operation resource known body) d' between w' res
            → ServesOne performs site Wait (Are bs') d d' w w' res
        performed_one r' bs' body w' res keeps more fit taken done =
            invited bs' w' res
            (performed performs site (Are bs') (operation resource known body) d d' between w' res
            (are_complete site r r' bs bs' h body n len resource known class inside here cut is p keeps more fit taken) done)

      module _ (d : D) (w between : Option (List ℕ)) (told : Appends w between (interim_bytes b)) where
        pub ended_one : (r' : Option (List ℕ)) (bs' : List ℕ) → Keeps (all_of r bs) (all_of r' bs') → IsAtEnd r'
            → StartsWith bs' bs → length bs' < n + len → ServesOne performs site Wait (Are bs') d d w between (Err Ended)
        ended_one r' bs' keeps end more less =
            invited d d w between told bs' between (Err Ended)
            (ended performs site (Are bs') d between
            (are_incomplete site r r' bs bs' h n len resource known class inside here cut is p keeps end more less))

        pub stopped_one : (bs' : List ℕ) (res : Result ℕ Stop) (e : Stop) → IsErrAnd res (λ s. s ≡ e)
            → (e ≡ ReadFailed) ⊎ (e ≡ Memory) → ServesOne performs site Wait (Are bs') d d w between res
        stopped_one bs' (Ok status) e is h = absurd is
        stopped_one bs' (Err s) e is h =
            subst (λ v. ServesOne performs site Wait (Are bs') d d w between (Err v)) (sym is)
            (invited d d w between told bs' between (Err e) (stopped performs site (Are bs') d between e h))
