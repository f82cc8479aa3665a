-- What is served, over plain variables.
use Rattle.std.proofs.Common.{◌≡◌, ◌+◌, ◌≤◌, ◌<◌, ℕ, cond, List, [], ◌++◌, take, drop, length, arith, ap}
use Rattle.std.proofs.Common.{sym, refl, ◌∙◌, subst, append-nil, length-append, length-drop, inl, inr}
use Rattle.std.specs.Prelude.{Option, Some, None, Result, Ok, Err, IfSome, ◌⊎◌}
use Rattle.std.specs.Io.KnownBytes.{IsAtEnd, Keeps}
use Rattle.std.specs.Io.{StartsWith}
use Rattle.std.proofs.KnownBytes.{Keeps-refl, starts_with_rest}
use Rattle.std.proofs.lemmas.List.{take-append-le, take_all, drop-append-le}
use Rattle.std.proofs.lemmas.Bool.{le-ltb, lt-ltb}
use Rattle.desk_http.specs.declared.receive.HeadArrival.{HeadArrival}
use Rattle.desk_http.specs.declared.receive.HeadArrival.TheVariants as arrival
use Rattle.desk_http.specs.declared.rejection.Rejection.{Rejection}
use Rattle.desk_http.specs.declared.rejection.Rejection.TheVariants.{HeadTooLarge}
use Rattle.desk_http.specs.declared.service.Failure.{Failure}
use Rattle.desk_http.specs.declared.service.NoReply.{NoReply}
use Rattle.desk_http.specs.declared.service.NoReply.TheVariants.{Failed}
use Rattle.desk_http.specs.declared.served.Stop.{Stop}
use Rattle.desk_http.specs.declared.served.Stop.TheVariants.{Ended, ReadFailed, WriteFailed, Memory}
use Rattle.desk_http.specs.Sites.{PageView, SiteRules}
use Rattle.desk_http.specs.Heads.{Class, IsHead}
use Rattle.desk_http.specs.Targets.{Resource}
use Rattle.desk_http.specs.Plans.{Plan, Ask, plan_of}
use Rattle.desk_http.specs.Proofs.{proof_of}
use Rattle.desk_http.specs.HeadEnds.{arrival, all_of}
use Rattle.desk_http.specs.Services.{Operation, operation, ReplyView}
use Rattle.desk_http.specs.Responses.{rejection_response, page_response, proof_response, reply_response}
use Rattle.desk_http.specs.Responses.{failure_response}
use Rattle.desk_http.specs.Serving.{Received, Incomplete, Rejected, ForPage, ForProof, Complete, received_of, IsReceivedAt}
use Rattle.desk_http.specs.Serving.{AreReceived, IsReceivedFrom, IsReceived, Serves, Sends, PerformsAndSends}
use Rattle.desk_http.proofs.Arriving.{head_stays}

-- how what was received comes out of a plan
whole : (resource : Resource) (known : Option (List ℕ)) (len : ℕ) (rest : List ℕ) → len ≤ length rest
    → received_of (Ok (Ask resource known len)) rest ≡ Complete (operation resource known (take len rest))
whole resource known len rest h =
    ap (λ b. cond b Incomplete (Complete (operation resource known (take len rest)))) (le-ltb (length rest) len h)

part : (resource : Resource) (known : Option (List ℕ)) (len : ℕ) (rest : List ℕ) → length rest < len
    → received_of (Ok (Ask resource known len)) rest ≡ Incomplete
part resource known len rest h =
    ap (λ b. cond b Incomplete (Complete (operation resource known (take len rest)))) (lt-ltb (length rest) len h)

head_kept : (bs ys h : List ℕ) (n : ℕ) (class : Class) → n ≤ length bs → h ≡ take n bs → IsHead h class
    → IsHead (take n (bs ++ ys)) class
head_kept bs ys h n class l e is = subst (λ v. IsHead v class) (e ∙ sym (take-append-le n bs ys l)) is

-- a head that settles what was received, whatever stands behind it
is_settled : (site : SiteRules) (r : Option (List ℕ)) (bs h : List ℕ) (n : ℕ) (class : Class) (planned : Result Plan Rejection)
    (q : Received) → ((rest : List ℕ) → q ≡ received_of planned rest) → n ≤ length bs → h ≡ take n bs → IsHead h class
    → planned ≡ plan_of site class → IsReceivedFrom site (arrival.Head n) (all_of r bs) q
is_settled site None bs h n class planned q settles l e is p = tt
is_settled site (Some ys) bs h n class planned q settles l e is p = (
  class,
  head_kept bs ys h n class l e is,
  settles (drop n (bs ++ ys)) ∙ ap (λ v. received_of v (drop n (bs ++ ys))) p,
)

-- a body that ended too early
is_incomplete : (site : SiteRules) (r r' : Option (List ℕ)) (bs bs' h : List ℕ) (n len : ℕ) (resource : Resource) (known : Option (List ℕ))
    (class : Class)
    → n ≤ length bs → h ≡ take n bs → IsHead h class → Ok (Ask resource known len) ≡ plan_of site class
    → Keeps (all_of r bs) (all_of r' bs') → IsAtEnd r'
    → length bs' < n + len → IsReceivedFrom site (arrival.Head n) (all_of r bs) Incomplete
is_incomplete site None r' bs bs' h n len resource known class l e is p k end less = tt
is_incomplete site (Some ys) None bs bs' h n len resource known class l e is p k end less = absurd k
is_incomplete site (Some ys) (Some zs) bs bs' h n len resource known class l e is p k end less =
    let all : bs' ≡ bs ++ ys = sym (append-nil bs') ∙ ap (λ v. bs' ++ v) (sym end) ∙ k in
    let short : length (drop n (bs ++ ys)) < len =
    omega (arith, length-drop n (bs ++ ys), ap length all, length-append bs ys) in (
      class,
      head_kept bs ys h n class l e is,
      sym (ap (λ q. received_of q (drop n (bs ++ ys))) (sym p) ∙ part resource known len (drop n (bs ++ ys)) short),
    )

-- a body that has come
is_complete : (site : SiteRules) (r r' : Option (List ℕ)) (bs bs' h body : List ℕ) (n len : ℕ) (resource : Resource) (known : Option (List ℕ))
    (class : Class)
    → n ≤ length bs → h ≡ take n bs → IsHead h class → Ok (Ask resource known len) ≡ plan_of site class
    → Keeps (all_of r bs) (all_of r' bs') → n + len ≤ length bs'
    → body ≡ take len (drop n bs') → IsReceivedFrom site (arrival.Head n) (all_of r bs) (Complete (operation resource known body))
is_complete site None r' bs bs' h body n len resource known class l e is p k fit b = tt
is_complete site (Some ys) None bs bs' h body n len resource known class l e is p k fit b = absurd k
is_complete site (Some ys) (Some zs) bs bs' h body n len resource known class l e is p k fit b =
    let xs = bs ++ ys in
    let fits : len ≤ length (drop n xs) = omega (arith, length-drop n xs, ap length k, length-append bs' zs) in
    let here : n ≤ length bs' = omega arith in
    let rest : len ≤ length (drop n bs') = omega (arith, length-drop n bs') in
    let same : body ≡ take len (drop n xs) =
    b
    ∙ sym (take-append-le len (drop n bs') zs rest)
    ∙ ap (take len) (sym (drop-append-le n bs' zs here))
    ∙ ap (λ v. take len (drop n v)) k in (
      class,
      head_kept bs ys h n class l e is,
      ap (λ v. Complete (operation resource known v)) same
          ∙ sym (whole resource known len (drop n xs) fits)
          ∙ ap (λ q. received_of q (drop n xs)) p,
    )

-- ---- the same of what was read, which the bytes begin with that are known

-- what was read, where its head has come
of_read : (site : SiteRules) (bs bs' : List ℕ) (n : ℕ) (q : Received) → arrival.Head n ≡ arrival bs → StartsWith bs' bs
    → IsReceivedFrom site (arrival.Head n) (all_of (Some (drop (length bs) bs')) bs) q → IsReceived site (Some bs') q
of_read site bs bs' n q e more is =
    subst (λ v. IsReceivedAt site (arrival v) v q) (sym (starts_with_rest bs' bs more))
    (subst (λ a. IsReceivedAt site a (bs ++ drop (length bs) bs') q) (head_stays bs (drop (length bs) bs') n e) is)

-- a reader that had what was read, and nothing else
given : (bs bs' : List ℕ) → StartsWith bs' bs → Keeps (all_of (Some (drop (length bs) bs')) bs) (all_of (Some []) bs')
given bs bs' more = append-nil bs' ∙ starts_with_rest bs' bs more

pub are_settled : (site : SiteRules) (r : Option (List ℕ)) (bs h : List ℕ) (n : ℕ) (class : Class)
    (planned : Result Plan Rejection) (q : Received) → ((rest : List ℕ) → q ≡ received_of planned rest) → n ≤ length bs
    → arrival.Head n ≡ arrival bs → h ≡ take n bs → IsHead h class → planned ≡ plan_of site class
    → AreReceived site (arrival.Head n) (all_of r bs) bs q
are_settled site r bs h n class planned q settles l a e is p =
    let more : StartsWith bs bs = take_all (length bs) bs (omega arith) in (
      is_settled site r bs h n class planned q settles l e is p,
      of_read site bs bs n q a more
          (is_settled site (Some (drop (length bs) bs)) bs h n class planned q settles l e is p),
    )

pub are_incomplete : (site : SiteRules) (r r' : Option (List ℕ)) (bs bs' h : List ℕ) (n len : ℕ) (resource : Resource) (known : Option (List ℕ))
    (class : Class)
    → n ≤ length bs → arrival.Head n ≡ arrival bs → h ≡ take n bs → IsHead h class → Ok (Ask resource known len) ≡ plan_of site class
    → Keeps (all_of r bs) (all_of r' bs') → IsAtEnd r' → StartsWith bs' bs
    → length bs' < n + len → AreReceived site (arrival.Head n) (all_of r bs) bs' Incomplete
are_incomplete site r r' bs bs' h n len resource known class l a e is p k end more less = (
  is_incomplete site r r' bs bs' h n len resource known class l e is p k end less,
  of_read site bs bs' n Incomplete a more
      (is_incomplete site (Some (drop (length bs) bs')) (Some []) bs bs' h n len resource known class l e is p
      (given bs bs' more) refl less),
)

pub are_complete : (site : SiteRules) (r r' : Option (List ℕ)) (bs bs' h body : List ℕ) (n len : ℕ) (resource : Resource) (known : Option (List ℕ))
    (class : Class)
    → n ≤ length bs → arrival.Head n ≡ arrival bs → h ≡ take n bs → IsHead h class → Ok (Ask resource known len) ≡ plan_of site class
    → Keeps (all_of r bs) (all_of r' bs') → StartsWith bs' bs → n + len ≤ length bs'
    → body ≡ take len (drop n bs')
    → AreReceived site (arrival.Head n) (all_of r bs) bs' (Complete (operation resource known body))
are_complete site r r' bs bs' h body n len resource known class l a e is p k more fit b = (
  is_complete site r r' bs bs' h body n len resource known class l e is p k fit b,
  of_read site bs bs' n (Complete (operation resource known body)) a more
      (is_complete site (Some (drop (length bs) bs')) (Some []) bs bs' h body n len resource known class l e is p
      (given bs bs' more) fit b),
)

-- what was read, where its head hasn't come
pub read_too_long : (site : SiteRules) (bs : List ℕ) → arrival.TooLong ≡ arrival bs
    → IsReceived site (Some bs) (Rejected HeadTooLarge)
read_too_long site bs a = subst (λ v. IsReceivedAt site v bs (Rejected HeadTooLarge)) a refl

pub read_incomplete : (site : SiteRules) (bs : List ℕ) → arrival.Incomplete ≡ arrival bs
    → IsReceived site (Some bs) Incomplete
read_incomplete site bs a = subst (λ v. IsReceivedAt site v bs Incomplete) a refl

pub is_too_long : (site : SiteRules) (known : Option (List ℕ))
    → IsReceivedFrom site arrival.TooLong known (Rejected HeadTooLarge)
is_too_long site None = tt
is_too_long site (Some xs) = refl

-- what was read and is still to come are the bytes at the start
pub is_of_all : (site : SiteRules) (o r : Option (List ℕ)) (bs : List ℕ) (a : HeadArrival) → Keeps (all_of o []) (all_of r bs)
    → IfSome (all_of r bs) (λ xs. a ≡ arrival xs)
    → (q : Received) → IsReceivedFrom site a (all_of r bs) q → IsReceived site o q
is_of_all site None r bs a k e q is = tt
is_of_all site (Some xs) None bs a k e q is = absurd k
is_of_all site (Some xs) (Some ys) bs a k e q is =
    subst (λ v. IsReceivedAt site (arrival v) v q) k (subst (λ b. IsReceivedAt site b (bs ++ ys) q) e is)

module _ {D : Type 0} (performs : D → Operation → Result ReplyView NoReply → D → Type 0) (site : SiteRules) where
  -- what may be said of the bytes where more is known of them
  pub moved : (are be : Received → Type 0) → ((q : Received) → are q → be q)
      → (d d' : D) (w w' : Option (List ℕ)) (res : Result ℕ Stop)
      → Serves performs site are d d' w w' res → Serves performs site be d d' w w' res
  moved are be f d d' w w' (Ok status) (p, (q, is, responds), e, k) = (p, (q, f q is, responds), e, k)
  moved are be f d d' w w' (Err Ended) h = (f Incomplete h.0, h.1, h.2)
  moved are be f d d' w w' (Err ReadFailed) h = h
  moved are be f d d' w w' (Err WriteFailed) (p, (q, is, responds), k) = (p, (q, f q is, responds), k)
  moved are be f d d' w w' (Err Memory) (inl same, kept) = (inl same, kept)
  moved are be f d d' w w' (Err Memory) (inr (o, is, outcome, done), kept) =
      (inr (o, f (Complete o) is, outcome, done), kept)

  -- a call that read no more did and wrote nothing
  pub stopped : (are : Received → Type 0) (d : D) (w : Option (List ℕ)) (e : Stop) → (e ≡ ReadFailed) ⊎ (e ≡ Memory)
      → Serves performs site are d d w w (Err e)
  stopped are d w e (inl h) = subst (λ v. Serves performs site are d d w w (Err v)) (sym h) (refl, Keeps-refl w)
  stopped are d w e (inr h) = subst (λ v. Serves performs site are d d w w (Err v)) (sym h) (inl refl, Keeps-refl w)

  pub ended : (are : Received → Type 0) (d : D) (w : Option (List ℕ)) → are Incomplete
      → Serves performs site are d d w w (Err Ended)
  ended are d w is = (is, refl, Keeps-refl w)

  -- a response to what was rejected, sent
  pub rejected : (are : Received → Type 0) (rejection : Rejection) (d : D) (w w' : Option (List ℕ))
      (res : Result ℕ Stop) → are (Rejected rejection)
      → Sends (rejection_response site.page rejection) w w' res → Serves performs site are d d w w' res
  rejected are rejection d w w' (Ok status) is k =
      (rejection_response site.page rejection, (Rejected rejection, is, (refl, refl)), k.0, k.1)
  rejected are rejection d w w' (Err WriteFailed) is k =
      (rejection_response site.page rejection, (Rejected rejection, is, (refl, refl)), k)
  rejected are rejection d w w' (Err Memory) is k = (inl refl, k)
  rejected are rejection d w w' (Err Ended) is k = absurd k
  rejected are rejection d w w' (Err ReadFailed) is k = absurd k

  -- the page, sent
  pub shown : (are : Received → Type 0) (page : PageView) (d : D) (w w' : Option (List ℕ)) (res : Result ℕ Stop)
      → are (ForPage page) → Sends (page_response page) w w' res → Serves performs site are d d w w' res
  shown are page d w w' (Ok status) is k = (page_response page, (ForPage page, is, (refl, refl)), k.0, k.1)
  shown are page d w w' (Err WriteFailed) is k = (page_response page, (ForPage page, is, (refl, refl)), k)
  shown are page d w w' (Err Memory) is k = (inl refl, k)
  shown are page d w w' (Err Ended) is k = absurd k
  shown are page d w w' (Err ReadFailed) is k = absurd k

  -- the proof that the token is known, sent
  pub proved : (are : Received → Type 0) (nonce : List ℕ) (d : D) (w w' : Option (List ℕ)) (res : Result ℕ Stop)
      → are (ForProof nonce) → Sends (proof_response site.page (proof_of site.access nonce)) w w' res → Serves performs site are d d w w' res
  proved are nonce d w w' (Ok status) is k = (proof_response site.page (proof_of site.access nonce), (ForProof nonce, is, (refl, refl)), k.0, k.1)
  proved are nonce d w w' (Err WriteFailed) is k = (proof_response site.page (proof_of site.access nonce), (ForProof nonce, is, (refl, refl)), k)
  proved are nonce d w w' (Err Memory) is k = (inl refl, k)
  proved are nonce d w w' (Err Ended) is k = absurd k
  proved are nonce d w w' (Err ReadFailed) is k = absurd k

  -- a response to what was done, sent
  pub performed : (are : Received → Type 0) (o : Operation) (d d' : D) (w w' : Option (List ℕ)) (res : Result ℕ Stop)
      → are (Complete o)
      → PerformsAndSends performs site d o d' w w' res → Serves performs site are d d' w w' res
  performed are o d d' w w' (Ok status) is (inl (p, replies, k)) = (p, (Complete o, is, replies), k.0, k.1)
  performed are o d d' w w' (Err WriteFailed) is (inl (p, replies, k)) = (p, (Complete o, is, replies), k)
  performed are o d d' w w' (Err Memory) is (inl (p, inl (reply, done, same), k)) = (inr (o, is, Ok reply, done), k)
  performed are o d d' w w' (Err Memory) is (inl (p, inr (e, done, same), k)) = (inr (o, is, Err (Failed e), done), k)
  performed are o d d' w w' (Err Ended) is (inl (p, replies, k)) = absurd k
  performed are o d d' w w' (Err ReadFailed) is (inl (p, replies, k)) = absurd k
  performed are o d d' w w' res is (inr (none, inl same, kept)) =
      subst (λ v. Serves performs site are d d' w w' v) (sym none) (inl same, kept)
  performed are o d d' w w' res is (inr (none, inr done, kept)) =
      subst (λ v. Serves performs site are d d' w w' v) (sym none) (inr (o, is, done.0, done.1), kept)

  pub told : (d : D) (o : Operation) (d' : D) (reply : ReplyView) (w w' : Option (List ℕ)) (res : Result ℕ Stop)
      → performs d o (Ok reply) d' → Sends (reply_response site.page reply) w w' res
      → PerformsAndSends performs site d o d' w w' res
  told d o d' reply w w' res h k = inl (reply_response site.page reply, inl (reply, h, refl), k)

  pub failed : (d : D) (o : Operation) (d' : D) (e : Failure) (w w' : Option (List ℕ)) (res : Result ℕ Stop)
      → performs d o (Err (Failed e)) d' → Sends (failure_response site.page e) w w' res
      → PerformsAndSends performs site d o d' w w' res
  failed d o d' e w w' res h k = inl (failure_response site.page e, inr (e, h, refl), k)

  pub untold : (d : D) (o : Operation) (d' : D) (e : NoReply) (w : Option (List ℕ)) → performs d o (Err e) d'
      → PerformsAndSends performs site d o d' w w (Err Memory)
  untold d o d' e w h = inr (refl, inr (Err e, h), Keeps-refl w)

  pub unasked : (d : D) (o : Operation) (d' : D) (w : Option (List ℕ)) → d' ≡ d
      → PerformsAndSends performs site d o d' w w (Err Memory)
  unasked d o d' w h = inr (refl, inl h, Keeps-refl w)
