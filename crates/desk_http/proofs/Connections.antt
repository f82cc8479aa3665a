-- What connections do to a service.
use Rattle.std.proofs.Common.{◌≡◌, ◌+◌, ℕ, Bool, zero, suc, List, inl, inr, arith, subst}
use Rattle.std.specs.Prelude.{Option, Some, None, Result, Ok, Err}
use Rattle.desk_http.specs.Sites.{SiteRules}
use Rattle.desk_http.specs.Responses.{Response}
use Rattle.desk_http.specs.Services.{Operation, ReplyView}
use Rattle.desk_http.specs.Serving.{AreSteps, IsOneStep, IsOneOperation, IsTaken, Answers, Received, Incomplete, Rejected}
use Rattle.desk_http.specs.Serving.{ForPage, ForProof, Complete, Responds, Serves, ServesOne, IsReceived, Waits}
use Rattle.desk_http.specs.declared.service.NoReply.{NoReply}
use Rattle.desk_http.specs.declared.service.NoReply.TheVariants.{Failed}
use Rattle.desk_http.specs.declared.served.Stop.{Stop}
use Rattle.desk_http.specs.declared.served.Stop.TheVariants.{Ended, ReadFailed, WriteFailed, Memory}

-- one connection more
pub one_more : {D : Type 0} (is_step : D → D → Type 0) (n : ℕ) (d d' d'' : D) → AreSteps is_step n d d'
    → is_step d' d'' → AreSteps is_step (n + 1) d d''
one_more is_step n d d' d'' steps step =
    let e : suc n ≡ n + 1 = omega arith in
    subst (λ k. AreSteps is_step k d d'') e (d', steps, step)

module _ {D : Type 0} (performs : D → Operation → Result ReplyView NoReply → D → Type 0) (site : SiteRules) where
  responds : (d d' : D) (r : Received) (p : Response) → Responds performs site d r d' p → IsOneOperation performs d d'
  responds d d' Incomplete p h = absurd h
  responds d d' (Rejected rejection) p h = inl h.0
  responds d d' (ForPage page) p h = inl h.0
  responds d d' (ForProof nonce) p h = inl h.0
  responds d d' (Complete o) p h = elim h [
    | inl replied ↦ inr (o, Ok replied.0, replied.1)
    | inr failed ↦ inr (o, Err (Failed failed.0), failed.1)
  ]

  answers : (are : Received → Type 0) (d d' : D) (p : Response) → Answers performs site are d d' p → IsOneOperation performs d d'
  answers are d d' p h = responds d d' h.0 p h.2

  served : (are : Received → Type 0) (d d' : D) (w w' : Option (List ℕ)) (r : Result ℕ Stop)
      → Serves performs site are d d' w w' r → IsOneOperation performs d d'
  served are d d' w w' (Ok status) h = answers are d d' h.0 h.1
  served are d d' w w' (Err Ended) h = inl h.1
  served are d d' w w' (Err ReadFailed) h = inl h.0
  served are d d' w w' (Err WriteFailed) h = answers are d d' h.0 h.1
  served are d d' w w' (Err Memory) h = elim h.0 [
    | inl same ↦ inl same
    | inr done ↦ inr (done.0, done.2, done.3)
  ]

  -- a connection does one operation at most
  one_operation : (wait : Bool → Type 0) (are : Received → Type 0) (d d' : D) (w w' : Option (List ℕ)) (r : Result ℕ Stop)
      → ServesOne performs site wait are d d' w w' r → IsOneOperation performs d d'
  one_operation wait are d d' w w' r (inl early) = inl early.1
  one_operation wait are d d' w w' r (inr (inl fails)) = inl fails.2
  one_operation wait are d d' w w' r (inr (inr (b, h, between, told, serves))) = served are d d' between w' r serves

  -- and so many connections so many
  pub operations : (over : D → Bool) (n : ℕ) (d d' : D) → AreSteps (IsTaken over (IsOneStep performs site)) n d d'
      → AreSteps (IsTaken over (IsOneOperation performs)) n d d'
  operations over zero d d' h = h
  operations over (suc n) d d' (middle, steps, (taken, (xs, r, serves))) = (
    middle,
    operations over n d middle steps,
    (taken, one_operation (Waits site (Some xs)) (IsReceived site (Some xs)) middle d' None None r serves),
  )
