-- How long clients are waited for.
use Rattle.std.specs.Prelude.{◌+◌, ◌/◌, ◌≤◌, nat_le, ℕ, Bool, Option, Result, IfOk, IfSome}

-- the seconds of a request of which so many bytes have come: half a minute, and one more for each 10 KiB
abbrev pub request_seconds : ℕ → ℕ
request_seconds bytes = 30 + bytes / 10240

-- the seconds of an answer of which so many bytes were taken: half a minute, and one more for each 100 KiB
abbrev pub answer_seconds : ℕ → ℕ
answer_seconds bytes = 30 + bytes / 102400

-- a second, or more, in nanoseconds
abbrev pub is_too_long : ℕ → Bool
is_too_long nanoseconds = nat_le 1000000000 nanoseconds

-- Of the clients that were accepted, so many then and now, so many wait, then and now: n of them at least have gone
-- meanwhile, and are answered or closed.
abbrev pub HaveGone : ℕ → ℕ → ℕ → ℕ → ℕ → Type 0
HaveGone n accepted waiting accepted' waiting' = waiting' + accepted + n ≤ waiting + accepted'

-- A look for the next client, where at most `last` connections may have been accepted in all: no more were, none of them
-- is lost, and a client that was met has gone.
abbrev pub Meets : {A E : Type 0} → ℕ → ℕ → ℕ → ℕ → ℕ → Result (Option A) E → Type 0
Meets last accepted waiting accepted' waiting' result =
    (accepted' ≤ last) × HaveGone 0 accepted waiting accepted' waiting'
    × IfOk result (λ met. IfSome met (λ _. HaveGone 1 accepted waiting accepted' waiting'))
