use Rattle.std.proofs.Common.{◌≡◌, ◌==◌, ℕ, false, ap, sym, ◌∙◌, get_or, arith, below_more}
use Rattle.std.proofs.lemmas.Bool.Decides.{nat_tests}
use Rattle.std.proofs.lemmas.Option.{slice_get_within, get_or_from_slice_get}
use Rattle.sheet_core.proofs.Filings.{key-at, no-key, past-end}
use Rattle.sheet_core.specs.Indexed.{hashed}
use Rattle.sheet_core.proofs.index.has_key.Goals as goal

pub loop-place-init : goal.loop-place-init
loop-place-init g c = λ j low. absurd (omega arith)

pub returns-then-other-key : goal.returns-then-other-key
returns-then-other-key g c =
    let keys = hashed c.args.seed.now g.R.Indexed.index_keys c.args.row.now in
    let at = sym c.index_key.ensures ∙ c.in-Some.is in
    sym (key-at keys c.loop-place.place c.args.key (slice_get_within keys c.loop-place.place c.in-Some.other at)
    (get_or_from_slice_get keys c.loop-place.place c.in-Some.other 0 at ∙ c.if-other-key.true))

pub returns-in-None : goal.returns-in-None
returns-in-None g c =
    let keys = hashed c.args.seed.now g.R.Indexed.index_keys c.args.row.now in
    sym (no-key keys c.loop-place.place c.args.key c.loop-place.invariant
    (past-end keys c.loop-place.place (sym c.in-None.ensures)))

other_key : (a b : ℕ) → (a ≡ b → ⊥) → (a == b) ≡ false
other_key a b other = grind (arith, nat_tests)

pub loop-place-preserved : goal.loop-place-preserved
loop-place-preserved g c =
    let keys = hashed c.args.seed.now g.R.Indexed.index_keys c.args.row.now in
    let at = sym c.index_key.ensures ∙ c.in-Some.is in
    below_more (λ j. (get_or keys j 0 == c.args.key) ≡ false) c.loop-place.place c.loop-place.invariant
    (ap (λ k. k == c.args.key) (get_or_from_slice_get keys c.loop-place.place c.in-Some.other 0 at)
    ∙ other_key c.in-Some.other c.args.key c.if-other-key.false)

pub returns : goal.returns
returns g c =
    sym
    (no-key (hashed c.args.seed.now g.R.Indexed.index_keys c.args.row.now) c.loop-place.place c.args.key c.loop-place.invariant (omega arith))
