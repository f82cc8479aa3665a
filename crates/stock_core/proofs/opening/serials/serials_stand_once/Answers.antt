use Rattle.std.proofs.Common.{◌≡◌, ◌∙◌, ℕ, ◌<◌, List, None, Some, sym, true}
use Rattle.std.proofs.Common.{false, refl, ap, arith, take, length, subst}
use Rattle.std.specs.Prelude.{option_map}
use Rattle.std.specs.Borrow.{Bor}
use Rattle.std.specs.HashSet as hash
use Rattle.std.specs.List.{list_any}
use Rattle.part_core.specs.CatalogueView.{parts_of}
use Rattle.yard_core.specs.Stock.{holds_serial}
use Rattle.stock_core.specs.Opening.{Key, held_key, seen_key}
use Rattle.yard_core.proofs.Below.{seen}
use Rattle.stock_core.proofs.Repeats.{same_key, not_true, not_false, one_key, no_key}
use Rattle.stock_core.proofs.Repeats.{none_step, some_step, fresh_step, once_from, twice}
use Rattle.stock_core.proofs.opening.serials.serials_stand_once.Goals.{in-Some+in_ok-is_new-in-Some+else-not-is_new}
use Rattle.stock_core.proofs.opening.serials.serials_stand_once.Goals.{in-None}
use Rattle.stock_core.proofs.opening.serials.serials_stand_once.Goals as goal

pub loop-i-preserved : goal.loop-i-preserved
loop-i-preserved c =
    let parts = parts_of c.args.catalogue.now in
    let rows = c.args.rows.now in
    let i = c.loop-i.i in
    let x = c.index-rows-i.result in
    let lt : i < length rows = omega arith in
    let old = λ (f : ℕ) (s : Bor (List ℕ)). hash.contains same_key c.loop-i.taken (f, s) in
    elim c.match-held_key.branch [
      | in-Some+in_ok-is_new-in-Some+else-not-is_new w ↦
          let k = w.in-Some.key in
          let key : held_key parts x.now ≡ Some (seen_key k) =
          sym c.held_key.ensures ∙ ap (option_map seen_key) w.in-Some.is in
          let new = λ (f : ℕ) (s : Bor (List ℕ)). hash.contains same_key w.insert.new.self (f, s) in
          let none = not_true _ _ w.in_ok-is_new-in-Some.ensures.added w.if-not-is_new.false in
          record {
            taken =
                λ f s.
                ap (λ t. hash.contains same_key t (f, s)) w.taken-is ∙ some_step parts rows i x lt c.index-rows-i.is old
                c.loop-i.invariant.taken k key new (λ f s. w.in_ok-is_new-in-Some.ensures.updates.0 (f, s)) f s;
            fresh = fresh_step parts rows i x lt c.index-rows-i.is c.loop-i.invariant.fresh (λ f s e.
                subst (λ (q : Key). list_any (holds_serial q.1 q.0 parts) (seen (take i rows)) ≡ false)
                (one_key (seen_key k) (f, s) (sym key ∙ e)) (sym (c.loop-i.invariant.taken k.0 k.1) ∙ none));
          }
      | in-None w ↦
          let key : held_key parts x.now ≡ None = sym c.held_key.ensures ∙ ap (option_map seen_key) w.in-None.is in
          record {
            taken =
                λ f s. ap (λ t. hash.contains same_key t (f, s)) w.taken-is
                ∙ none_step parts rows i x lt c.index-rows-i.is old c.loop-i.invariant.taken key f s;
            fresh =
                fresh_step parts rows i x lt c.index-rows-i.is c.loop-i.invariant.fresh
                (λ f s e. no_key _ (f, s) (sym key ∙ e));
          }
    ]

pub returns-then-not-is_new : goal.returns-then-not-is_new
returns-then-not-is_new c =
    let parts = parts_of c.args.catalogue.now in
    let rows = c.args.rows.now in
    let k = c.in-Some.key in
    let key : held_key parts c.index-rows-i.result.now ≡ Some (seen_key k) =
    sym c.held_key.ensures ∙ ap (option_map seen_key) c.in-Some.is in
    let some = not_false _ _ c.in_ok-is_new-in-Some.ensures.added c.if-not-is_new.true in (
      λ no. (let e : false ≡ true = no in cc),
      λ once. absurd (twice parts rows c.loop-i.i c.index-rows-i.result (seen_key k) c.requires (omega arith)
          c.index-rows-i.is key (sym (c.loop-i.invariant.taken k.0 k.1) ∙ some) once),
    )

pub returns : goal.returns
returns c = (
  λ _. once_from (parts_of c.args.catalogue.now) c.args.rows.now
      (λ k r f s lt e. c.loop-i.invariant.fresh k r f s (omega arith) e),
  λ _. refl,
)
