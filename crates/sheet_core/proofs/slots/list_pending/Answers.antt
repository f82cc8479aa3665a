use Rattle.std.proofs.Common.{◌≡◌, ◌≢◌, ◌+◌, ◌≤◌, ◌++◌, ◌∷◌, [], ℕ, List, map, take, get_or}
use Rattle.std.proofs.Common.{sym, ap, ◌∙◌, refl, subst, option_copied, arith, Vec, Global}
use Rattle.std.specs.FinMap as table
use Rattle.std.proofs.lemmas.List.{map-append, take_all, take_more}
use Rattle.std.proofs.lemmas.List.Elements.{All-push, All-same}
use Rattle.sheet_core.specs.declared.sheet.Pending.{Pending}
use Rattle.sheet_core.specs.Sheet.{IsEachOnce}
use Rattle.sheet_core.specs.Slots.{now_row, row_before, slots_of, table_by, times}
use Rattle.sheet_core.proofs.Changes.{AreListed, AreListed-pushed, AreListed-same}
use Rattle.sheet_core.proofs.Changes.{IsDifference-listed, not_yet_listed, place-listed, times-most}
use Rattle.sheet_core.proofs.Listing.{IsEachOnce-push}
use Rattle.sheet_core.proofs.SlotLemmas.{get-slot}
use Rattle.sheet_core.proofs.Writes.{entry-slot, length-slots}
use Rattle.sheet_core.proofs.slots.list_pending.Goals.{then-not-is_as_before+in_ok-push, else-not-is_as_before}
use Rattle.sheet_core.proofs.slots.list_pending.Goals as goal

pub unreachable-requires : goal.unreachable-requires
unreachable-requires g c =
    let digits = g.R.Key.RowKey.digits in
    let within =
    place-listed (slots_of digits c.args.slots.now.entries) c.args.changed.now c.loop-i.i-index _ c.requires.places
    c.loop-i-test.true refl in
    let some = c.in_default.ensures.found.1 (rw (length-slots digits c.args.slots.now.entries) at within) in cc

pub loop-i-preserved : goal.loop-i-preserved
loop-i-preserved g c =
    let digits = g.R.Key.RowKey.digits in
    let changed = c.args.changed.now in
    let n = c.loop-i.i-index in
    let i = get_or changed n 0 in
    let es = slots_of digits c.args.slots.now.entries in
    let k = digits c.in-Some.key.now in
    let h = c.in-Some.held.now in
    let at = entry-slot digits c.args.slots.now.entries i (c.in-Some.key.now, h) (sym c.in-Some.ensures.entry) in
    let more : take (n + 1) changed ≡ take n changed ++ i ∷ [] = take_more changed n 0 c.loop-i-test.true in
    let keys = λ (ps : List (Pending g.row.R.Denot g.row.R-Key.Denot)). map (λ p. digits p.key.now) ps in
    let P =
    λ (p : Pending g.row.R.Denot g.row.R-Key.Denot).
    option_copied p.row ≡ table.get (table_by now_row es) (digits p.key.now) in
    let old = c.loop-i.pending.items in
    let d = c.requires.distinct in
    let listed = c.loop-i.invariant.listed in
    elim c.if-not-is_as_before.branch [
      | then-not-is_as_before+in_ok-push w ↦
          let is : c.if-not-is_as_before.pending.items ≡ _ =
          ap (λ (v : Vec (Pending _ _) Global). v.items) w.pending-is ∙ w.in_ok-push.ensures.items in
          let keys_are : keys c.if-not-is_as_before.pending.items ≡ keys old ++ k ∷ [] =
          ap keys is ∙ map-append (λ (p : Pending _ _). digits p.key.now) old _ in
          let differs : now_row h ≢ row_before h =
          λ e. let yes = c.is_as_before.ensures.1 e in let no = w.if-not-is_as_before.true in cc in
          let most = subst (λ l. times i l ≤ 1) more (times-most es changed (n + 1) i c.requires.places) in
          record {
            once =
                subst IsEachOnce (sym keys_are)
                (IsEachOnce-push k (keys old) c.loop-i.invariant.once
                (not_yet_listed es d (take n changed) (keys old) listed i k h at most));
            listed = subst (λ ks. AreListed es (take (n + 1) changed) ks) (sym keys_are)
                (subst (λ l. AreListed es l (keys old ++ k ∷ [])) (sym more)
                (AreListed-pushed es d (take n changed) (keys old) listed i k h at differs));
            rows =
                All-same P c.if-not-is_as_before.pending.items _ is
                (All-push P old _ c.loop-i.invariant.rows
                (w.row.ensures ∙ sym (get-slot now_row es i k h d at)));
          }
      | else-not-is_as_before w ↦
          let is = ap (λ (v : Vec (Pending _ _) Global). v.items) w.pending-is in
          let same : now_row h ≡ row_before h = c.is_as_before.ensures.0 w.if-not-is_as_before.false in
          record {
            once = subst IsEachOnce (sym (ap keys is)) c.loop-i.invariant.once;
            listed =
                subst (λ ks. AreListed es (take (n + 1) changed) ks) (sym (ap keys is))
                (subst (λ l. AreListed es l (keys old)) (sym more)
                (AreListed-same es d (take n changed) (keys old) listed i k h at same));
            rows = All-same P c.if-not-is_as_before.pending.items old is c.loop-i.invariant.rows;
          }
    ]

pub returns-clause-exact : goal.returns-clause-exact
returns-clause-exact g c =
    let es = slots_of g.R.Key.RowKey.digits c.args.slots.now.entries in
    let ks : List (List ℕ) = map (λ p. g.R.Key.RowKey.digits p.key.now) c.loop-i.pending.items in
    let all : take c.loop-i.i-index c.args.changed.now ≡ c.args.changed.now =
    take_all c.loop-i.i-index c.args.changed.now (omega arith) in
    IsDifference-listed es c.args.changed.now ks c.requires.distinct c.requires.places
    (subst (λ l. AreListed es l ks) all c.loop-i.invariant.listed)
