use Rattle.std.proofs.Common.{◌≡◌, ◌++◌, ◌∷◌, [], cond, map, take, option_copied, refl, sym, ap, ◌∙◌, arith, Vec, Global}
use Rattle.std.proofs.lemmas.List.{take_all, map-append, append-nil}
use Rattle.sheet_core.specs.declared.slots.KeyedRow.{KeyedRow}
use Rattle.sheet_core.specs.Slots.{now_row, row_found, rows_by, slots_of}
use Rattle.sheet_core.proofs.Scans.{one_passing, passing-more}
use Rattle.sheet_core.proofs.Selects.{passing}
use Rattle.sheet_core.proofs.Writes.{entry-slot, length-slots}
use Rattle.sheet_core.proofs.slots.find_rows.Goals.{in-Some-row+then-test+in_ok-push}
use Rattle.sheet_core.proofs.slots.find_rows.Goals.{in-Some-row+else-test, in_default-row}
use Rattle.sheet_core.proofs.slots.find_rows.Goals as goal

pub loop-i-preserved : goal.loop-i-preserved
loop-i-preserved g c = record {
  callable = c.loop-i.invariant.callable;
  found = λ p is.
      let digits = g.R.Key.RowKey.digits in
      let es = slots_of digits c.args.slots.now.entries in
      let i = c.loop-i.i in
      let k = digits c.in-Some.key.now in
      let h = c.in-Some.held.now in
      let at = entry-slot digits c.args.slots.now.entries i (c.in-Some.key.now, h) (sym c.in-Some.ensures.entry) in
      let so_far = passing p (rows_by now_row (take i es)) in
      let more = passing-more p es i k h at in
      let before = c.loop-i.invariant.found p is in
      elim c.match-row.branch [
        | in-Some-row+then-test+in_ok-push w ↦
            let answer : w.test.result ≡ p w.in-Some-row.row.now =
            is w.in-Some-row.row.now w.test.result
            (record { shown = _; shows = refl; says = record { met = w.test.ensures } }) in
            let one =
            ap (one_passing p k) (sym c.row.ensures ∙ ap option_copied w.in-Some-row.is)
            ∙ ap (λ b. cond b ((k, w.in-Some-row.row.now) ∷ []) []) (sym answer ∙ w.if-test.true) in
            ap (λ (v : Vec (KeyedRow _ _) Global). map (row_found digits) v.items) w.found-is
            ∙ ap (map (row_found digits)) w.in_ok-push.ensures.items
            ∙ map-append (row_found digits) c.loop-i.found.items _
            ∙ ap (λ l. l ++ (k, w.in-Some-row.row.now) ∷ []) before
            ∙ sym (more ∙ ap (λ l. so_far ++ l) one)
        | in-Some-row+else-test w ↦
            let answer : w.test.result ≡ p w.in-Some-row.row.now =
            is w.in-Some-row.row.now w.test.result
            (record { shown = _; shows = refl; says = record { met = w.test.ensures } }) in
            let none =
            ap (one_passing p k) (sym c.row.ensures ∙ ap option_copied w.in-Some-row.is)
            ∙ ap (λ b. cond b ((k, w.in-Some-row.row.now) ∷ []) []) (sym answer ∙ w.if-test.false) in
            ap (λ (v : Vec (KeyedRow _ _) Global). map (row_found digits) v.items) w.found-is
            ∙ before
            ∙ sym (more ∙ ap (λ l. so_far ++ l) none ∙ append-nil so_far)
        | in_default-row w ↦
            let none = ap (one_passing p k) (sym c.row.ensures ∙ ap option_copied w.in_default-row.is) in
            ap (λ (v : Vec (KeyedRow _ _) Global). map (row_found digits) v.items) w.found-is
            ∙ before
            ∙ sym (more ∙ ap (λ l. so_far ++ l) none ∙ append-nil so_far)
      ];
}

pub returns : goal.returns
returns g c p is =
    let digits = g.R.Key.RowKey.digits in
    let es = slots_of digits c.args.slots.now.entries in
    let all : take c.loop-i.i es ≡ es =
    take_all c.loop-i.i es (omega (arith, length-slots digits c.args.slots.now.entries, c.len-i-end.ensures.len)) in
    c.loop-i.invariant.found p is ∙ ap (λ l. passing p (rows_by now_row l)) all
