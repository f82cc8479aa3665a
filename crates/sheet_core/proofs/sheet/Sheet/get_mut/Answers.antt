use Rattle.std.proofs.Common.{inl, inr, Some, is_some, sym, ap, ◌∙◌, refl, arith}
use Rattle.sheet_core.specs.Sheet.{now_of}
use Rattle.sheet_core.specs.Slots.{noted, now_row, row_before}
use Rattle.sheet_core.proofs.Writes.{lent, noted-lent, sound-as, sound-lent}
use Rattle.sheet_core.proofs.sheet.Sheet.get_mut.Goals as goal

pub unreachable-requires : goal.unreachable-requires
unreachable-requires g c =
    let l =
    lent g.R.Key.RowKey.digits c.note.new.slots.entries c.in_ok-i.i (g.R.Key.RowKey.digits c.args.key)
    c.index_mut.result.now c.index_mut.ensures.value c.in_ok-i.ensures.found c.note.ensures.slots.distinct
    (c.note.ensures.rows ∙ ap now_of c.self.view_is) (c.note.ensures.before ∙ ap (λ s. s.before) c.self.view_is) in
    let one =
    noted-lent g.R.Key.RowKey.digits c.note.new.slots.entries c.in_ok-i.i (g.R.Key.RowKey.digits c.args.key)
    c.index_mut.result.now c.index_mut.ensures.value c.in_ok-i.ensures.found c.in_ok-i.ensures.noted in
    let some = sym (ap is_some l.row) ∙ c.requires in
    elim c.in-Settled.is [
      | inl settled ↦ let none = ap noted settled.1 in absurd (omega arith)
      | inr gone ↦ elim gone [
        | inl removed ↦ let none = ap (λ s. is_some (now_row s)) removed.1 in cc
        | inr nothing ↦ let none = ap (λ s. is_some (now_row s)) nothing in cc
      ]
    ]

pub invariant_of-self-lent : goal.invariant_of-self-lent
invariant_of-self-lent g c x =
    rw c.in-Added.is
    (sound-lent g.R.Key.RowKey.digits c.note.new.slots.entries c.in_ok-i.i (g.R.Key.RowKey.digits c.args.key)
    c.index_mut.result.now c.index_mut.ensures.value c.in_ok-i.ensures.found _ c.note.new.changed.items
    c.self.inside.len c.self.inside.length_before x
    (sound-as c.note.ensures.slots c.note.ensures.rows c.note.ensures.before c.self.invariant.len
    c.self.invariant.length_before)
    (ap (λ s. is_some (now_row s)) c.in-Added.is) refl (sym (ap row_before c.in-Added.is)) (sym (ap noted c.in-Added.is)))

pub invariant_of-self-lent-in-Rewritten : goal.invariant_of-self-lent-in-Rewritten
invariant_of-self-lent-in-Rewritten g c x =
    rw c.in-Rewritten.is
    (sound-lent g.R.Key.RowKey.digits c.note.new.slots.entries c.in_ok-i.i (g.R.Key.RowKey.digits c.args.key)
    c.index_mut.result.now c.index_mut.ensures.value c.in_ok-i.ensures.found _ c.note.new.changed.items
    c.self.inside.len c.self.inside.length_before x
    (sound-as c.note.ensures.slots c.note.ensures.rows c.note.ensures.before c.self.invariant.len
    c.self.invariant.length_before)
    (ap (λ s. is_some (now_row s)) c.in-Rewritten.is) refl (sym (ap row_before c.in-Rewritten.is)) (sym (ap noted c.in-Rewritten.is)))

pub returns-in-Added : goal.returns-in-Added
returns-in-Added g c =
    let l =
    lent g.R.Key.RowKey.digits c.note.new.slots.entries c.in_ok-i.i (g.R.Key.RowKey.digits c.args.key)
    c.index_mut.result.now c.index_mut.ensures.value c.in_ok-i.ensures.found c.note.ensures.slots.distinct
    (c.note.ensures.rows ∙ ap now_of c.self.view_is) (c.note.ensures.before ∙ ap (λ s. s.before) c.self.view_is) in
    rw c.in-Added.is (
      (
        refl,
        λ x _. record { now = l.now _ x refl; before = l.before _ (sym (ap row_before c.in-Added.is)) },
        tt,
      ),
      record {
        writes_back = tt;
        value = l.row ∙ ap now_row c.in-Added.is;
      },
    )

pub returns-in-Rewritten : goal.returns-in-Rewritten
returns-in-Rewritten g c =
    let l =
    lent g.R.Key.RowKey.digits c.note.new.slots.entries c.in_ok-i.i (g.R.Key.RowKey.digits c.args.key)
    c.index_mut.result.now c.index_mut.ensures.value c.in_ok-i.ensures.found c.note.ensures.slots.distinct
    (c.note.ensures.rows ∙ ap now_of c.self.view_is) (c.note.ensures.before ∙ ap (λ s. s.before) c.self.view_is) in
    rw c.in-Rewritten.is (
      (
        refl,
        λ x _. record { now = l.now _ x refl; before = l.before _ (sym (ap row_before c.in-Rewritten.is)) },
        tt,
      ),
      record {
        writes_back = tt;
        value = l.row ∙ ap now_row c.in-Rewritten.is
            ∙ ap Some (sym (c.deref_mut.ensures.value ∙ ap (λ b. b.value) c.in-Rewritten.row-is));
      },
    )
