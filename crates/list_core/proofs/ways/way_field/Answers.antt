use Rattle.std.proofs.Common.{◌≡◌, ◌∙◌, ◌<◌, ◌+◌, ◌-◌, ◌∷◌, arith, sym}
use Rattle.std.specs.FinMap as table
use Rattle.std.specs.String.{string_bytes}
use Rattle.sheet_core.specs.Sheet.{now_of}
use Rattle.list_core.specs.Ways.{as_names, joined}
use Rattle.list_core.proofs.Climbing.{filled, way_on-missing, way_on-none, way_on-some, way_on-zero}
use Rattle.list_core.proofs.ways.way_field.Goals as goal

pub returns-in_default : goal.returns-in_default
returns-in_default c =
    let rows = now_of c.args.rows.now in
    sym (way_on-none (table.len rows - c.loop-step._step) rows (string_bytes c.loop-step.way))
    ∙ (rw c.in_default.is at c.loop-step.invariant)

pub returns-in_default-get : goal.returns-in_default-get
returns-in_default-get c =
    let rows = now_of c.args.rows.now in
    let left = table.len rows - c.loop-step._step in
    sym (way_on-missing left c.in-Some.number rows (string_bytes c.loop-step.way) (sym c.in_default-get.ensures))
    ∙ (rw c.in-Some.is at c.loop-step.invariant)

pub loop-step-preserved : goal.loop-step-preserved
loop-step-preserved c =
    let rows = now_of c.args.rows.now in
    let left = table.len rows - c.loop-step._step in
    let row = c.in-Some-get.row.now in
    let way = string_bytes c.loop-step.way in
    let one : table.len rows - (c.loop-step._step + 1) ≡ left - 1 = omega arith in
    let some : 0 < left = omega (arith, c.len-step-end.ensures.count) in
    let told : string_bytes c.in_ok-way.way ≡ joined (row.name ∷ as_names way) =
    c.in_ok-way.ensures
    ∙ (λ i. joined (c.as_str.ensures.value i ∷ as_names (c.as_str-in-loop-step.ensures.value i))) in
    rw (one, told)
    (sym (way_on-some left c.in-Some.number row rows way some (sym c.in-Some-get.ensures)
    (filled row.name c.as_str.ensures.fits))
    ∙ (rw c.in-Some.is at c.loop-step.invariant))

pub returns : goal.returns
returns c =
    let rows = now_of c.args.rows.now in
    let over : table.len rows - c.loop-step._step ≡ 0 = omega (arith, c.len-step-end.ensures.count) in
    sym (way_on-zero c.loop-step.at rows (string_bytes c.loop-step.way)) ∙ (rw over at c.loop-step.invariant)
