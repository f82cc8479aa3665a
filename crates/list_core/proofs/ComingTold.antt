-- What is gathered line by line of each part is what comes by the lines.
use Rattle.std.proofs.Common.{◌≡◌, ◌∙◌, ◌+◌, ◌-◌, ◌==◌, ℕ, Bool, true, false, List, [], ◌∷◌, Option, Some}
use Rattle.std.proofs.Common.{ap, arith, cond, refl, sym}
use Rattle.std.specs.FinMap as table
use Rattle.std.proofs.lemmas.Bool.{eqb-true}
use Rattle.std.proofs.lemmas.List.Sums.{sum_by-cons}
use Rattle.sheet_core.specs.Sheet.{Table, key_cmp}
use Rattle.sheet_core.proofs.Keys.{keys_total}
use Rattle.order_core.specs.declared.line.OrderLine.{OrderLine}
use Rattle.list_core.specs.Coming.{amount_in, coming_by, coming_in, gathered, with_line}
use Rattle.list_core.specs.declared.coming.Coming.{Coming}
use Rattle.list_core.proofs.Gathered.{same_key}

-- a line comes to its part, and to no other
one_more : (part : ℕ) (line : OrderLine) (t : Table Coming)
    → coming_in part (with_line line t)
    ≡ coming_in part t + cond (line.part == part) (line.quantity - line.done) 0
one_more part line t =
    let row : Coming = record { part = line.part; amount = coming_in line.part t + (line.quantity - line.done) } in
    ap amount_in (table.get-insert keys_total t (line.part ∷ []) row (part ∷ []))
    ∙ ap (λ b. amount_in (cond b (Some row) (table.get t (part ∷ [])))) (sym (same_key part line.part))
    ∙ elim (line.part == part) as (λ b. line.part == part ≡ b
    → amount_in (cond b (Some row) (table.get t (part ∷ [])))
    ≡ coming_in part t + cond b (line.quantity - line.done) 0) [
      | true ↦ λ e. ap (λ n. coming_in n t + (line.quantity - line.done)) (eqb-true line.part part e)
      | false ↦ λ e. omega arith
    ] refl

all_more : (part : ℕ) (lines : List OrderLine) (t : Table Coming)
    → coming_in part (gathered lines t) ≡ coming_in part t + coming_by part lines
all_more part [] t = omega arith
all_more part (l ∷ ls) t =
    let split : coming_by part (l ∷ ls) ≡ cond (l.part == part) (l.quantity - l.done) 0 + coming_by part ls =
    sum_by-cons (λ (x : OrderLine). cond (x.part == part) (x.quantity - x.done) 0) l ls in
    let next : coming_in part (gathered (l ∷ ls) t) ≡ coming_in part (gathered ls (with_line l t)) = refl in
    omega (arith, split, next, all_more part ls (with_line l t), one_more part l t)

-- of all lines it is the sum
pub coming_told : (part : ℕ) (lines : List OrderLine)
    → coming_in part (gathered lines table.empty) ≡ coming_by part lines
coming_told part lines =
    let start : coming_in part table.empty ≡ 0 = ap amount_in (table.get-empty key_cmp (part ∷ [])) in
    omega (arith, all_more part lines table.empty, start)
