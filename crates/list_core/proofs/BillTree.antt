-- The bill of a part, level by level.
use Rattle.std.proofs.Common.{◌≡◌, ◌<◌, ◌≤◌, ◌+◌, ◌-◌, ℕ, zero, suc, List, [], ◌++◌, length, refl, sym, ap, ◌∙◌}
use Rattle.std.proofs.Common.{Bor, arith, drop, get_or, map}
use Rattle.std.specs.Prelude.{flat_map}
use Rattle.std.proofs.lemmas.List.{append-nil, append_assoc, at_drop_all, at_drop_more}
use Rattle.bom_core.specs.Bills.{effective}
use Rattle.bom_core.specs.declared.line.Line.{Line}
use Rattle.desk_core.specs.Machine.{State}
use Rattle.report_core.specs.Lines.{Lines}
use Rattle.list_core.specs.PartList.{bill_rows, line_rows}

-- each of the lines, followed by the bill of its component
abbrev pub bills_below : ℕ → State → ℕ → List Line → Lines
bills_below d s depth lines = flat_map (λ l. line_rows s depth l ++ bill_rows d s (depth + 1) l.component) lines

pub bill-zero : (s : State) (depth part : ℕ) → bill_rows 0 s depth part ≡ []
unfolding bill_rows
bill-zero s depth part = refl

bill-step : (d : ℕ) (s : State) (depth part : ℕ)
    → bill_rows (suc d) s depth part ≡ bills_below d s depth (effective s.parts s.bills part)
unfolding bill_rows
bill-step d s depth part = refl

pub bill-more : (d : ℕ) (s : State) (depth part : ℕ) → (d ≡ 0 → ⊥)
    → bill_rows d s depth part ≡ bills_below (d - 1) s depth (effective s.parts s.bills part)
bill-more zero s depth part e = absurd (e refl)
bill-more (suc d) s depth part e = let one : suc d - 1 ≡ d = omega arith in rw one (bill-step d s depth part)

-- one line more
pub bill-next : (d : ℕ) (s : State) (depth : ℕ) (rows : List (Bor Line)) (i : ℕ) (none : Bor Line) → i < length rows
    → (found one more all : Lines) → one ≡ found ++ line_rows s depth (get_or rows i none).now
    → more ≡ one ++ bill_rows d s (depth + 1) (get_or rows i none).now.component
    → found ++ bills_below d s depth (map (λ x. x.now) (drop i rows)) ≡ all
    → more ++ bills_below d s depth (map (λ x. x.now) (drop (i + 1) rows)) ≡ all
bill-next d s depth rows i none here found one more all e f g =
    let line = (get_or rows i none).now in
    let own = line_rows s depth line in
    let below = bill_rows d s (depth + 1) line.component in
    let rest = bills_below d s depth (map (λ y. y.now) (drop (i + 1) rows)) in
    ap (λ l. l ++ rest) (f ∙ ap (λ l. l ++ below) e ∙ append_assoc found own below)
    ∙ append_assoc found (own ++ below) rest
    ∙ ap (λ l. found ++ l)
    (sym (at_drop_more (λ (ys : List (Bor Line)). bills_below d s depth (map (λ y. y.now) ys)) rows i none here)) ∙ g

-- no line more
pub bill-end : (d : ℕ) (s : State) (depth : ℕ) (rows : List (Bor Line)) (i : ℕ) → length rows ≤ i → (found all : Lines)
    → found ++ bills_below d s depth (map (λ x. x.now) (drop i rows)) ≡ all → found ≡ all
bill-end d s depth rows i end found all g =
    sym (append-nil found)
    ∙ ap (λ l. found ++ l)
    (sym (at_drop_all (λ (ys : List (Bor Line)). bills_below d s depth (map (λ y. y.now) ys)) rows i end)) ∙ g
