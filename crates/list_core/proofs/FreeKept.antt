-- What is free of a part stays so as another part's is found.
use Rattle.std.proofs.Common.{◌≡◌, ◌∙◌, inl, inr, ℕ, [], ◌∷◌, Option, Some, None, ap, sym}
use Rattle.std.specs.FinMap as table
use Rattle.sheet_core.specs.Sheet.{Table}
use Rattle.sheet_core.proofs.RowLemmas.{get-insert_cases, same_digit}
use Rattle.desk_core.specs.Machine.{State}
use Rattle.list_core.specs.Amounts.{free_amount}
use Rattle.list_core.specs.FreeAmounts.{AreFree}
use Rattle.list_core.specs.declared.free_amounts.FreeAmount.{FreeAmount}

pub free-none : (s : State) (t : Table FreeAmount) → t ≡ table.empty → AreFree s t
free-none s t e part x there =
    let clash : ◌≡◌ {A = Option FreeAmount} None (Some x) =
    sym (ap (λ (u : Table FreeAmount). table.get u (part ∷ [])) e ∙ table.get-empty _ (part ∷ [])) ∙ there in
    cc

pub free-put : (s : State) (t : Table FreeAmount) (row : FreeAmount) → row.amount ≡ free_amount row.part s
    → AreFree s t → AreFree s (table.insert t (row.part ∷ []) row)
free-put s t row is are part x e = elim (get-insert_cases t (row.part ∷ []) row (part ∷ []) x e) [
  | inl same ↦ ap (λ (r : FreeAmount). r.amount) (sym same.1) ∙ is
      ∙ ap (λ (n : ℕ). free_amount n s) (sym (same_digit part row.part same.0))
  | inr there ↦ are part x there
]
