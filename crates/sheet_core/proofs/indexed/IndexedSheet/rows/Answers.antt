use Rattle.std.proofs.Common.{◌≡◌, Some, subst, sym, ◌∙◌}
use Rattle.std.specs.FinMap as table
use Rattle.sheet_core.specs.Sheet.{now_of}
use Rattle.sheet_core.proofs.indexed.IndexedSheet.rows.Goals as goal

pub returns-clause-own : goal.returns-clause-own
returns-clause-own g c =
    λ k x e. let o = c.self.invariant.own k x (subst (λ s. table.get (now_of s) k ≡ Some x) (sym c.self.view_is) e) in
    o.under ∙ sym o.own
