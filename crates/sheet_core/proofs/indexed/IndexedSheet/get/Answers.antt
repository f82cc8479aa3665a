use Rattle.std.proofs.Common.{◌≡◌, ◌∷◌, [], Some, None, sym, ◌∙◌}
use Rattle.std.specs.Prelude.{IfSome, option_copied}
use Rattle.std.specs.FinMap as table
use Rattle.sheet_core.specs.Sheet.{now_of}
use Rattle.sheet_core.proofs.indexed.IndexedSheet.get.Goals as goal

pub returns-clause-own : goal.returns-clause-own
returns-clause-own g c =
    let key = c.args.number ∷ [] in
    elim c.get.result as (λ o. option_copied o ≡ table.get (now_of c.self.inside.sheet) key
    → IfSome o (λ row. g.R.Row.key_of row.now ≡ c.args.number ∷ [])) [
      | None ↦ λ e. tt
      | Some row ↦ λ e. let o = c.self.invariant.own key row.now (sym e) in o.own ∙ sym o.under
    ] c.get.ensures
