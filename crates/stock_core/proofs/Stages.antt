-- A stage of a command: what it leads to, which loose items hold what they had, and that the outputs of builds are left
-- alone. The walks over lists of moves tell all of it at once.
use Rattle.std.proofs.Common.{◌≡◌, ℕ, Bool, false, arith}
use Rattle.part_core.specs.Catalogue.{Parts}
use Rattle.yard_core.specs.Outputs.{LeavesOutputs}
use Rattle.yard_core.specs.StockBooks.{StockBooks}
use Rattle.yard_core.proofs.Quiet.{leaves-more, leaves-none}
use Rattle.stock_core.specs.Sound.{Owners}
use Rattle.stock_core.proofs.Holding.{HoldsBut, holds-same}
use Rattle.stock_core.proofs.Upright.{Leads, Upright, leads-more, leads-none}

pub record Stage (owners : Owners) (parts : Parts) (but : ℕ → Bool) (old new : StockBooks) : Type 0 where
  pub leads : Leads owners parts old new
  pub holds : HoldsBut but old.stock new.stock
  pub leaves : LeavesOutputs old.stock.items new.stock.items

pub stage-none : (owners : Owners) (parts : Parts) (but : ℕ → Bool) (b : StockBooks) → Upright owners parts b
    → Stage owners parts but b b
stage-none owners parts but b up = record {
  leads = leads-none owners parts b up;
  holds = holds-same but b.stock;
  leaves = leaves-none b.stock.items;
}

-- one after another: an item that doesn't pass passes neither's
pub stage-more : (owners : Owners) (parts : Parts) (one rest but : ℕ → Bool) (b c d : StockBooks)
    → ((k : ℕ) → but k ≡ false → (one k ≡ false) × (rest k ≡ false)) → Stage owners parts one b c
    → Stage owners parts rest c d → Stage owners parts but b d
stage-more owners parts one rest but b c d neither first second = record {
  leads = leads-more owners parts b c d first.leads second.leads;
  holds = λ k out loose.
      let passed = neither k out in
      let was = first.holds k passed.0 loose in
      let is = second.holds k passed.1 was.0 in
      (is.0, omega (arith, was.1, is.1));
  leaves = leaves-more b.stock.items c.stock.items d.stock.items first.leaves second.leaves;
}
