-- Tables are those of a sound state where their rows are sound.
use Rattle.std.proofs.Common.{◌≡◌, ℕ, zero, suc, ◌<◌, true, List, [], ◌∷◌, length, get_or, Option, Some, subst, arith}
use Rattle.std.specs.Prelude.{IfSome}
use Rattle.std.specs.FinMap as table
use Rattle.word_core.specs.Counter.{IsNext}
use Rattle.sheet_core.specs.Filled.{StandUnderKeys, filled, filled_onto}
use Rattle.sheet_core.specs.Rows.{EachRow}
use Rattle.sheet_core.specs.Sheet.{Table}
use Rattle.sheet_core.proofs.FilledTables.{filled-own}
use Rattle.sheet_core.proofs.RowLemmas.{each-empty, each-insert}
use Rattle.order_core.specs.declared.order.Order.{Order}
use Rattle.yard_core.specs.Stock.{IsRun}
use Rattle.desk_core.specs.Assembled.{AreKeys, AreSoundTables, HasSoundBooks, state_from}
use Rattle.desk_core.specs.Key.{is_key}
use Rattle.desk_core.specs.Machine.{StandsKept}
use Rattle.desk_core.specs.ShopView.{state_of}
use Rattle.desk_core.specs.declared.kept.Kept.{Kept}
use Rattle.desk_core.specs.declared.shop.Shop.{Shop}
use Rattle.desk_core.specs.declared.shop.assemble.Tables.{Tables}

-- the word of a row is a key
abbrev HasKey : Kept → Type 0
HasKey row = is_key row.word ≡ true

keys-onto : (t : Table Kept) (rows : List Kept) → AreKeys rows → EachRow HasKey t
    → EachRow HasKey (filled_onto (λ row. row.word) t rows)
keys-onto t [] keys each = each
keys-onto t (row ∷ rows) keys each =
    keys-onto (table.insert t row.word row) rows keys.1 (each-insert HasKey t row.word row keys.0 each)

-- kept answers that are read stand under their own keys
stand-kept : (rows : List Kept) → AreKeys rows → (k : List ℕ) (row : Kept)
    → table.get (filled (λ (r : Kept). r.word) rows) k ≡ Some row → StandsKept k row
stand-kept rows keys k row e = record {
  own = filled-own (λ (r : Kept). r.word) rows k row e;
  key = keys-onto table.empty rows keys (each-empty HasKey) k row e;
}

pub sound_tables : (t : Tables) → IsNext t.limits t.next → t.entries ≡ length t.history.items
    → IsRun 1 t.history.items → AreKeys t.answers.items → HasSoundBooks (state_from t) → AreSoundTables t
sound_tables t next entries numbered keys books = record {
  entries = entries;
  numbered = numbered;
  state = record {
    next = next;
    bills = books.bills;
    stock = books.stock;
    allocations = books.owners.allocations;
    orders = books.owners.orders;
    builds = books.owners.builds;
    answers = stand-kept t.answers.items keys;
  };
}

pub sound_books : (t : Tables) → AreSoundTables t → HasSoundBooks (state_from t)
sound_books t sound =
    let s = sound.state in
    record {
      bills = s.bills;
      stock = s.stock;
      owners = record { allocations = s.allocations; orders = s.orders; builds = s.builds };
    }

-- a shop that was made is that of the tables
pub shop_is : (made : Option Shop) (shop : Shop) (t : Tables) → made ≡ Some shop
    → IfSome made (λ s. state_of s ≡ state_from t) → state_of shop ≡ state_from t
shop_is made shop t is now = subst (λ (o : Option Shop). IfSome o (λ s. state_of s ≡ state_from t)) is now

pub orders_own : (t : Tables) → StandUnderKeys (λ (o : Order). o.number ∷ []) (state_from t).orders
orders_own t = filled-own (λ (o : Order). o.number ∷ []) t.orders.items

pub keys_from : (rows : List Kept) → ((k : ℕ) (d : Kept) → k < length rows → HasKey (get_or rows k d)) → AreKeys rows
keys_from [] each = tt
keys_from (row ∷ rows) each =
    (each zero row (omega arith), keys_from rows (λ k d lt. each (suc k) d (omega (arith, lt))))
