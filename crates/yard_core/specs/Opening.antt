-- What holds of the rows of a sound yard, in order of number, beside that the entries are numbered.
use Rattle.std.specs.Prelude.{List}
use Rattle.sheet_core.specs.Sheet.{Table}
use Rattle.forest.specs.declared.entry.Entry.{Entry}
use Rattle.forest.specs.declared.item.Item.{Item}
use Rattle.forest.specs.Tables.{IsTable}
use Rattle.yard_core.specs.Equations.{AreBalanced}
use Rattle.yard_core.specs.Stock.{AreHeld, AreItems}

-- the table is what items are looked up in
pub record AreSoundRows (t : Table Item) (rows : List Item) (entries : List Entry) : Type 0 where
  pub items : AreItems rows
  pub held : AreHeld t rows
  pub flat : IsTable rows
  pub balanced : AreBalanced rows entries
