-- What passes its checks leaves the outputs of builds alone, step by step and command by command.
use Rattle.std.proofs.Common.{◌≡◌, ℕ, ◌-◌, ◌≤◌, Bool, true, false, not, List}
use Rattle.std.proofs.Common.{[], ◌∷◌, Option, Some, None, refl, ap, ◌∙◌, arith}
use Rattle.std.specs.Prelude.{◌==◌, ◌&&◌, if◌then◌else◌}
use Rattle.std.specs.FinMap as table
use Rattle.std.proofs.lemmas.Bool.{ltb-false}
use Rattle.part_core.specs.Catalogue.{Parts}
use Rattle.word_core.specs.Checks.{first}
use Rattle.word_core.specs.Day.{CivilDay}
use Rattle.sheet_core.specs.Rows.{StandRight}
use Rattle.sheet_core.specs.Sheet.{Table}
use Rattle.word_core.specs.declared.status.Status.{Status}
use Rattle.word_core.specs.declared.refusal.Refusal.TheVariants.{BadNumber, WrongState, NotLoose, Short}
use Rattle.word_core.proofs.CheckLemmas.{none-holds}
use Rattle.sheet_core.proofs.Conditions.{not_false, or_none}
use Rattle.sheet_core.proofs.RowLemmas.{right-none, right-number}
use Rattle.bom_core.specs.Bills.{Bills}
use Rattle.forest.specs.declared.item.Item.{Item}
use Rattle.forest.specs.declared.place.Place.{Place}
use Rattle.forest.specs.declared.place.Place.TheVariants.{At, In, Output, Sent, Used, Off, Gone}
use Rattle.forest.specs.declared.place.Reason.TheVariants.{Counted, Removed}
use Rattle.forest.specs.Forest.{is_at, is_off}
use Rattle.alloc_core.specs.declared.allocation.Allocation.{Allocation}
use Rattle.yard_core.specs.StockBooks.{StockBooks}
use Rattle.yard_core.specs.Outputs.{LeavesOutputs, is_output}
use Rattle.yard_core.specs.Stock.{IsSound, Stock, graft}
use Rattle.yard_core.specs.Stock.{grow, item_at, lift, mark, shrink}
use Rattle.yard_core.proofs.Quiet.{leaves-more, leaves-none}
use Rattle.yard_core.proofs.QuietMoves.{at-quiet, leaves-cut, leaves-graft, leaves-grow}
use Rattle.yard_core.proofs.QuietMoves.{leaves-lift, leaves-mark}
use Rattle.yard_core.proofs.QuietMoves.{leaves-shrink, own-right}
use Rattle.stock_core.specs.Add.{add_checks}
use Rattle.stock_core.specs.ItemTests.{has_less, has_more, is_loose}
use Rattle.stock_core.specs.ItemTests.{is_serialised, quantity_at}
use Rattle.stock_core.specs.Count.{count_checks, counted}
use Rattle.stock_core.specs.Install.{install, install_checks, put_in}
use Rattle.stock_core.specs.Reinstate.{reinstate, reinstate_checks}
use Rattle.stock_core.specs.Remove.{remove_checks, removed}
use Rattle.stock_core.specs.SetStatus.{set_status_checks}
use Rattle.stock_core.specs.Sound.{IsSoundStock, Owners}
use Rattle.stock_core.specs.Split.{split_checks}
use Rattle.stock_core.specs.StockMachine.{checks, effect}
use Rattle.stock_core.specs.Steps.{cut_off, take}
use Rattle.stock_core.specs.Transfer.{carried, transfer, transfer_checks}
use Rattle.stock_core.specs.declared.stock_command.StockCommand.{StockCommand}
use Rattle.stock_core.specs.declared.stock_command.StockCommand.TheVariants.{Found, Add, Remove, Count, Transfer, Split}
use Rattle.stock_core.specs.declared.stock_command.StockCommand.TheVariants.{Merge, Serialise, SetStatus, Install}
use Rattle.stock_core.specs.declared.stock_command.StockCommand.TheVariants.{Uninstall, Disassemble, Reinstate}
use Rattle.stock_core.proofs.Checked.{good-quantity}
use Rattle.stock_core.proofs.DisassembleSound.{leaves-pruned, stage-disassemble}
use Rattle.stock_core.proofs.FoundSound.{stage-found}
use Rattle.stock_core.proofs.MergeSound.{stage-merge}
use Rattle.stock_core.proofs.Prunes.{back-checked, prune-checked}
use Rattle.stock_core.proofs.SerialiseSound.{cut-serialise}
use Rattle.stock_core.proofs.Taking.{IsTaken, taken, there-loose, under-loose, under-own}
use Rattle.stock_core.proofs.Upright.{Upright, upright-of}

-- what is off the books is no output
off-quiet : (q : Place) → is_off q ≡ true → is_output q ≡ false
off-quiet (At l) e = refl
off-quiet (In l) e = refl
off-quiet (Output l) e = cc
off-quiet (Sent l) e = refl
off-quiet (Used l) e = refl
off-quiet (Off l) e = refl
off-quiet Gone e = refl

-- ---- pieces

-- a piece is cut off an item that is no output
leaves-cut_off : (n q : ℕ) (serial : Option (List ℕ)) (day : CivilDay) (b : StockBooks)
    → StandRight (λ i. i.number) b.counter.next b.stock.items
    → table.get b.stock.items (n ∷ []) ≡ Some (item_at n b.stock)
    → is_output (item_at n b.stock).place ≡ false → LeavesOutputs b.stock.items (cut_off n q serial day b).stock.items
leaves-cut_off n q serial day b rows there out =
    let own = right-number (λ (i : Item). i.number) b.counter.next n (item_at n b.stock) b.stock.items rows there in
    let under = ap (λ k. table.get b.stock.items (k ∷ [])) own ∙ there in
    leaves-cut b.stock (own-right b.counter.next b.stock.items rows) day n under out q b.counter.next serial
    (right-none (λ (i : Item). i.number) b.counter.next b.counter.next b.stock.items rows (omega arith))

-- an amount is taken of a loose item
pub leaves-take : (n q : ℕ) (day : CivilDay) (b : StockBooks) → StandRight (λ i. i.number) b.counter.next b.stock.items
    → is_at (item_at n b.stock).place ≡ true
    → LeavesOutputs b.stock.items (take n q day b).0.stock.items
leaves-take n q day b rows loose = go (has_more n q b.stock)
  where
    go : (c : Bool) → LeavesOutputs b.stock.items
        (if◌then◌else◌ {A = StockBooks × ℕ} c (cut_off n q None day b, b.counter.next) (b, n)).0.stock.items
    go true =
        leaves-cut_off n q None day b rows (there-loose n b.stock loose) (at-quiet (item_at n b.stock).place loose)
    go false = leaves-none b.stock.items

-- ---- a loose item

module _ (n : ℕ) (s : Stock) (sound : IsSound s) (day : CivilDay) (loose : is_at (item_at n s).place ≡ true) where
  out : is_output (item_at n s).place ≡ false
  out = at-quiet (item_at n s).place loose

  under : table.get s.items ((item_at n s).number ∷ []) ≡ Some (item_at n s)
  under = under-loose n s sound loose

  pub leaves-lifted : (q : Place) → is_output q ≡ false → LeavesOutputs s.items (lift n q day s).items
  leaves-lifted q away = leaves-lift s sound.items.own day n under out q away

  leaves-grafted : (m : ℕ) → LeavesOutputs s.items (graft n m day s).items
  leaves-grafted m = leaves-graft s sound.items.own day n under out m

  pub leaves-marked : (status : Status) → LeavesOutputs s.items (mark n status day s).items
  leaves-marked status = leaves-mark s sound.items.own day n under out status

  leaves-grown : (q : ℕ) → LeavesOutputs s.items (grow n q day s).items
  leaves-grown q = leaves-grow s sound.items.own day n under out q

  leaves-removed : (q : ℕ) → LeavesOutputs s.items (removed n q day s).items
  leaves-removed q = go (is_serialised n s)
    where
      go : (c : Bool) → LeavesOutputs s.items (if c then lift n (Off Removed) day s else shrink Removed n q day s).items
      go true = leaves-lifted (Off Removed) refl
      go false = leaves-shrink s sound.items.own day n under out Removed q

  leaves-counted : (q : ℕ) → LeavesOutputs s.items (counted n q day s).items
  leaves-counted q = go (is_serialised n s && (q == 0)) (q == quantity_at s n) (has_less n q s)
    where
      go : (c d e : Bool)
          → LeavesOutputs s.items
          (if c then lift n (Off Counted) day s
          else if d then s
          else if e then grow n (q - quantity_at s n) day s else shrink Counted n (quantity_at s n - q) day s).items
      go true d e = leaves-lifted (Off Counted) refl
      go false true e = leaves-none s.items
      go false false true = leaves-grown (q - quantity_at s n)
      go false false false = leaves-shrink s sound.items.own day n under out Counted (quantity_at s n - q)

-- ---- commands

module _ (owners : Owners) (day : CivilDay) (parts : Parts) (bills : Bills) (t : Table Allocation) (b : StockBooks)
    (sound : IsSoundStock owners parts b) where
  abbrev s : Stock
  s = b.stock

  up : Upright owners parts b
  up = upright-of owners parts b sound

  -- what is taken of a loose item
  module _ (n q : ℕ) (loose : is_at (item_at n s).place ≡ true) (some : 1 ≤ q)
      (enough : q ≤ (item_at n s).quantity) where
    abbrev u : StockBooks × ℕ
    u = take n q day b

    took : IsTaken owners parts n q b u
    took = taken owners parts n q day b up loose some enough

    leaves-carried : (l : ℕ) → LeavesOutputs s.items (carried l day u).stock.items
    leaves-carried l =
        leaves-more s.items u.0.stock.items (carried l day u).stock.items (leaves-take n q day b sound.items.rows loose)
        (leaves-lifted u.1 u.0.stock took.leads.upright.stock day took.loose (At l) refl)

    leaves-put_in : (m : ℕ) → LeavesOutputs s.items (put_in m day u).stock.items
    leaves-put_in m =
        leaves-more s.items u.0.stock.items (put_in m day u).stock.items (leaves-take n q day b sound.items.rows loose)
        (leaves-grafted u.1 u.0.stock took.leads.upright.stock day took.loose m)

  leaves-transfer : (n l q : ℕ) → first (transfer_checks n l q day t b) ≡ None
      → LeavesOutputs s.items (transfer n l q day b).stock.items
  leaves-transfer n l q e =
      let passed = none-holds (transfer_checks n l q day t b) e in
      leaves-carried n q (not_false (is_loose n s) (passed NotLoose)) (good-quantity q (passed BadNumber)).0
      (ltb-false (item_at n s).quantity q (passed Short)) l

  leaves-install : (n m q : ℕ) → first (install_checks n m q day parts bills t b) ≡ None
      → LeavesOutputs s.items (install n m q day b).stock.items
  leaves-install n m q e =
      let passed = none-holds (install_checks n m q day parts bills t b) e in
      let loose = not_false (is_loose n s) (or_none (not (is_loose n s)) _ (passed NotLoose)).0 in
      leaves-put_in n q loose (good-quantity q (passed BadNumber)).0 (ltb-false (item_at n s).quantity q (passed Short)) m

  leaves-reinstate : (n l : ℕ) → first (reinstate_checks n l day b) ≡ None
      → LeavesOutputs s.items (reinstate n l day b).stock.items
  leaves-reinstate n l e =
      let passed = none-holds (reinstate_checks n l day b) e in
      let under = under-own n s sound.items.stock (back-checked n l day b e).there in
      leaves-lift s sound.items.stock.items.own day n under
      (off-quiet (item_at n s).place (not_false (is_off (item_at n s).place) (passed WrongState))) (At l) refl

  pub outputs-stay : (c : StockCommand) → first (checks c day parts bills t b) ≡ None
      → LeavesOutputs s.items (effect c day b).stock.items
  outputs-stay (Found part l new) e = (stage-found owners part l new day parts b sound e).leaves
  outputs-stay (Add n q) e =
      leaves-grown n s sound.items.stock day (not_false (is_loose n s) (none-holds (add_checks n q day b) e NotLoose)) q
  outputs-stay (Remove n q) e =
      leaves-removed n s sound.items.stock day
      (not_false (is_loose n s) (none-holds (remove_checks n q day t b) e NotLoose)) q
  outputs-stay (Count n q) e =
      leaves-counted n s sound.items.stock day
      (not_false (is_loose n s) (none-holds (count_checks n q day t b) e NotLoose)) q
  outputs-stay (Transfer n l q) e = leaves-transfer n l q e
  outputs-stay (Split n q) e =
      let loose = not_false (is_loose n s) (none-holds (split_checks n q day t b) e NotLoose) in
      leaves-cut_off n q None day b sound.items.rows (there-loose n s loose) (at-quiet (item_at n s).place loose)
  outputs-stay (Merge into ns) e = (stage-merge owners into ns day parts t b sound e).leaves
  outputs-stay (Serialise n q xs) e = (cut-serialise owners n q xs day parts t b sound e).stage.leaves
  outputs-stay (SetStatus n status) e =
      leaves-marked n s sound.items.stock day
      (not_false (is_loose n s) (none-holds (set_status_checks n status day t b) e NotLoose)) status
  outputs-stay (Install n m q) e = leaves-install n m q e
  outputs-stay (Uninstall n l) e = leaves-pruned n l day s sound.items.stock (prune-checked n l day b e)
  outputs-stay (Disassemble n l) e = (stage-disassemble owners n l day parts t b sound e).leaves
  outputs-stay (Reinstate n l) e = leaves-reinstate n l e
