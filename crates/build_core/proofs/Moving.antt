-- What holds of each move of the stock holds of all that a command on builds does to it.
use Rattle.std.proofs.Common.{ℕ, List, [], ◌∷◌}
use Rattle.part_core.specs.Catalogue.{Parts}
use Rattle.word_core.specs.Day.{CivilDay}
use Rattle.bom_core.specs.Bills.{Bills}
use Rattle.forest.specs.declared.place.Place.{Place}
use Rattle.forest.specs.declared.place.Place.TheVariants.{At, Gone, Off, Used}
use Rattle.forest.specs.declared.place.Reason.TheVariants.{Scrapped}
use Rattle.yard_core.specs.Outputs.{outputs_of}
use Rattle.yard_core.specs.StockBooks.{StockBooks, with_stock}
use Rattle.yard_core.specs.Stock.{Stock, lift}
use Rattle.stock_core.specs.Install.{put_in}
use Rattle.stock_core.proofs.Moving.{HoldsOfMoves, OnStock, of-lift, of-make_new, of-put_in, of-serve_each, of-taken}
use Rattle.build_core.specs.BuildMachine.{effect}
use Rattle.build_core.specs.Builds.{BuildBooks, build_at}
use Rattle.build_core.specs.CancelBuild.{lift_each}
use Rattle.build_core.specs.CompleteBuild.{build_rows, used_for}
use Rattle.build_core.specs.CompleteOutput.{brought, fitted, output_rows}
use Rattle.build_core.specs.Consume.{allocation_at, build_for}
use Rattle.build_core.specs.NewOutputs.{begun_at}
use Rattle.build_core.specs.declared.build_command.BuildCommand.{BuildCommand}
use Rattle.build_core.specs.declared.build_command.BuildCommand.TheVariants.{CancelBuild, NewOutputs, CompleteOutput}
use Rattle.build_core.specs.declared.build_command.BuildCommand.TheVariants.{CancelOutput, ScrapOutput, CompleteBuild}
use Rattle.build_core.specs.declared.build_command.BuildCommand.TheVariants.{Consume}

module _ (R : Stock → Stock → Type 0) (holds : HoldsOfMoves (OnStock R)) where
  lifts : (n : ℕ) (q : Place) (day : CivilDay) (b : StockBooks) → R b.stock (lift n q day b.stock)
  lifts n q day b = of-lift (OnStock R) holds n q day b

  lifts-each : (ns : List ℕ) (q : Place) (day : CivilDay) (b : StockBooks) → R b.stock (lift_each ns q day b.stock)
  lifts-each [] q day b = holds.none b
  lifts-each (n ∷ ns) q day b =
      let one = with_stock (lift n q day b.stock) b in
      holds.more b one (with_stock (lift_each ns q day one.stock) b) (lifts n q day b) (lifts-each ns q day one)

  uses : (build : ℕ) (day : CivilDay) (t : StockBooks × ℕ) → R t.0.stock (used_for build day t).stock
  uses build day t = lifts t.1 (Used build) day t.0

  pub of-effect : (c : BuildCommand) (day : CivilDay) (parts : Parts) (bills : Bills) (b : BuildBooks)
      → R b.books.stock (effect c day parts bills b).books.stock
  of-effect (CancelBuild n) day parts bills b = lifts-each (outputs_of n b.books.stock) Gone day b.books
  of-effect (NewOutputs n new) day parts bills b =
      of-make_new (OnStock R) holds (begun_at n (build_at n b).part) new day b.books
  of-effect (CompleteOutput n l) day parts bills b =
      let start = brought n l day b.books in
      let rows = output_rows n b.allocations in
      holds.more b.books start (fitted n day rows start) (lifts n (At l) day b.books)
      (of-serve_each (OnStock R) holds (put_in n day) (of-put_in (OnStock R) holds n day) rows day start)
  of-effect (CancelOutput n) day parts bills b = lifts n Gone day b.books
  of-effect (ScrapOutput n) day parts bills b = lifts n (Off Scrapped) day b.books
  of-effect (CompleteBuild n) day parts bills b =
      of-serve_each (OnStock R) holds (used_for n day) (uses n day) (build_rows n b.allocations) day b.books
  of-effect (Consume n) day parts bills b =
      let a = allocation_at n b in
      let build = build_for a.purpose in
      of-taken (OnStock R) holds (used_for build day) (uses build day) a.item a.quantity day b.books
  of-effect c day parts bills b = holds.none b.books
