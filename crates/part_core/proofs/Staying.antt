-- No command takes a row of the catalogue away.
use Rattle.std.proofs.Common.{◌≡◌, ℕ, [], ◌∷◌, Option, Some, None, refl}
use Rattle.part_core.specs.AddPart.{part_row}
use Rattle.part_core.specs.Catalogue.{AllStay, Parts, part_in}
use Rattle.part_core.specs.PartMachine.{RowsStay}
use Rattle.part_core.specs.RetirePart.{retire_part, retired_part}
use Rattle.part_core.specs.declared.part.Part.{Part}
use Rattle.part_core.specs.declared.part_command.PartCommand.TheVariants.{AddCategory, AddPart, RetirePart}
use Rattle.sheet_core.proofs.RowLemmas.{stay-insert}

stay-retired : (n : ℕ) (s : Parts) → AllStay s (retire_part n s)
stay-retired n s = go (part_in n s) refl
  where
    go : (o : Option Part) → part_in n s ≡ o → AllStay s (retire_part n s)
    go None e = rw e (record { categories = λ k h. h; parts = λ k h. h })
    go (Some p) e = rw e (record { categories = λ k h. h; parts = stay-insert s.parts (n ∷ []) (retired_part p) })

pub rows-stay : RowsStay
rows-stay (AddCategory name parent) r = record {
  categories =
      stay-insert r.parts.categories (r.counter.next ∷ [])
      (record { number = r.counter.next; name = name; parent = parent });
  parts = λ k h. h;
}
rows-stay (AddPart new) r = record {
  categories = λ k h. h;
  parts = stay-insert r.parts.parts (r.counter.next ∷ []) (part_row r.counter.next new);
}
rows-stay (RetirePart n) r = stay-retired n r.parts
