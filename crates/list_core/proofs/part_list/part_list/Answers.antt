use Rattle.std.proofs.Common.{◌≡◌, ◌∙◌, ◌∷◌, ◌++◌, Option, Some, ap, filter, map, sym}
use Rattle.std.specs.Prelude.{option_map}
use Rattle.part_core.specs.Catalogue.{part_in}
use Rattle.part_core.specs.CatalogueView.{parts_of}
use Rattle.part_core.specs.declared.catalogue.Catalogue.{Catalogue}
use Rattle.part_core.specs.declared.part.Part.{Part}
use Rattle.bom_core.specs.Bills.{part_rows}
use Rattle.yard_core.specs.Sums.{sums_of}
use Rattle.yard_core.specs.YardView.{stock_of}
use Rattle.yard_core.specs.declared.sums.Sums.{Sums}
use Rattle.yard_core.specs.declared.yard.Yard.{Yard}
use Rattle.desk_core.specs.ShopView.{state_of}
use Rattle.list_core.specs.Amounts.{items_of}
use Rattle.report_core.specs.Lines.{Lines}
use Rattle.list_core.specs.PartList.{bill_rows, part_header, part_row, piece_row, sums_row, used_row}
use Rattle.report_core.specs.WhereUsed.{uses}
use Rattle.list_core.proofs.part_list.part_list.Goals as goal

-- what is told of the part that is found, and of its sums, is the report
told_of : (told : Part → Sums → Lines) (found : Option Part) (part : Part) (sums whole : Sums) (lines report : Lines)
    → Some part ≡ found → sums ≡ whole → lines ≡ told part sums → report ≡ lines
    → option_map (λ p. told p whole) found ≡ Some report
told_of told found part sums whole lines report e f g h =
    ap (option_map (λ (p : Part). told p whole)) (sym e)
    ∙ ap (λ (l : Lines). Some l) (ap (told part) (sym f) ∙ sym g ∙ sym h)

pub returns : goal.returns
returns c =
    let s = state_of c.args.shop.now in
    let n = c.args.number in
    told_of
    (λ part sums.
    part_header
    ∷ part_row part
    ∷ sums_row sums
    ∷ (bill_rows 16 s 1 n
    ++ (map used_row (filter (uses s.parts s.bills n) (part_rows s.parts)) ++ map (piece_row s) (items_of n s))))
    (part_in n s.parts) c.in-Some.part.now c.sums-sums.result (sums_of n s.stock) _ _
    (c.in-Some.ensures ∙ ap (λ (k : Catalogue). part_in n (parts_of k)) c.catalogue.ensures)
    (c.sums-sums.ensures ∙ ap (λ (y : Yard). sums_of n (stock_of y)) c.yard.ensures) c.in_ok-lines.ensures c.new.ensures
