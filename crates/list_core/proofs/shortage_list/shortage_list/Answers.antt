use Rattle.std.proofs.Common.{◌≡◌, ◌∙◌, ◌∷◌, List, Bor, ap, filter, map}
use Rattle.std.specs.FinMap as table
use Rattle.part_core.specs.Catalogue.{Parts}
use Rattle.part_core.specs.CatalogueView.{parts_of}
use Rattle.sheet_core.specs.Sheet.{Rows, now_of}
use Rattle.part_core.specs.declared.part.Part.{Part}
use Rattle.bom_core.specs.Bills.{part_rows}
use Rattle.desk_core.specs.ShopView.{state_of}
use Rattle.list_core.specs.Gathered.{gathered_row, is_lacking, want_in}
use Rattle.report_core.specs.Lines.{Lines}
use Rattle.list_core.specs.ShortageList.{all_wants, wants_header}
use Rattle.list_core.proofs.Gathered.{rows_told}
use Rattle.list_core.proofs.shortage_list.shortage_list.Goals as goal

pub returns : goal.returns
returns c =
    let s = state_of c.args.shop.now in
    let wants = now_of c.in_ok-wants.wants in
    let lent : table.values (now_of c.parts.result.now) ≡ part_rows s.parts =
    ap (λ (t : Rows Part). table.values (now_of t)) c.parts.ensures.value
    ∙ ap (λ (p : Parts). part_rows p) (ap parts_of c.catalogue.ensures) in
    let parts : map (λ (p : Bor Part). p.now) c.as_slice.result.now ≡ part_rows s.parts =
    ap (map (λ (p : Bor Part). p.now)) c.as_slice.ensures.value ∙ c.in_ok-parts.ensures ∙ lent in
    c.new.ensures ∙ c.in_ok-lines.ensures
    ∙ ap (λ (rows : Lines). wants_header ∷ rows)
    (ap (λ (ps : List Part). map (λ (p : Part). gathered_row s (want_in p.number wants) p)
    (filter (is_lacking wants) ps)) parts
    ∙ rows_told s (all_wants s) wants (part_rows s.parts) c.in_ok-wants.ensures)
