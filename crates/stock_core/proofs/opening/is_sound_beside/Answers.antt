use Rattle.std.proofs.Common.{◌≡◌, map, sym, ap, ◌∙◌, subst}
use Rattle.std.specs.Borrow.{Bor}
use Rattle.std.specs.FinMap as table
use Rattle.part_core.specs.CatalogueView.{parts_of}
use Rattle.sheet_core.specs.Sheet.{now_of}
use Rattle.forest.specs.declared.item.Item.{Item}
use Rattle.yard_core.specs.BooksView.{books_now}
use Rattle.yard_core.specs.Climbs.{IsByNumber}
use Rattle.yard_core.specs.YardView.{stock_of}
use Rattle.yard_core.proofs.Opened.{rows_by_number}
use Rattle.stock_core.proofs.Opened.{stock_from}
use Rattle.stock_core.proofs.opening.is_sound_beside.Goals as goal

pub are_sound_rows-requires : goal.are_sound_rows-requires
are_sound_rows-requires g c =
    let s = stock_of c.args.books.now.yard in
    let rows : map (λ (x : Bor Item). x.now) c.as_slice.result.now ≡ table.values s.items =
    ap (map (λ (x : Bor Item). x.now)) c.as_slice.ensures.value
    ∙ c.in_ok-items.ensures
    ∙ ap (λ t. table.values (now_of t)) c.items.ensures in
    subst IsByNumber (sym rows) (rows_by_number s.items c.requires.stock.items.own)

pub returns : goal.returns
returns g c =
    let s = stock_of c.args.books.now.yard in
    let rows : map (λ (x : Bor Item). x.now) c.as_slice.result.now ≡ table.values s.items =
    ap (map (λ (x : Bor Item). x.now)) c.as_slice.ensures.value
    ∙ c.in_ok-items.ensures
    ∙ ap (λ t. table.values (now_of t)) c.items.ensures in
    let entries : c.as_slice-entries.result.now ≡ table.values s.history =
    c.as_slice-entries.ensures.rows ∙ ap (λ t. table.values (now_of t)) c.whole_history.ensures in
    stock_from (g.W.KnowsOwners.owners_of c.args.owners.now) (parts_of c.args.catalogue.now)
    (books_now c.args.books.now) c.requires _ _ _ rows entries c.in_ok-sound.ensures
