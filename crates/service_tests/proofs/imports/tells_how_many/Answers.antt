use Rattle.std.proofs.Common.{subst, sym}
use Rattle.desk_core.specs.Machine.{IsSoundState}
use Rattle.desk_core.specs.ShopView.{state_of}
use Rattle.service_tests.proofs.imports.tells_how_many.Goals as goal

pub import_file-end-requires : goal.import_file-end-requires
import_file-end-requires c = subst (λ shop. IsSoundState (state_of shop)) (sym c.new-books.ensures.books) c.delivers.ensures

pub plays_on_shop-requires : goal.plays_on_shop-requires
plays_on_shop-requires c =
    subst (λ shop. IsSoundState (state_of shop)) (sym c.into_books-shop.ensures) c.import_file-end.ensures.kept
