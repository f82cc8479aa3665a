use Rattle.std.proofs.Common.{◌∙◌}
use Rattle.sheet_core.proofs.SlotLemmas.{IfOk-map}
use Rattle.desk_core.specs.ShopView.{state_of}
use Rattle.desk_store.specs.Shown.{book_names, books_data, books_text}
use Rattle.desk_store.proofs.Showing.{line_written}
use Rattle.desk_store.proofs.shown.books_text.Goals as goal

pub returns : goal.returns
unfolding books_text
returns c =
    let same = line_written c.in_ok-out.out.tokens c.write_books.new.out.tokens
    (books_data c.args.accepted (state_of c.args.shop.now) book_names) c.in_ok-out.ensures.tokens
    c.in_ok-write_books.ensures.tokens in
    IfOk-map c.line.result c.line.ensures (λ text e. e ∙ same)
