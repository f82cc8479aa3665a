use Rattle.std.proofs.Common.{rules, ◌≡◌, ◌∷◌, [], IsSome, IsTrue, false, is_some, length, refl, sym, ap, subst}
use Rattle.sheet_core.specs.Filled.{StandUnderKeys}
use Rattle.order_core.specs.declared.order.Order.{Order}
use Rattle.desk_core.specs.Assembled.{HasSoundBooks}
use Rattle.desk_core.specs.Machine.{State}
use Rattle.desk_core.proofs.AssembledShops.{orders_own, shop_is, sound_books, sound_tables}
use Rattle.desk_core.proofs.shop.Shop.assemble.Goals as goal

pub is_sound-requires : goal.is_sound-requires
is_sound-requires c =
    let now = shop_is c.in_ok-shop.field-0 c.in-Some-2.shop c.args.tables c.in-Some-2.is c.in_ok-shop.ensures.now in
    subst (λ (s : State). StandUnderKeys (λ (o : Order). o.number ∷ []) s.orders) (sym now) (orders_own c.args.tables)

pub returns-in-Ok-true-clause-sound : goal.returns-in-Ok-true-clause-sound
returns-in-Ok-true-clause-sound c =
    let next = c.resume.ensures.fits.0 (subst IsSome (sym c.in-Some.is) refl) in
    let entries : c.args.tables.entries ≡ length c.args.tables.history.items = search rules in
    let numbered = c.in_ok-shop.ensures.numbered.0 (ap is_some c.in-Some-2.is) in
    let now = shop_is c.in_ok-shop.field-0 c.in-Some-2.shop c.args.tables c.in-Some-2.is c.in_ok-shop.ensures.now in
    let yes : IsTrue c.in-Ok-true.field-0 = search rules in
    let books = c.in-Ok-true.ensures.0 yes in
    sound_tables c.args.tables next entries numbered c.in_ok-shop.ensures.keys (subst HasSoundBooks now books)

pub returns-in-Ok-false-clause-unsound : goal.returns-in-Ok-false-clause-unsound
returns-in-Ok-false-clause-unsound c = λ _ sound.
    let now = shop_is c.in_ok-shop.field-0 c.in-Some-2.shop c.args.tables c.in-Some-2.is c.in_ok-shop.ensures.now in
    let yes = c.in-Ok-false.ensures.1 (subst HasSoundBooks (sym now) (sound_books c.args.tables sound)) in
    let no : c.in-Ok-false.field-0 ≡ false = search rules in
    cc
