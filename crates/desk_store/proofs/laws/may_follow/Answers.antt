use Rattle.desk_core.specs.ShopView.{state_before, state_of}
use Rattle.desk_store.proofs.Kept.{small_meta}
use Rattle.desk_store.proofs.laws.may_follow.Goals as goal

pub returns : goal.returns
returns c =
    let old = state_before c.args.shop.now in
    let new = state_of c.args.shop.now in
    record {
      before = c.requires.before;
      after = c.requires.after;
      stays = c.requires.stays;
      small_before = c.rows_are_small.ensures old c.requires.before;
      small_after = c.rows_are_small.ensures new c.requires.after;
      counted = small_meta new c.requires.after;
    }
