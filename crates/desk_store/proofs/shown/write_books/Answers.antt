use Rattle.std.proofs.Common.{◌∙◌, ap, ◌++◌, sym}
use Rattle.std.specs.Prelude.{codes}
use Rattle.json.specs.Tree.{members_tokens}
use Rattle.serde_json.specs.Written.{members_outline}
use Rattle.std.proofs.lemmas.List.{drop_all}
use Rattle.desk_core.specs.DataOf.{maybe_whole}
use Rattle.desk_core.specs.ShopView.{state_of}
use Rattle.desk_store.specs.Shown.{table_members}
use Rattle.desk_store.proofs.Showing.{object_written, ok-then}
use Rattle.desk_store.proofs.shown.write_books.Goals as goal

pub returns : goal.returns
returns c =
    let s = state_of c.args.shop.now in
    let tables = c.args.tables.now in
    let out = c.loop-table.out.tokens in
    let none = drop_all c.loop-table.table-index tables c.loop-table-test.false in
    let rest = ap (λ left. out ++ members_tokens (members_outline (table_members s left))) (sym none)
    ∙ c.loop-table.invariant.0 in
    record {
      tokens = ok-then c.end_object.result c.end_object.ensures.ok
          (object_written c.args.out.now.tokens c.begin_object.new.self.tokens c.key.new.self.tokens
          c.write_accepted.new.out.tokens out c.end_object.new.self.tokens (codes "accepted")
          (maybe_whole c.args.accepted) (table_members s tables) c.in_ok-begin_object.ensures.ok
          c.in_ok-key.ensures.ok c.in_ok-write_accepted.ensures.tokens rest);
      before = c.end_object.ensures.room.0 ∙ c.loop-table.invariant.1 ∙ c.in_ok-write_accepted.ensures.before
          ∙ c.in_ok-key.ensures.room.0 ∙ c.in_ok-begin_object.ensures.room.0;
    }
