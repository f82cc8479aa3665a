use Rattle.std.proofs.Common.{◌≡◌, ◌<◌, ◌+◌, ◌++◌, ◌∷◌, ◌∙◌, None, List, [], ℕ, length, drop, sym, ap, rules}
use Rattle.std.specs.Borrow.{Bor}
use Rattle.csv.specs.Records.{fields_of}
use Rattle.desk_wire.specs.Imports.{names_of, places_of}
use Rattle.desk_wire.proofs.ColumnFacts.{after, columns-lack, columns-next, columns-none}
use Rattle.desk_wire.proofs.columns.columns_of.Goals as goal

pub returns-in_default : goal.returns-in_default
returns-in_default c =
    let i = c.loop-name.name-index in
    let names = c.header-name-items.result.now in
    let fields = fields_of c.args.first.now in
    let done = c.loop-name.places.items in
    let none_such : Bor (List ℕ) = record { ref_ptr = (0, 0); now = [] } in
    let inside : i < length names = search rules in
    let lacks : places_of (names_of c.args.kind) fields ≡ None =
    c.loop-name.invariant.so_far
    ∙ ap (λ ns. after done (places_of (drop i ns) fields)) (sym c.loop-name.invariant.names)
    ∙ columns-lack names fields done i none_such inside (sym c.column_by.ensures ∙ c.in_default.is) in
    sym (columns-none c.args.kind fields c.requires lacks)

pub loop-name-preserved : goal.loop-name-preserved
loop-name-preserved c =
    let i = c.loop-name.name-index in
    let names = c.header-name-items.result.now in
    let fields = fields_of c.args.first.now in
    let done = c.loop-name.places.items in
    let place = c.in-Some.place in
    let none_such : Bor (List ℕ) = record { ref_ptr = (0, 0); now = [] } in
    let inside : i < length names = search rules in
    let pushed : c.push.new.self.items ≡ done ++ place ∷ [] = search rules in
    record {
      names = c.loop-name.invariant.names;
      so_far =
          c.loop-name.invariant.so_far
          ∙ ap (λ ns. after done (places_of (drop i ns) fields)) (sym c.loop-name.invariant.names)
          ∙ columns-next names fields done i none_such place inside (sym c.column_by.ensures ∙ c.in-Some.is)
          ∙ ap (λ ns. after (done ++ place ∷ []) (places_of (drop (i + 1) ns) fields)) c.loop-name.invariant.names
          ∙ ap (λ xs. after xs (places_of (drop (i + 1) (names_of c.args.kind)) fields)) (sym pushed);
    }
