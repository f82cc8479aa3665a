use Rattle.std.proofs.Common.{◌≡◌, ◌∷◌, [], cond, Some, Ok, Err, refl, sym, ap, ◌∙◌, subst}
use Rattle.std.specs.Prelude.{OnOk, OnErr}
use Rattle.std.specs.FinMap as table
use Rattle.sheet_core.specs.Index.{IsIndex, StandsOwn}
use Rattle.sheet_core.specs.Sheet.{now_of}
use Rattle.sheet_core.proofs.Indexes.{IsIndex-given, IsIndex-grown}
use Rattle.sheet_core.proofs.Keys.{key_eq, keys_total}
use Rattle.sheet_core.proofs.RowLemmas.{same_row}
use Rattle.sheet_core.specs.Indexed.{hashed}
use Rattle.sheet_core.proofs.indexed.IndexedSheet.put.Goals as goal

pub invariant_of-self-2 : goal.invariant_of-self-2
invariant_of-self-2 g c =
    let keys = hashed c.self.inside.seed g.R.Indexed.index_keys in
    let key_of = g.R.Row.key_of in
    let s = c.self.inside.sheet in
    let t = c.put.new.self in
    let row = c.args.row in
    let n = c.in_ok-own_number.own_number in
    let fs = c.touch.new.self.filings.keys in
    let ts = c.touch.new.self.touched.items in
    let own : key_of row ≡ n ∷ [] = sym c.in_ok-own_number.ensures in
    let filed =
    IsIndex-grown keys key_of s c.self.inside.index.filings.keys c.self.inside.index.touched.items c.self.invariant
    c.file.new.self.filings.keys c.file.new.self.touched.items c.file.ensures.grown in
    let noted =
    IsIndex-grown keys key_of s c.file.new.self.filings.keys c.file.new.self.touched.items filed fs ts
    c.touch.ensures.grown in
    elim c.put.result as (λ r.
    OnOk r (now_of t ≡ table.insert (now_of s) (key_of row) row) → OnErr r (t ≡ s) → IsIndex keys key_of t fs ts) [
      | Ok u ↦ λ put err.
          IsIndex-given keys key_of s fs ts noted n (Some row) t c.put.ensures.before
          (λ k. ap (λ m. table.get m k) put
          ∙ table.get-insert keys_total (now_of s) (key_of row) row k
          ∙ ap (λ q. cond (key_eq k q) (Some row) (table.get (now_of s) k)) own)
          (λ x same. subst (StandsOwn keys key_of (n ∷ [])) (same_row row x same)
          (record { number = n; own = own; under = refl; fits = c.file.ensures.fits; few = c.in_ok-file.ensures.few }))
          (λ key has. c.touch.ensures.grown.filed key n (c.in_ok-file.ensures.filed key has))
          c.in_ok-touch.ensures.logged
      | Err e ↦ λ put err. subst (λ u. IsIndex keys key_of u fs ts) (sym err) noted
    ] c.put.ensures.ok c.put.ensures.err
