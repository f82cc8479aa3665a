use Rattle.std.proofs.Common.{◌≡◌, ◌∷◌, [], None, Ok, Err, sym, ap, ◌∙◌, subst}
use Rattle.std.specs.Prelude.{OnOk, OnErr}
use Rattle.std.specs.FinMap as table
use Rattle.sheet_core.specs.Index.{IsIndex}
use Rattle.sheet_core.specs.Sheet.{now_of}
use Rattle.sheet_core.proofs.Indexes.{IsIndex-given, IsIndex-grown}
use Rattle.sheet_core.proofs.Keys.{keys_total}
use Rattle.sheet_core.specs.Indexed.{hashed}
use Rattle.sheet_core.proofs.indexed.IndexedSheet.remove.Goals as goal

pub invariant_of-self-2 : goal.invariant_of-self-2
invariant_of-self-2 g c =
    let keys = hashed c.self.inside.seed g.R.Indexed.index_keys in
    let key_of = g.R.Row.key_of in
    let s = c.self.inside.sheet in
    let t = c.remove.new.self in
    let n = c.args.number in
    let fs = c.touch.new.self.filings.keys in
    let ts = c.touch.new.self.touched.items in
    let noted =
    IsIndex-grown keys key_of s c.self.inside.index.filings.keys c.self.inside.index.touched.items c.self.invariant fs
    ts c.touch.ensures.grown in
    elim c.remove.result
    as (λ r. OnOk r (now_of t ≡ table.remove (now_of s) (n ∷ [])) → OnErr r (t ≡ s) → IsIndex keys key_of t fs ts) [
      | Ok u ↦ λ gone err.
          IsIndex-given keys key_of s fs ts noted n None t c.remove.ensures.before
          (λ k. ap (λ m. table.get m k) gone ∙ table.get-remove keys_total (now_of s) (n ∷ []) k)
          (λ x same. cc)
          (λ key has. cc)
          c.in_ok-touch.ensures.logged
      | Err e ↦ λ gone err. subst (λ u. IsIndex keys key_of u fs ts) (sym err) noted
    ] c.remove.ensures.ok c.remove.ensures.err
