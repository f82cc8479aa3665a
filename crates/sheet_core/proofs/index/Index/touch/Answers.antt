use Rattle.std.proofs.Common.{◌≡◌, ◌∷◌, [], true, sym, ap, ◌∙◌, subst, get_or, arith, below_more, Some}
use Rattle.std.specs.FinMap as table
use Rattle.std.proofs.lemmas.Option.{get_or_from_slice_get}
use Rattle.sheet_core.specs.declared.index.Filing.{Filing}
use Rattle.sheet_core.specs.Index.{IsGrown, has_key, is_filed}
use Rattle.sheet_core.specs.Sheet.{now_of}
use Rattle.sheet_core.proofs.Filings.{IsGrown-logged, IsGrown-refl, IsGrown-trans, each-key, filed-last, past-end}
use Rattle.sheet_core.specs.Indexed.{hashed}
use Rattle.sheet_core.proofs.index.Index.touch.Goals as goal

pub loop-place-init : goal.loop-place-init
loop-place-init g c = record {
  grown = IsGrown-refl c.args.self.now.filings.keys c.args.self.now.touched.items;
  logged = λ j low. absurd (omega arith);
}

pub returns-in_default-index_key-clause-grown : goal.returns-in_default-index_key-clause-grown
returns-in_default-index_key-clause-grown g c = c.loop-place.invariant.grown

pub returns-in_default-index_key-clause-logged : goal.returns-in_default-index_key-clause-logged
returns-in_default-index_key-clause-logged g c = λ key has.
    let keys = hashed c.args.seed.now g.R.Indexed.index_keys c.in-Some.row.now in
    let here : table.get (now_of c.args.sheet.now) (c.args.number ∷ []) ≡ Some c.in-Some.row.now =
    sym c.in-Some.ensures in
    each-key (λ k. is_filed k c.args.number c.loop-place.self.touched.items ≡ true) keys c.loop-place.place key
    c.loop-place.invariant.logged
    (past-end keys c.loop-place.place (sym c.index_key.ensures ∙ c.in_default-index_key.is))
    (sym (ap (has_key (hashed c.args.seed.now g.R.Indexed.index_keys) key) here) ∙ has)

pub returns-in_err-push-clause-grown : goal.returns-in_err-push-clause-grown
returns-in_err-push-clause-grown g c =
    subst (λ log. IsGrown c.args.self.now.filings.keys c.args.self.now.touched.items c.loop-place.self.filings.keys log)
    (sym c.in_err-push.ensures.items) c.loop-place.invariant.grown

pub loop-place-preserved : goal.loop-place-preserved
loop-place-preserved g c =
    let keys = hashed c.args.seed.now g.R.Indexed.index_keys c.in-Some.row.now in
    let place = c.loop-place.place in
    let f : Filing = record { key = c.in-Some-index_key.key; number = c.args.number } in
    let old = c.loop-place.self in
    let log = c.push.new.self.items in
    let key_is : get_or keys place 0 ≡ f.key =
    get_or_from_slice_get keys place f.key 0 (sym c.index_key.ensures ∙ c.in-Some-index_key.is) in
    let logged = IsGrown-logged old.filings.keys old.touched.items log f c.in_ok-push.ensures.items in
    record {
      grown =
          IsGrown-trans c.args.self.now.filings.keys c.args.self.now.touched.items old.filings.keys old.touched.items
          old.filings.keys log c.loop-place.invariant.grown logged;
      logged =
          below_more (λ j. is_filed (get_or keys j 0) f.number log ≡ true) place
          (λ j low. logged.logged (get_or keys j 0) f.number (c.loop-place.invariant.logged j low))
          (ap (λ k. is_filed k f.number log) key_is
          ∙ filed-last old.filings.keys old.touched.items log f c.in_ok-push.ensures.items);
    }

pub returns-clause-grown : goal.returns-clause-grown
returns-clause-grown g c = c.loop-place.invariant.grown
