use Rattle.std.proofs.Common.{◌≡◌, ◌+◌, ◌<◌, ℕ, true, sym, ap, ◌∙◌, subst, get_or, arith, below_more}
use Rattle.std.proofs.lemmas.Option.{get_or_from_slice_get}
use Rattle.sheet_core.specs.declared.index.Filing.{Filing}
use Rattle.sheet_core.specs.declared.index.Index.{Index}
use Rattle.sheet_core.specs.Index.{IsGrown, is_filed}
use Rattle.sheet_core.proofs.Filings.{IsGrown-filed, IsGrown-logged, IsGrown-refl, IsGrown-trans}
use Rattle.sheet_core.proofs.Filings.{contains-filed, each-key, filed-here, filed-last, past-end}
use Rattle.sheet_core.proofs.index.Index.file.Goals.{then-not-contains+in_ok-push+in_ok-insert, else-not-contains}
use Rattle.sheet_core.specs.Indexed.{hashed}
use Rattle.sheet_core.proofs.index.Index.file.Goals as goal

pub loop-place-init : goal.loop-place-init
loop-place-init g c = record {
  grown = IsGrown-refl c.args.self.now.filings.keys c.args.self.now.touched.items;
  filed = λ j low. absurd (omega arith);
}

pub returns-in_default-clause-grown : goal.returns-in_default-clause-grown
returns-in_default-clause-grown g c = c.loop-place.invariant.grown

pub returns-in_default-clause-filed : goal.returns-in_default-clause-filed
returns-in_default-clause-filed g c = λ key has.
    let keys = hashed c.args.seed.now g.R.Indexed.index_keys c.args.row.now in
    each-key (λ k. is_filed k c.args.number c.loop-place.self.filings.keys ≡ true) keys c.loop-place.place key
    c.loop-place.invariant.filed
    (past-end keys c.loop-place.place (sym c.index_key.ensures ∙ c.in_default.is)) has

pub returns-in_default-clause-few : goal.returns-in_default-clause-few
returns-in_default-clause-few g c =
    omega (
      arith,
      past-end (hashed c.args.seed.now g.R.Indexed.index_keys c.args.row.now) c.loop-place.place (sym c.index_key.ensures ∙ c.in_default.is),
    )

pub returns-in_err-push-clause-grown : goal.returns-in_err-push-clause-grown
returns-in_err-push-clause-grown g c =
    subst (λ log. IsGrown c.args.self.now.filings.keys c.args.self.now.touched.items c.loop-place.self.filings.keys log)
    (sym c.in_err-push.ensures.items) c.loop-place.invariant.grown

pub returns-in_err-insert-clause-grown : goal.returns-in_err-insert-clause-grown
returns-in_err-insert-clause-grown g c =
    let f : Filing = record { key = c.in-Some.key; number = c.args.number } in
    let fs = c.args.self.now.filings.keys in
    let ts = c.args.self.now.touched.items in
    let old = c.loop-place.self in
    let log = c.push.new.self.items in
    subst (λ more. IsGrown fs ts more log) (sym c.in_err-insert.ensures.err)
    (IsGrown-trans fs ts old.filings.keys old.touched.items old.filings.keys log c.loop-place.invariant.grown
    (IsGrown-logged old.filings.keys old.touched.items log f c.in_ok-push.ensures.items))

pub loop-place-preserved : goal.loop-place-preserved
loop-place-preserved g c =
    let keys = hashed c.args.seed.now g.R.Indexed.index_keys c.args.row.now in
    let place = c.loop-place.place in
    let f : Filing = record { key = c.in-Some.key; number = c.args.number } in
    let fs = c.args.self.now.filings.keys in
    let ts = c.args.self.now.touched.items in
    let old = c.loop-place.self in
    let key_is : get_or keys place 0 ≡ f.key =
    get_or_from_slice_get keys place f.key 0 (sym c.index_key.ensures ∙ c.in-Some.is) in
    let Grown = λ (s : Index). IsGrown fs ts s.filings.keys s.touched.items in
    let Filed = λ (s : Index). (j : ℕ) → j < place + 1 → is_filed (get_or keys j 0) f.number s.filings.keys ≡ true in
    elim c.if-not-contains.branch [
      | then-not-contains+in_ok-push+in_ok-insert w ↦
          let log = w.push.new.self.items in
          let logged = IsGrown-logged old.filings.keys old.touched.items log f w.in_ok-push.ensures.items in
          let updates = w.in_ok-insert.ensures.updates.0 in
          let filed =
          IsGrown-filed old.filings w.insert.new.self f updates log
          (filed-last old.filings.keys old.touched.items log f w.in_ok-push.ensures.items) in
          record {
            grown = subst Grown (sym w.self-is)
                (IsGrown-trans fs ts old.filings.keys old.touched.items w.insert.new.self.keys log
                c.loop-place.invariant.grown
                (IsGrown-trans old.filings.keys old.touched.items old.filings.keys log w.insert.new.self.keys log
                logged filed));
            filed = subst Filed (sym w.self-is)
                (below_more (λ j. is_filed (get_or keys j 0) f.number w.insert.new.self.keys ≡ true) place
                (λ j low. filed.filed (get_or keys j 0) f.number (c.loop-place.invariant.filed j low))
                (ap (λ k. is_filed k f.number w.insert.new.self.keys) key_is
                ∙ filed-here old.filings w.insert.new.self f updates));
          }
      | else-not-contains w ↦
          let there : is_filed f.key f.number old.filings.keys ≡ true =
          sym (contains-filed old.filings f.key f.number) ∙ sym c.contains.ensures ∙ w.if-not-contains.false in
          record {
            grown = subst Grown (sym w.self-is) c.loop-place.invariant.grown;
            filed = subst Filed (sym w.self-is)
                (below_more (λ j. is_filed (get_or keys j 0) f.number old.filings.keys ≡ true) place
                c.loop-place.invariant.filed (ap (λ k. is_filed k f.number old.filings.keys) key_is ∙ there));
          }
    ]

pub returns-clause-grown : goal.returns-clause-grown
returns-clause-grown g c = c.loop-place.invariant.grown
