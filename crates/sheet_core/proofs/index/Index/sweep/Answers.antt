use Rattle.std.proofs.Common.{◌≡◌, ◌∷◌, ◌++◌, ◌-◌, take, [], true, false, refl, sym, ap, ◌∙◌}
use Rattle.std.specs.FinMap as table
use Rattle.sheet_core.specs.Index.{has_key}
use Rattle.sheet_core.specs.Sheet.{now_of}
use Rattle.sheet_core.proofs.Indexes.{IsExact-swept, IsIndex-out, IsIndex-stays}
use Rattle.sheet_core.proofs.index.Index.sweep.Goals.{in-Some-get, in-None}
use Rattle.sheet_core.specs.Indexed.{hashed}
use Rattle.sheet_core.proofs.index.Index.sweep.Goals as goal

pub loop-filing-init : goal.loop-filing-init
loop-filing-init g c = c.requires.index

pub has_key-stays-requires : goal.has_key-stays-requires
has_key-stays-requires g c =
    (c.loop-filing.invariant.own (c.in-Some.filing.number ∷ []) c.in-Some-get.row.now (sym c.in-Some-get.ensures)).few

pub loop-filing-preserved-then-not-stays : goal.loop-filing-preserved-then-not-stays
loop-filing-preserved-then-not-stays g c =
    let keys = hashed c.args.seed.now g.R.Indexed.index_keys in
    let f = c.in-Some.filing in
    let t = now_of c.args.sheet.now in
    let lacks : has_key keys f.key (table.get t (f.number ∷ [])) ≡ false = elim c.match-get.branch [
      | in-Some-get w ↦
          ap (has_key keys f.key) (sym w.in-Some-get.ensures)
          ∙ sym w.has_key-stays.ensures
          ∙ sym w.stays-is
          ∙ c.if-not-stays.true
      | in-None w ↦ ap (has_key keys f.key) (sym w.in-None.ensures)
    ] in
    IsIndex-out keys g.R.Row.key_of c.args.sheet.now c.loop-filing.self.filings.keys c.loop-filing.self.touched.items
    c.loop-filing.invariant c.requires.settled
    c.pop.new.self.items f c.in-Some.ensures.items lacks c.loop-filing.self.filings c.remove.new.self refl
    c.remove.ensures.updates.0

pub loop-filing-preserved : goal.loop-filing-preserved
loop-filing-preserved g c =
    let keys = hashed c.args.seed.now g.R.Indexed.index_keys in
    let f = c.in-Some.filing in
    let t = now_of c.args.sheet.now in
    let has : has_key keys f.key (table.get t (f.number ∷ [])) ≡ true = elim c.match-get.branch [
      | in-Some-get w ↦
          ap (has_key keys f.key) (sym w.in-Some-get.ensures)
          ∙ sym w.has_key-stays.ensures
          ∙ sym w.stays-is
          ∙ c.if-not-stays.false
      | in-None w ↦ let no = w.stays-is in let yes = c.if-not-stays.false in cc
    ] in
    IsIndex-stays keys g.R.Row.key_of c.args.sheet.now c.loop-filing.self.filings.keys c.loop-filing.self.touched.items
    c.loop-filing.invariant c.requires.settled
    c.pop.new.self.items f c.in-Some.ensures.items has

pub returns-clause-exact : goal.returns-clause-exact
returns-clause-exact g c =
    let left = c.loop-filing.self.touched.items in
    let none : left ≡ [] =
    c.in_default.ensures.items
    ∙ ap (λ l. l ++ []) (c.in_default.ensures.rest ∙ ap (λ n. take (n - 1) left) c.in_default.ensures.cases.0) in
    IsExact-swept (hashed c.args.seed.now g.R.Indexed.index_keys) g.R.Row.key_of c.args.sheet.now c.loop-filing.self.filings.keys left
    c.loop-filing.invariant none
