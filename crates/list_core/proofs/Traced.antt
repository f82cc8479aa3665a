-- What each walk forward and back has.
use Rattle.std.proofs.Common.{◌≡◌, ◌∙◌, ◌==◌, ℕ, Bool, true, false, ◌||◌, List, [], ◌∷◌, ◌++◌, map, filter, cond}
use Rattle.std.proofs.Common.{Option, Some, None, ap, is_some, eqb-true, eq-eqb, inl, inr, refl, subst, sym}
use Rattle.std.specs.Prelude.{flat_map}
use Rattle.std.specs.FinMap as table
use Rattle.std.specs.List.{Contains, list_any}
use Rattle.std.proofs.lemmas.List.Folds.{list_any-append}
use Rattle.sheet_core.specs.Sheet.{Table}
use Rattle.sheet_core.proofs.FilledTables.{filled-own}
use Rattle.sheet_core.proofs.RowLemmas.{same_digit}
use Rattle.sheet_core.proofs.Standing.{Contains-Stands, Stands, get-Stands}
use Rattle.forest.specs.Rows.{lies_in}
use Rattle.forest.specs.declared.item.Item.{Item}
use Rattle.forest.specs.declared.place.Place.{Place}
use Rattle.forest.specs.declared.place.Place.TheVariants as place
use Rattle.yard_core.specs.Stock.{children_of}
use Rattle.desk_core.specs.Machine.{IsSoundState, State, is_build}
use Rattle.list_core.specs.Origins.{is_begun_for, is_cut_off, origin_rows, origins_in}
use Rattle.list_core.specs.Trace.{after_item, after_place, after_row, before_build, before_item, build_child, children}
use Rattle.list_core.specs.Trace.{is_build_node, is_item, is_item_node, item_child, item_children, item_in, most_steps}
use Rattle.list_core.specs.Trace.{origin_child, outputs_begun, pieces_of, root_visit, source_child, unknown_child, walk}
use Rattle.list_core.specs.TraceLaws.{BackWalksAreComplete, ForwardWalksAreComplete, has_build, has_item}
use Rattle.list_core.specs.TraceList.{origin_in}
use Rattle.list_core.specs.Used.{is_used_by, used_by}
use Rattle.list_core.specs.declared.origins.Origin.{Origin}
use Rattle.list_core.specs.declared.origins.Source.{Source}
use Rattle.list_core.specs.declared.origins.Source.TheVariants as source
use Rattle.list_core.specs.declared.walk.Child.{Child}
use Rattle.list_core.specs.declared.walk.Direction.{Direction}
use Rattle.list_core.specs.declared.walk.Direction.TheVariants.{Forward, Back}
use Rattle.list_core.specs.declared.walk.How.{How}
use Rattle.list_core.specs.declared.walk.How.TheVariants as how
use Rattle.list_core.specs.declared.walk.Node.{Node}
use Rattle.list_core.specs.declared.walk.Node.TheVariants as node
use Rattle.list_core.specs.declared.walk.Step.{Step}
use Rattle.list_core.specs.declared.walk.Visit.{Visit}
use Rattle.list_core.proofs.Closing.{ends-led, ends-own, ends-shown, leads, own, shown, shown-own, waits}

or_left : (a b : Bool) → a ≡ true → (a || b) ≡ true
or_left true b e = refl
or_left false b e = cc

or_right : (a b : Bool) → b ≡ true → (a || b) ≡ true
or_right true b e = refl
or_right false b e = e

-- ---- the tests of one item and of one build

only-item : (n : ℕ) (v : Node) → is_item_node n v ≡ true → v ≡ node.Item n
only-item n (node.Item m) e = ap (λ k. node.Item k) (eqb-true m n e)
only-item n (node.Build m) e = cc
only-item n (node.Unknown m) e = cc
only-item n (node.Delivery l m) e = cc

only-build : (n : ℕ) (v : Node) → is_build_node n v ≡ true → v ≡ node.Build n
only-build n (node.Item m) e = cc
only-build n (node.Build m) e = ap (λ k. node.Build k) (eqb-true m n e)
only-build n (node.Unknown m) e = cc
only-build n (node.Delivery l m) e = cc

same : (n : ℕ) → (n == n) ≡ true
same n = eq-eqb n n refl

-- ---- what a walk from roots has

module _ (d : Direction) (s : State) (roots : List ℕ) (steps : List Step) (walked : walk d s roots ≡ Some steps) where
  item-own : (n : ℕ) → shown (is_item_node n) steps ≡ true → has_item n steps ≡ true
  item-own n =
      ends-own d s (node.Item n) (is_item_node n) (only-item n) (λ steps. refl) most_steps [] (map root_visit roots) steps walked
      (λ h. cc)

  build-own : (n : ℕ) → shown (is_build_node n) steps ≡ true → has_build n steps ≡ true
  build-own n =
      ends-own d s (node.Build n) (is_build_node n) (only-build n) (λ steps. refl) most_steps [] (map root_visit roots) steps walked
      (λ h. cc)

  -- what an item that it has leads to is shown
  after-item-led : (n : ℕ) (p : Node → Bool) → has_item n steps ≡ true → leads p (children d s (node.Item n)) ≡ true
      → shown p steps ≡ true
  after-item-led n p has child =
      ends-led d s (node.Item n) (is_item_node n) (only-item n) (λ steps. refl) p child most_steps [] (map root_visit roots)
      steps walked (λ h. cc) (shown-own (is_item_node n) steps has)

  after-build-led : (n : ℕ) (p : Node → Bool) → has_build n steps ≡ true → leads p (children d s (node.Build n)) ≡ true
      → shown p steps ≡ true
  after-build-led n p has child =
      ends-led d s (node.Build n) (is_build_node n) (only-build n) (λ steps. refl) p child most_steps [] (map root_visit roots)
      steps walked (λ h. cc) (shown-own (is_build_node n) steps has)

  root-waits : (n : ℕ) (ns : List ℕ) → Stands n ns → waits (is_item_node n) (map root_visit ns) ≡ true
  root-waits n [] h = absurd h
  root-waits n (m ∷ ms) (inl e) = or_left (m == n) (waits (is_item_node n) (map root_visit ms)) (eq-eqb m n e)
  root-waits n (m ∷ ms) (inr h) = or_right (m == n) (waits (is_item_node n) (map root_visit ms)) (root-waits n ms h)

  roots-shown : (n : ℕ) → Contains roots n → has_item n steps ≡ true
  roots-shown n h =
      item-own n (ends-shown d s (is_item_node n) most_steps [] (map root_visit roots) steps walked
      (root-waits n roots (Contains-Stands roots n h)))

-- ---- what leads to a row

item-leads : (s : State) (h : How) (n : ℕ) → is_item s n ≡ true → leads (is_item_node n) (item_child s h n) ≡ true
item-leads s h n there =
    ap (λ b. leads (is_item_node n) (cond b (record { node = node.Item n; how = h } ∷ []) [])) there
    ∙ ap (λ b. b || false) (same n)

build-leads : (s : State) (h : How) (n : ℕ) → is_build s n ≡ true → leads (is_build_node n) (build_child s h n) ≡ true
build-leads s h n there =
    ap (λ b. leads (is_build_node n) (cond b (record { node = node.Build n; how = h } ∷ []) [])) there
    ∙ ap (λ b. b || false) (same n)

leads-append : (p : Node → Bool) (xs ys : List Child) → leads p (xs ++ ys) ≡ (leads p xs || leads p ys)
leads-append p xs ys = list_any-append (λ (x : Child). p x.node) xs ys

leads-left : (p : Node → Bool) (xs ys : List Child) → leads p xs ≡ true → leads p (xs ++ ys) ≡ true
leads-left p xs ys e = leads-append p xs ys ∙ or_left (leads p xs) (leads p ys) e

leads-right : (p : Node → Bool) (xs ys : List Child) → leads p ys ≡ true → leads p (xs ++ ys) ≡ true
leads-right p xs ys e = leads-append p xs ys ∙ or_right (leads p xs) (leads p ys) e

-- one of the rows that pass, by its number
module _ {X : Type 0} (number : X → ℕ) (test : X → Bool) (s : State) (h : How) where
  among-leads : (xs : List X) (x : X) → Stands x xs → test x ≡ true → is_item s (number x) ≡ true
      → leads (is_item_node (number x)) (item_children s h (map number (filter test xs))) ≡ true
  among-leads [] x stands passes there = absurd stands
  among-leads (y ∷ ys) x (inl e) passes there =
      ap (λ b. leads (is_item_node (number x)) (item_children s h (map number (cond b (y ∷ filter test ys) (filter test ys)))))
      (ap test e ∙ passes)
      ∙ leads-left (is_item_node (number x)) (item_child s h (number y)) (item_children s h (map number (filter test ys)))
      (ap (λ (z : X). leads (is_item_node (number x)) (item_child s h (number z))) e ∙ item-leads s h (number x) there)
  among-leads (y ∷ ys) x (inr r) passes there = go (test y) (among-leads ys x r passes there)
    where
      go : (b : Bool) → leads (is_item_node (number x)) (item_children s h (map number (filter test ys))) ≡ true
          → leads (is_item_node (number x))
          (item_children s h (map number (cond b (y ∷ filter test ys) (filter test ys)))) ≡ true
      go true rest =
          leads-right (is_item_node (number x)) (item_child s h (number y)) (item_children s h (map number (filter test ys)))
          rest
      go false rest = rest

-- ---- forward

origin-number : (s : State) (k : ℕ) (o : Origin) → origin_in k s ≡ Some o → o.number ≡ k
origin-number s k o e =
    sym (same_digit k o.number (filled-own (λ (x : Origin). x.number ∷ []) (origin_rows s) (k ∷ []) o e))

outputs-lead : (s : State) (b k : ℕ) (o : Origin) → origin_in k s ≡ Some o → o.source ≡ source.Begun b
    → is_item s k ≡ true → leads (is_item_node k) (children Forward s (node.Build b)) ≡ true
outputs-lead s b k o e from there =
    leads-left (is_item_node k) (item_children s how.Begun (outputs_begun b s)) (unknown_child s b)
    (subst (λ (n : ℕ). leads (is_item_node n) (item_children s how.Begun (outputs_begun b s)) ≡ true) (origin-number s k o e)
    (among-leads (λ (x : Origin). x.number) (λ x. is_begun_for b x.source) s how.Begun (table.values (origins_in s)) o
    (get-Stands (origins_in s) (k ∷ []) o e) (ap (is_begun_for b) from ∙ same b)
    (ap (is_item s) (origin-number s k o e) ∙ there)))

pieces-lead : (s : State) (n k : ℕ) (x : Item) (o : Origin) → item_in n s ≡ Some x → origin_in k s ≡ Some o
    → o.source ≡ source.CutOff n → is_item s k ≡ true → leads (is_item_node k) (children Forward s (node.Item n)) ≡ true
pieces-lead s n k x o here e from there =
    ap (λ (row : Option Item). leads (is_item_node k) (after_row s n row)) here
    ∙ leads-right (is_item_node k) (after_place s x.place) (item_children s how.CutOff (pieces_of n s))
    (subst (λ (m : ℕ). leads (is_item_node m) (item_children s how.CutOff (pieces_of n s)) ≡ true) (origin-number s k o e)
    (among-leads (λ (y : Origin). y.number) (λ y. is_cut_off n y.source) s how.CutOff (table.values (origins_in s)) o
    (get-Stands (origins_in s) (k ∷ []) o e) (ap (is_cut_off n) from ∙ same n)
    (ap (is_item s) (origin-number s k o e) ∙ there)))

holder-leads : (s : State) (n m : ℕ) (x : Item) → item_in n s ≡ Some x → x.place ≡ place.In m → is_item s m ≡ true
    → leads (is_item_node m) (children Forward s (node.Item n)) ≡ true
holder-leads s n m x here at there =
    ap (λ (row : Option Item). leads (is_item_node m) (after_row s n row)) here
    ∙ leads-left (is_item_node m) (after_place s x.place) (item_children s how.CutOff (pieces_of n s))
    (ap (λ (q : Place). leads (is_item_node m) (after_place s q)) at ∙ item-leads s how.Holds m there)

user-leads : (s : State) (n b : ℕ) (x : Item) → item_in n s ≡ Some x → x.place ≡ place.Used b → is_build s b ≡ true
    → leads (is_build_node b) (children Forward s (node.Item n)) ≡ true
user-leads s n b x here at there =
    ap (λ (row : Option Item). leads (is_build_node b) (after_row s n row)) here
    ∙ leads-left (is_build_node b) (after_place s x.place) (item_children s how.CutOff (pieces_of n s))
    (ap (λ (q : Place). leads (is_build_node b) (after_place s q)) at ∙ build-leads s how.Used b there)

pub forward_complete : ForwardWalksAreComplete
forward_complete s roots steps walked =
    record {
      starts = roots-shown Forward s roots steps walked;
      holders = λ n m x has here at there. item-own Forward s roots steps walked m
          (after-item-led Forward s roots steps walked n (is_item_node m) has (holder-leads s n m x here at there));
      builds = λ n b x has here at there. build-own Forward s roots steps walked b
          (after-item-led Forward s roots steps walked n (is_build_node b) has (user-leads s n b x here at there));
      outputs = λ b k o has e from there. item-own Forward s roots steps walked k
          (after-build-led Forward s roots steps walked b (is_item_node k) has (outputs-lead s b k o e from there));
      pieces = λ n k x o has here e from there. item-own Forward s roots steps walked k
          (after-item-led Forward s roots steps walked n (is_item_node k) has (pieces-lead s n k x o here e from there));
    }

-- ---- back

item-number : (s : State) (m : ℕ) (x : Item) → IsSoundState s → item_in m s ≡ Some x → x.number ≡ m
item-number s m x sound e = sym (same_digit m x.number (sound.stock.items.rows (m ∷ []) x e).own)

there-some : (s : State) (m : ℕ) (x : Item) → item_in m s ≡ Some x → is_item s m ≡ true
there-some s m x e = ap (λ (o : Option Item). is_some o) e

inside-leads : (s : State) (n m : ℕ) (x : Item) → IsSoundState s → item_in m s ≡ Some x → x.place ≡ place.In n
    → leads (is_item_node m) (children Back s (node.Item n)) ≡ true
inside-leads s n m x sound e at =
    leads-left (is_item_node m) (item_children s how.Inside (children_of n s.stock)) (origin_child s n (origin_in n s))
    (subst (λ (k : ℕ). leads (is_item_node k) (item_children s how.Inside (children_of n s.stock)) ≡ true)
    (item-number s m x sound e)
    (among-leads (λ (y : Item). y.number) (lies_in n) s how.Inside (table.values s.stock.items) x
    (get-Stands s.stock.items (m ∷ []) x e) (lies at)
    (ap (is_item s) (item-number s m x sound e) ∙ there-some s m x e)))
  where
    lies : x.place ≡ place.In n → lies_in n x ≡ true
    lies f = ap (λ (q : Place). lies_in n (record { number = x.number; part = x.part; lot = x.lot; quantity = x.quantity; place = q })) f
        ∙ same n

used-lead : (s : State) (b m : ℕ) (x : Item) → IsSoundState s → item_in m s ≡ Some x → x.place ≡ place.Used b
    → leads (is_item_node m) (children Back s (node.Build b)) ≡ true
used-lead s b m x sound e at =
    subst (λ (k : ℕ). leads (is_item_node k) (item_children s how.UsedFor (used_by b s.stock)) ≡ true)
    (item-number s m x sound e)
    (among-leads (λ (y : Item). y.number) (λ y. is_used_by b y.place) s how.UsedFor (table.values s.stock.items) x
    (get-Stands s.stock.items (m ∷ []) x e) (ap (is_used_by b) at ∙ same b)
    (ap (is_item s) (item-number s m x sound e) ∙ there-some s m x e))

maker-leads : (s : State) (n b : ℕ) (o : Origin) → origin_in n s ≡ Some o → o.source ≡ source.Begun b
    → is_build s b ≡ true → leads (is_build_node b) (children Back s (node.Item n)) ≡ true
maker-leads s n b o e from there =
    leads-right (is_build_node b) (item_children s how.Inside (children_of n s.stock)) (origin_child s n (origin_in n s))
    (ap (λ (row : Option Origin). leads (is_build_node b) (origin_child s n row)) e
    ∙ ap (λ (t : Source). leads (is_build_node b) (source_child s n t)) from
    ∙ build-leads s how.Made b there)

cut-leads : (s : State) (n z : ℕ) (o : Origin) → origin_in n s ≡ Some o → o.source ≡ source.CutOff z
    → is_item s z ≡ true → leads (is_item_node z) (children Back s (node.Item n)) ≡ true
cut-leads s n z o e from there =
    leads-right (is_item_node z) (item_children s how.Inside (children_of n s.stock)) (origin_child s n (origin_in n s))
    (ap (λ (row : Option Origin). leads (is_item_node z) (origin_child s n row)) e
    ∙ ap (λ (t : Source). leads (is_item_node z) (source_child s n t)) from
    ∙ item-leads s how.Cut z there)

pub back_complete : BackWalksAreComplete
back_complete s roots steps sound walked =
    record {
      starts = roots-shown Back s roots steps walked;
      inside = λ n m x has e at. item-own Back s roots steps walked m
          (after-item-led Back s roots steps walked n (is_item_node m) has (inside-leads s n m x sound e at));
      builds = λ n b o has e from there. build-own Back s roots steps walked b
          (after-item-led Back s roots steps walked n (is_build_node b) has (maker-leads s n b o e from there));
      used = λ b m x has e at. item-own Back s roots steps walked m
          (after-build-led Back s roots steps walked b (is_item_node m) has (used-lead s b m x sound e at));
      cut = λ n z o has e from there. item-own Back s roots steps walked z
          (after-item-led Back s roots steps walked n (is_item_node z) has (cut-leads s n z o e from there));
    }
