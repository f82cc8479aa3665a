-- Two lists of lines in order of number, as one.
use Rattle.std.proofs.Common.{◌≡◌, ◌<◌, ◌≤◌, ◌+◌, ℕ, Bool, true, false, cond, ◌||◌, List, [], ◌∷◌, ◌++◌}
use Rattle.std.proofs.Common.{drop, get_or, length, map, Some, None, refl, sym, ap, ◌∙◌, Bor, arith}
use Rattle.std.specs.Prelude.{◌==◌, ◌&&◌, filter, nat_lt}
use Rattle.std.specs.FinMap as table
use Rattle.std.specs.FinMap.Entries.{below_all, is_sorted}
use Rattle.std.specs.Ordering.{is_eq, is_lt, ordering_then}
use Rattle.std.specs.declared.cmp.Ordering.TheVariants.{Less, Equal, Greater}
use Rattle.std.proofs.lemmas.Bool.{lt-ltb, le-ltb, ltb-true}
use Rattle.std.proofs.lemmas.List.{append-nil, at_drop_all, at_drop_more}
use Rattle.sheet_core.specs.Sheet.{key_cmp, Table}
use Rattle.sheet_core.proofs.Conditions.{and_parts, is_true}
use Rattle.sheet_core.proofs.Keys.{key_eq, key_eq-self, key_eq-true}
use Rattle.bom_core.specs.declared.line.Line.{Line}
use Rattle.bom_core.specs.Roles.{AreNumbered, merged, placed}

-- the lines that these borrow
abbrev pub lent : List (Bor Line) → List Line
lent ls = map (λ l. l.now) ls

lent-push : (ls : List (Bor Line)) (l : Bor Line) (ms : List Line) → lent (ls ++ l ∷ []) ++ ms ≡ lent ls ++ l.now ∷ ms
lent-push [] l ms = refl
lent-push (k ∷ ls) l ms = ap (λ ns. k.now ∷ ns) (lent-push ls l ms)

module _ (l : Line) (next : List Line → List Line) where
  abbrev place : Bool → Bool → Line → List Line → List Line
  place b c m ms = cond b (l ∷ next (m ∷ ms)) (cond c (m ∷ placed l next ms) (placed l next ms))

  placed-higher : (m : Line) (ms : List Line) → l.number < m.number → placed l next (m ∷ ms) ≡ l ∷ next (m ∷ ms)
  placed-higher m ms h = ap (λ b. place b (nat_lt m.number l.number) m ms) (lt-ltb l.number m.number h)

  placed-lower : (m : Line) (ms : List Line) → m.number < l.number → placed l next (m ∷ ms) ≡ m ∷ placed l next ms
  placed-lower m ms h =
      ap (λ b. place b (nat_lt m.number l.number) m ms) (le-ltb l.number m.number (omega arith))
      ∙ ap (λ c. place false c m ms) (lt-ltb m.number l.number h)

  placed-same : (m : Line) (ms : List Line) → m.number ≤ l.number → l.number ≤ m.number
      → placed l next (m ∷ ms) ≡ placed l next ms
  placed-same m ms h k =
      ap (λ b. place b (nat_lt m.number l.number) m ms) (le-ltb l.number m.number h)
      ∙ ap (λ c. place false c m ms) (le-ltb m.number l.number k)

  -- a loop over the others, which has made `all` of those before a place
  module _ (others all : List (Bor Line)) (at : ℕ) (whole : List Line)
      (left : lent all ++ placed l next (lent (drop at others)) ≡ whole) where
    abbrev rest : List Line
    rest = lent (drop (at + 1) others)

    here_is : (d : Bor Line) → at < length others → lent all ++ placed l next ((get_or others at d).now ∷ rest) ≡ whole
    here_is d here =
        ap (λ ms. lent all ++ ms) (sym (at_drop_more (λ ms. placed l next (lent ms)) others at d here)) ∙ left

    pub lower-pushed : (d : Bor Line) → at < length others → (get_or others at d).now.number < l.number
        → (new : List (Bor Line)) → new ≡ all ++ get_or others at d ∷ []
        → lent new ++ placed l next rest ≡ whole
    lower-pushed d here h new e =
        ap (λ ls. lent ls ++ placed l next rest) e
        ∙ lent-push all (get_or others at d) _
        ∙ ap (λ ms. lent all ++ ms) (sym (placed-lower (get_or others at d).now rest h))
        ∙ here_is d here

    pub same-passed : (d : Bor Line) → at < length others → (get_or others at d).now.number ≤ l.number
        → l.number ≤ (get_or others at d).now.number → (new : List (Bor Line)) → new ≡ all
        → lent new ++ placed l next rest ≡ whole
    same-passed d here h k new e =
        ap (λ ls. lent ls ++ placed l next rest) e
        ∙ ap (λ ms. lent all ++ ms) (sym (placed-same (get_or others at d).now rest h k))
        ∙ here_is d here

    module _ (b : Bor Line) (is : b.now ≡ l) (new : List (Bor Line)) (e : new ≡ all ++ b ∷ []) where
      pushed : lent new ++ next (lent (drop at others)) ≡ lent all ++ l ∷ next (lent (drop at others))
      pushed =
          ap (λ ls. lent ls ++ next (lent (drop at others))) e
          ∙ lent-push all b _
          ∙ ap (λ m. lent all ++ m ∷ next (lent (drop at others))) is

      pub before-higher : (d : Bor Line) → at < length others → l.number < (get_or others at d).now.number
          → lent new ++ next (lent (drop at others)) ≡ whole
      before-higher d here h =
          pushed
          ∙ ap (λ ms. lent all ++ l ∷ ms) (at_drop_more (λ ms. next (lent ms)) others at d here)
          ∙ ap (λ ms. lent all ++ ms) (sym (placed-higher (get_or others at d).now rest h)) ∙ here_is d here

      pub at-end : length others ≤ at → lent new ++ next (lent (drop at others)) ≡ whole
      at-end end =
          pushed
          ∙ ap (λ ms. lent all ++ l ∷ ms) (at_drop_all (λ ms. next (lent ms)) others at end)
          ∙ sym (ap (λ ms. lent all ++ ms) (at_drop_all (λ ms. placed l next (lent ms)) others at end)) ∙ left

-- the others that are left
pub other-pushed : (others all : List (Bor Line)) (at : ℕ) (d : Bor Line) (whole : List Line) → at < length others
    → lent all ++ lent (drop at others) ≡ whole
    → (new : List (Bor Line)) → new ≡ all ++ get_or others at d ∷ [] → lent new ++ lent (drop (at + 1) others) ≡ whole
other-pushed others all at d whole here left new e =
    ap (λ ls. lent ls ++ lent (drop (at + 1) others)) e
    ∙ lent-push all (get_or others at d) _
    ∙ ap (λ ms. lent all ++ ms) (sym (at_drop_more lent others at d here))
    ∙ left

pub all-pushed : (others all : List (Bor Line)) (at : ℕ) (whole : List Line) → length others ≤ at
    → lent all ++ lent (drop at others) ≡ whole → lent all ≡ whole
all-pushed others all at whole end left =
    sym (append-nil (lent all)) ∙ ap (λ ms. lent all ++ ms) (sym (at_drop_all lent others at end)) ∙ left

-- each number is above n
abbrev AreAbove : ℕ → List Line → Type 0
AreAbove n [] = Unit {0}
AreAbove n (l ∷ ls) = (n < l.number) × AreAbove n ls

-- the numbers rise
abbrev pub Rise : List Line → Type 0
Rise [] = Unit {0}
Rise (l ∷ ls) = AreAbove l.number ls × Rise ls

module _ (p : Line → Bool) where
  above-filtered : (n : ℕ) (ls : List Line) → AreAbove n ls → AreAbove n (filter p ls)
  above-filtered n [] a = tt
  above-filtered n (l ∷ ls) a = elim (p l) as (λ b. AreAbove n (cond b (l ∷ filter p ls) (filter p ls))) [
    | true ↦ (a.0, above-filtered n ls a.1)
    | false ↦ above-filtered n ls a.1
  ]

-- a line below all others comes first
placed-first : (l : Line) (next : List Line → List Line) (ms : List Line) → AreAbove l.number ms
    → placed l next ms ≡ l ∷ next ms
placed-first l next [] a = refl
placed-first l next (m ∷ ms) a = placed-higher l next m ms a.0

merged-first : (l : Line) (ls ms : List Line) → AreAbove l.number ls → merged ls (l ∷ ms) ≡ l ∷ merged ls ms
merged-first l [] ms a = refl
merged-first l (k ∷ ls) ms a = placed-lower k (merged ls) l ms a.0

placed-both : (l : Line) (next : List Line → List Line) (ms : List Line) → AreAbove l.number ms
    → placed l next (l ∷ ms) ≡ l ∷ next ms
placed-both l next ms a = placed-same l next l ms (omega arith) (omega arith) ∙ placed-first l next ms a

-- what passes one test or the other, of lines in order
pub merged-filters : (p q : Line → Bool) (ls : List Line) → Rise ls
    → merged (filter p ls) (filter q ls) ≡ filter (λ l. p l || q l) ls
merged-filters p q [] r = refl
merged-filters p q (l ∷ ls) r =
    let rest = merged-filters p q ls r.1 in
    let ps = filter p ls in
    let qs = filter q ls in
    let above_p = above-filtered p l.number ls r.0 in
    let above_q = above-filtered q l.number ls r.0 in
    elim (p l) as (λ b. merged (cond b (l ∷ ps) ps) (cond (q l) (l ∷ qs) qs)
    ≡ cond (b || q l) (l ∷ filter (λ k. p k || q k) ls) (filter (λ k. p k || q k) ls)) [
      | true ↦
          elim (q l) as (λ c. placed l (merged ps) (cond c (l ∷ qs) qs) ≡ l ∷ filter (λ k. p k || q k) ls) [
            | true ↦ placed-both l (merged ps) qs above_q ∙ ap (λ ms. l ∷ ms) rest
            | false ↦ placed-first l (merged ps) qs above_q ∙ ap (λ ms. l ∷ ms) rest
          ]
      | false ↦
          elim (q l) as (λ c.
          merged ps (cond c (l ∷ qs) qs) ≡ cond c (l ∷ filter (λ k. p k || q k) ls) (filter (λ k. p k || q k) ls)) [
            | true ↦ merged-first l ps qs above_p ∙ ap (λ ms. l ∷ ms) rest
            | false ↦ rest
          ]
    ]

-- the numbers of a table's lines rise, where each stands under its own

less_is : (a b : ℕ) → is_lt (key_cmp (a ∷ []) (b ∷ [])) ≡ true → a < b
less_is a b h = ltb-true a b (go (nat_lt a b) (a == b) h)
  where
    go : (c d : Bool) → is_lt (ordering_then (cond c Less (cond d Equal Greater)) Equal) ≡ true → c ≡ true
    go true d h = refl
    go false true h = cc
    go false false h = cc

abbrev Entries : Type 0
Entries = List (List ℕ × Line)

apart : (k q : List ℕ) (b : Bool) → (is_lt (key_cmp k q) && b) ≡ true → key_eq k q ≡ false
apart k q b h = elim (key_cmp k q) as (λ r. (is_lt r && b) ≡ true → is_eq r ≡ false) [
  | Less ↦ λ i. refl
  | Equal ↦ λ i. cc
  | Greater ↦ λ i. cc
] h

none-above : (k : List ℕ) (es : Entries) → below_all key_cmp k es ≡ true → table.find key_cmp k es ≡ None
none-above k [] h = refl
none-above k (e ∷ es) h =
    let t = and_parts (is_lt (key_cmp k e.0)) (below_all key_cmp k es) h in
    ap (λ b. cond b (Some e.1) (table.find key_cmp k es)) (apart k e.0 _ h) ∙ none-above k es t.1

-- what is found among the entries stands under its own number
abbrev AreOwn : Entries → Type 0
AreOwn es = (k : List ℕ) (l : Line) → table.find key_cmp k es ≡ Some l → k ≡ l.number ∷ []

own-first : (e : List ℕ × Line) (es : Entries) → AreOwn (e ∷ es) → e.0 ≡ e.1.number ∷ []
own-first e es own = own e.0 e.1 (ap (λ b. cond b (Some e.1) (table.find key_cmp e.0 es)) (key_eq-self e.0))

own-rest : (e : List ℕ × Line) (es : Entries) → below_all key_cmp e.0 es ≡ true → AreOwn (e ∷ es) → AreOwn es
own-rest e es above own k l h = go (key_eq k e.0) refl
  where
    go : (b : Bool) → key_eq k e.0 ≡ b → k ≡ l.number ∷ []
    go true i =
        let found : table.find key_cmp e.0 es ≡ Some l =
        ap (λ q. table.find key_cmp q es) (sym (key_eq-true k e.0 i)) ∙ h in
        let none = none-above e.0 es above in
        cc
    go false i = own k l (ap (λ b. cond b (Some e.1) (table.find key_cmp k es)) i ∙ h)

above-entries : (n : ℕ) (k : List ℕ) (es : Entries) → k ≡ n ∷ [] → below_all key_cmp k es ≡ true
    → is_sorted key_cmp es ≡ true → AreOwn es → AreAbove n (map (λ e. e.1) es)
above-entries n k [] is h s own = tt
above-entries n k (e ∷ es) is h s own =
    let t = and_parts (is_lt (key_cmp k e.0)) (below_all key_cmp k es) h in
    let u = and_parts (below_all key_cmp e.0 es) (is_sorted key_cmp es) s in
    let first : is_lt (key_cmp (n ∷ []) (e.1.number ∷ [])) ≡ true =
    ap (λ q. is_lt (key_cmp q (e.1.number ∷ []))) (sym is)
    ∙ ap (λ q. is_lt (key_cmp k q)) (sym (own-first e es own))
    ∙ t.0 in
    (less_is n e.1.number first, above-entries n k es is t.1 u.1 (own-rest e es u.0 own))

rise-entries : (es : Entries) → is_sorted key_cmp es ≡ true → AreOwn es → Rise (map (λ e. e.1) es)
rise-entries [] s own = tt
rise-entries (e ∷ es) s own =
    let u = and_parts (below_all key_cmp e.0 es) (is_sorted key_cmp es) s in
    let rest = own-rest e es u.0 own in
    (above-entries e.1.number e.0 es (own-first e es own) u.0 u.1 rest, rise-entries es u.1 rest)

pub lines-rise : (m : Table Line) → AreNumbered m → Rise (table.values m)
lines-rise m own =
    rise-entries (table.entries m) (is_true _ (table.entries_sorted m)) (λ k l h. own k l (table.get-entries m k ∙ h))
