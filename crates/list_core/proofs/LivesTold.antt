-- What is gathered entry by entry is what the history says.
use Rattle.std.proofs.Common.{◌≡◌, ◌∙◌, ◌+◌, ◌==◌, ℕ, Bool, true, false, List, [], ◌∷◌, Option, Some, None}
use Rattle.std.proofs.Common.{ap, arith, cond, filter, refl, sym}
use Rattle.std.specs.Prelude.{sum_by}
use Rattle.std.specs.FinMap as table
use Rattle.std.proofs.lemmas.Bool.{eqb-true}
use Rattle.std.proofs.lemmas.List.Sums.{sum_by-cons}
use Rattle.sheet_core.specs.Sheet.{Table, key_cmp}
use Rattle.sheet_core.proofs.Keys.{keys_total}
use Rattle.forest.specs.declared.entry.Entry.{Entry}
use Rattle.yard_core.specs.Stock.{is_entry_on}
use Rattle.desk_core.specs.Machine.{State}
use Rattle.list_core.specs.Lives.{TellLives, built_by, built_in, day_in, day_of_first, life_at, life_with}
use Rattle.list_core.specs.Lives.{with_entries, with_entry}
use Rattle.list_core.specs.declared.lives.Life.{Life}
use Rattle.list_core.proofs.Gathered.{same_key}

-- what is known of an item, after entries on it
abbrev lived : List Entry → Option Life → Option Life
lived [] life = life
lived (e ∷ es) life = lived es (Some (life_with e life))

-- an entry comes to what is known of its item, and of no other
life_more : (n : ℕ) (e : Entry) (lives : Table Life)
    → life_at n (with_entry e lives)
    ≡ cond (e.note.item == n) (Some (life_with e (life_at n lives))) (life_at n lives)
life_more n e lives =
    let more = life_with e (life_at e.note.item lives) in
    table.get-insert keys_total lives (e.note.item ∷ []) more (n ∷ [])
    ∙ ap (λ b. cond b (Some more) (life_at n lives)) (sym (same_key n e.note.item))
    ∙ elim (e.note.item == n) as (λ b. e.note.item == n ≡ b
    → cond b (Some more) (life_at n lives) ≡ cond b (Some (life_with e (life_at n lives))) (life_at n lives)) [
      | true ↦ λ p. ap (λ m. Some (life_with e (life_at m lives))) (eqb-true e.note.item n p)
      | false ↦ λ p. refl
    ] refl

gathered_is : (n : ℕ) (es : List Entry) (lives : Table Life)
    → life_at n (with_entries es lives) ≡ lived (filter (is_entry_on n) es) (life_at n lives)
gathered_is n [] lives = refl
gathered_is n (e ∷ es) lives =
    gathered_is n es (with_entry e lives)
    ∙ ap (lived (filter (is_entry_on n) es)) (life_more n e lives)
    ∙ split (e.note.item == n)
  where
    split : (b : Bool) → lived (filter (is_entry_on n) es) (cond b (Some (life_with e (life_at n lives))) (life_at n lives))
        ≡ lived (cond b (e ∷ filter (is_entry_on n) es) (filter (is_entry_on n) es)) (life_at n lives)
    split true = refl
    split false = refl

-- the day stays that of the first entry
day_kept : (es : List Entry) (life : Life) → day_in (lived es (Some life)) ≡ Some life.day
day_kept [] life = refl
day_kept (e ∷ es) life = day_kept es (life_with e (Some life))

day_is : (es : List Entry) → day_in (lived es None) ≡ day_of_first es
day_is [] = refl
day_is (e ∷ es) = day_kept es (life_with e None)

built_is : (es : List Entry) (life : Option Life) → built_in (lived es life) ≡ built_in life + sum_by built_by es
built_is [] life = omega arith
built_is (e ∷ es) life =
    let split : sum_by built_by (e ∷ es) ≡ built_by e + sum_by built_by es = sum_by-cons built_by e es in
    let rest : built_in (lived (e ∷ es) life) ≡ (built_in life + built_by e) + sum_by built_by es =
    built_is es (Some (life_with e life)) in
    omega (arith, split, rest)

-- the whole history, from nothing
pub lives_told : (s : State) (lives : Table Life) → lives ≡ with_entries (table.values s.stock.history) table.empty
    → TellLives s lives
lives_told s lives same = record { days = days; built = built }
  where
    known : (n : ℕ) → life_at n lives ≡ lived (filter (is_entry_on n) (table.values s.stock.history)) None
    known n =
        ap (life_at n) same
        ∙ gathered_is n (table.values s.stock.history) table.empty
        ∙ ap (lived (filter (is_entry_on n) (table.values s.stock.history))) (table.get-empty key_cmp (n ∷ []))

    days : (n : ℕ) → day_in (life_at n lives) ≡ day_of_first (filter (is_entry_on n) (table.values s.stock.history))
    days n = ap day_in (known n) ∙ day_is (filter (is_entry_on n) (table.values s.stock.history))

    built : (n : ℕ) → built_in (life_at n lives) ≡ sum_by built_by (filter (is_entry_on n) (table.values s.stock.history))
    built n =
        let all = built_is (filter (is_entry_on n) (table.values s.stock.history)) None in
        omega (arith, ap built_in (known n), all)
