-- What new entries make of a history.
use Rattle.std.proofs.Common.{◌≡◌, ℕ, ◌+◌, ◌<◌, ◌≤◌, List, [], ◌∷◌, ◌++◌, map, length, refl, sym, ap, ◌∙◌, subst, arith}
use Rattle.std.specs.FinMap as table
use Rattle.std.specs.FinMap.Entries.{put}
use Rattle.std.proofs.lemmas.List.{append_assoc, append-nil, map-append, length-map, length-append}
use Rattle.std.specs.Cmp.{nat_cmp_is}
use Rattle.std.specs.Ordering.{ordering_then}
use Rattle.std.specs.declared.cmp.Ordering.TheVariants.{Less, Equal}
use Rattle.word_core.specs.Day.{CivilDay}
use Rattle.sheet_core.specs.Sheet.{Table, key_cmp}
use Rattle.sheet_core.proofs.Keys.{keys_total}
use Rattle.sheet_core.proofs.Ends.{IsPast, put-last}
use Rattle.sheet_core.proofs.Logs.{above}
use Rattle.forest.specs.declared.entry.Entry.{Entry}
use Rattle.forest.specs.declared.entry.Note.{Note}
use Rattle.yard_core.specs.Stock.{Stock, notes, next_entry, numbered, put_all, recorded_in, keyed, IsRun, IsHistory}

-- a number below another, as keys
pub below : (n m : ℕ) → n < m → key_cmp (n ∷ []) (m ∷ []) ≡ Less
below n m lt = ap (λ o. ordering_then o Equal) (sym (nat_cmp_is n m Less lt))

IsPast-run : (n k : ℕ) (es : List Entry) → IsRun k es → k + length es ≤ n → IsPast (n ∷ []) (keyed (λ e. e.number) es)
IsPast-run n k [] run le = tt
IsPast-run n k (e ∷ es) run le =
    (above n e.number (omega (arith, run.0, le)), IsPast-run n (k + 1) es run.1 (omega (arith, le)))

pub IsRun-push : (k : ℕ) (es : List Entry) (e : Entry) → IsRun k es → e.number ≡ k + length es → IsRun k (es ++ e ∷ [])
IsRun-push k [] e run is = (omega (arith, is), tt)
IsRun-push k (x ∷ es) e run is = (run.0, IsRun-push (k + 1) es e run.1 (omega (arith, is)))

pub values-keyed : {X : Type 0} (number : X → ℕ) (xs : List X) → map (λ (e : List ℕ × X). e.1) (keyed number xs) ≡ xs
values-keyed number [] = refl
values-keyed number (x ∷ xs) = ap (λ l. x ∷ l) (values-keyed number xs)

module _ (t : Table Entry) (h : IsHistory t) (e : Entry) (next : e.number ≡ 1 + length (table.values t)) where
  entries-push : table.entries (table.insert t (e.number ∷ []) e) ≡ keyed (λ e. e.number) (table.values t ++ e ∷ [])
  entries-push =
      table.entries-insert keys_total t (e.number ∷ []) e
      ∙ ap (put key_cmp (e.number ∷ []) e) h.own
      ∙ put-last (e.number ∷ []) e (keyed (λ e. e.number) (table.values t))
      (IsPast-run e.number 1 (table.values t) h.run (omega (arith, next)))
      ∙ sym (map-append (λ (e : Entry). (e.number ∷ [], e)) (table.values t) (e ∷ []))

  pub values-push : table.values (table.insert t (e.number ∷ []) e) ≡ table.values t ++ e ∷ []
  values-push =
      ap (map (λ (e : List ℕ × Entry). e.1)) entries-push ∙ values-keyed (λ e. e.number) (table.values t ++ e ∷ [])

  pub IsHistory-push : IsHistory (table.insert t (e.number ∷ []) e)
  IsHistory-push = record {
    run = subst (IsRun 1) (sym values-push) (IsRun-push 1 (table.values t) e h.run next);
    own = entries-push ∙ ap (keyed (λ e. e.number)) (sym values-push);
  }

-- the history after more entries
pub put_all-history : (t : Table Entry) (n : ℕ) (day : CivilDay) (es : List Note) → IsHistory t
    → n ≡ 1 + length (table.values t)
    → IsHistory (put_all (numbered n day es) t)
    × (table.values (put_all (numbered n day es) t) ≡ table.values t ++ numbered n day es)
put_all-history t n day [] h next = (h, sym (append-nil (table.values t)))
put_all-history t n day (e ∷ es) h next =
    let x : Entry = record { number = n; day = day; note = e } in
    let pushed = values-push t h x next in
    let len : length (table.values (table.insert t (n ∷ []) x)) ≡ length (table.values t) + 1 =
    ap length pushed ∙ length-append (table.values t) (x ∷ []) in
    let rest =
    put_all-history (table.insert t (n ∷ []) x) (n + 1) day es (IsHistory-push t h x next)
    (omega (arith, len, next)) in (
      rest.0,
      rest.1
          ∙ ap (λ l. l ++ numbered (n + 1) day es) pushed
          ∙ append_assoc (table.values t) (x ∷ []) (numbered (n + 1) day es),
    )

pub notes-numbered : (n : ℕ) (day : CivilDay) (es : List Note) → map (λ (e : Entry). e.note) (numbered n day es) ≡ es
notes-numbered n day [] = refl
notes-numbered n day (e ∷ es) = ap (λ l. e ∷ l) (notes-numbered (n + 1) day es)

-- the append step: what is recorded stands at the end
pub notes-recorded : (s : Stock) (day : CivilDay) (es : List Note) → IsHistory s.history
    → IsHistory (recorded_in day es s).history × (notes (recorded_in day es s) ≡ notes s ++ es)
notes-recorded s day es h =
    let len : table.len s.history ≡ length (table.values s.history) =
    table.len-entries s.history ∙ sym (length-map (table.entries s.history) (λ e. e.1)) in
    let all = put_all-history s.history (next_entry s) day es h (omega (arith, len)) in (
      all.0,
      ap (map (λ (e : Entry). e.note)) all.1
          ∙ map-append (λ (e : Entry). e.note) (table.values s.history) (numbered (next_entry s) day es)
          ∙ ap (λ l. notes s ++ l) (notes-numbered (next_entry s) day es),
    )
