-- Lines that are written one after another.
use Rattle.std.proofs.Common.{◌≡◌, ℕ, ◌<◌, ◌≤◌, ◌+◌, suc, List, [], ◌∷◌, ◌++◌, length, get_or, map, drop, refl, sym}
use Rattle.std.proofs.Common.{ap, ◌∙◌, subst, append_assoc, append-nil, drop-cons, add-one, Result, Ok, Err}
use Rattle.std.specs.Prelude.{◌≢◌, Option, OnOk, OnErr}
use Rattle.std.specs.Io.KnownBytes.{Appends, Keeps}
use Rattle.std.proofs.KnownBytes.{Appends-kept, Appends-nil, Appends-trans}
use Rattle.std.proofs.lemmas.List.{drop_all}
use Rattle.desk_store.specs.Exports.{AppendsFront, Sends}
use Rattle.desk_store.specs.declared.export.ExportFault.{ExportFault}
use Rattle.desk_store.specs.declared.export.ExportFault.TheVariants.{Memory, Closed, NoSuch, WriteFailed}
use Rattle.desk_store.proofs.Sent.{front-sent, front-then}

module _ {X Y : Type 0} (now : Y → X) (whole : List X → List ℕ) where
  -- the lines of the rows from this one on
  abbrev pub left_of : ℕ → List Y → List ℕ
  left_of i rows = whole (map now (drop i rows))

  -- the lines of the rows before this one are written
  pub record AreSent (old new : Option (List ℕ)) (i : ℕ) (rows : List Y) : Type 0 where
    pub sent : List ℕ
    pub appends : Appends old new sent
    pub left : sent ++ left_of i rows ≡ whole (map now rows)

  pub none-sent : (old : Option (List ℕ)) (rows : List Y) → AreSent old old 0 rows
  none-sent old rows = record { sent = []; appends = Appends-nil old; left = refl }

  module _ (line : X → List ℕ) (none : whole [] ≡ [])
      (more : (x : X) (xs : List X) → whole (x ∷ xs) ≡ line x ++ whole xs) where
    pub all-sent : (old new : Option (List ℕ)) (i : ℕ) (rows : List Y) → length rows ≤ i → AreSent old new i rows
        → Appends old new (whole (map now rows))
    all-sent old new i rows le it =
        let end = ap (λ (rest : List Y). it.sent ++ whole (map now rest)) (drop_all i rows le) in
        let empty = ap (λ rest. it.sent ++ rest) none in
        subst (Appends old new) (sym (append-nil it.sent) ∙ sym empty ∙ sym end ∙ it.left) it.appends

    module _ (old mid new : Option (List ℕ)) (i : ℕ) (rows : List Y) (row : Y) (lt : i < length rows)
        (at : row ≡ get_or rows i row) (it : AreSent old mid i rows) where
      left-next : left_of i rows ≡ line (now row) ++ left_of (i + 1) rows
      left-next =
          ap (λ rest. whole (map now rest)) (drop-cons rows i row lt)
          ∙ more (now (get_or rows i row)) (map now (drop (suc i) rows))
          ∙ ap (λ (r : Y). line (now r) ++ left_of (suc i) rows) (sym at)
          ∙ ap (λ j. line (now row) ++ left_of j rows) (sym (add-one i))

      pub next-sent : Appends mid new (line (now row)) → AreSent old new (i + 1) rows
      next-sent p = record {
        sent = it.sent ++ line (now row);
        appends = Appends-trans old mid new it.sent (line (now row)) it.appends p;
        left =
            append_assoc it.sent (line (now row)) (left_of (i + 1) rows)
            ∙ ap (λ l. it.sent ++ l) (sym left-next)
            ∙ it.left;
      }

      pub front-of : AppendsFront mid new (line (now row)) → AppendsFront old new (whole (map now rows))
      front-of h =
          subst (AppendsFront old new) (ap (λ l. it.sent ++ l) (sym left-next) ∙ it.left)
          (front-then old mid new it.sent (line (now row)) (left_of (i + 1) rows) it.appends h)

-- a fault in the middle leaves a front
pub sends-front : (old mid new : Option (List ℕ)) (text whole : List ℕ) (fault : ExportFault)
    → Sends mid new text (Err fault) → (AppendsFront mid new text → AppendsFront old new whole)
    → Sends old new whole (Err fault)
sends-front old mid new text whole Memory h on = on h
sends-front old mid new text whole WriteFailed h on = on h
sends-front old mid new text whole Closed h on = absurd h
sends-front old mid new text whole NoSuch h on = absurd h

-- one text after another
pub sends-then : (old mid new : Option (List ℕ)) (first second : List ℕ) (r : Result (Unit {0}) ExportFault)
    → Appends old mid first → Sends mid new second r → Sends old new (first ++ second) r
sends-then old mid new first second (Ok x) p h = Appends-trans old mid new first second p h
sends-then old mid new first second (Err fault) p h =
    sends-front old mid new second (first ++ second) fault h
    (λ front. subst (λ l. AppendsFront old new (first ++ l)) (append-nil second)
    (front-then old mid new first second [] p front))

pub same-text : (old new : Option (List ℕ)) (text other : List ℕ) (r : Result (Unit {0}) ExportFault) → text ≡ other
    → Sends old new text r → Sends old new other r
same-text old new text other r e = subst (λ t. Sends old new t r) e

-- what is kept behind a text that was written is that text
pub sends-kept : (old mid new : Option (List ℕ)) (text : List ℕ) → Appends old mid text → Keeps mid new
    → Appends old new text × AppendsFront old new text
sends-kept old mid new text sent kept =
    let all = Appends-kept old mid new text sent kept in
    (all, subst (AppendsFront old new) (append-nil text) (front-sent old new text [] all))

-- what a call says that sent the text
module _ (old new : Option (List ℕ)) (text : List ℕ) where
  pub sent-front : (r : Result (Unit {0}) ExportFault) → Sends old new text r → OnErr r (AppendsFront old new text)
  sent-front (Ok x) h = tt
  sent-front (Err Memory) h = h
  sent-front (Err WriteFailed) h = h
  sent-front (Err Closed) h = absurd h
  sent-front (Err NoSuch) h = absurd h
