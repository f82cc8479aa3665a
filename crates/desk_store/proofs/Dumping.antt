-- A dump, as it is written.
use Rattle.std.proofs.Common.{◌≡◌, ◌∙◌, ℕ, List, [], ◌++◌, append_assoc, append-nil, ap, codes, refl, subst, Err}
use Rattle.std.specs.Prelude.{Option}
use Rattle.std.specs.Io.KnownBytes.{Appends, Keeps}
use Rattle.std.proofs.KnownBytes.{Appends-trans}
use Rattle.table_store.specs.Schema.{all_names}
use Rattle.desk_core.specs.Machine.{State}
use Rattle.desk_store.specs.Dumps.{dump_text, tables_lines}
use Rattle.desk_store.specs.Exports.{AppendsFront, Sends}
use Rattle.desk_store.specs.declared.export.ExportFault.{ExportFault}
use Rattle.desk_store.specs.declared.export.ExportFault.TheVariants.{Memory, Closed, NoSuch, WriteFailed}
use Rattle.desk_store.proofs.Exporting.{sends-front, sends-kept}
use Rattle.desk_store.proofs.Sent.{front-first, front-then}

module _ (s : State) where
  abbrev first : List ℕ
  first = codes "BEGIN;\n"

  abbrev tables : List ℕ
  tables = tables_lines all_names s

  abbrev last : List ℕ
  last = codes "COMMIT;\n"

  is_dump : first ++ (tables ++ last) ≡ dump_text s
  unfolding dump_text
  is_dump = refl

  pub begin-fails : (a b : Option (List ℕ)) → AppendsFront a b first → AppendsFront a b (dump_text s)
  begin-fails a b h = subst (AppendsFront a b) is_dump (front-first a b first (tables ++ last) h)

  pub tables-fail : (a b d : Option (List ℕ)) (fault : ExportFault) → Appends a b first → Sends b d tables (Err fault)
      → Sends a d (dump_text s) (Err fault)
  tables-fail a b d fault p h =
      sends-front a b d tables (dump_text s) fault h
      (λ front. subst (AppendsFront a d) is_dump (front-then a b d first tables last p front))

  -- what is written before the last line
  before : (a b d : Option (List ℕ)) → Appends a b first → Appends b d tables → Appends a d (first ++ tables)
  before a b d p q = Appends-trans a b d first tables p q

  same : (first ++ tables) ++ last ≡ dump_text s
  same = append_assoc first tables last ∙ is_dump

  pub commit-fails : (a b d e : Option (List ℕ)) → Appends a b first → Appends b d tables → AppendsFront d e last
      → AppendsFront a e (dump_text s)
  commit-fails a b d e p q h =
      subst (AppendsFront a e) (ap (λ l. (first ++ tables) ++ l) (append-nil last) ∙ same)
      (front-then a d e (first ++ tables) last [] (before a b d p q) h)

  pub dump-kept : (a b d e f : Option (List ℕ)) → Appends a b first → Appends b d tables → Appends d e last → Keeps e f
      → Appends a f (dump_text s) × AppendsFront a f (dump_text s)
  dump-kept a b d e f p q r kept =
      sends-kept a e f (dump_text s)
      (subst (Appends a e) same (Appends-trans a d e (first ++ tables) last (before a b d p q) r)) kept
