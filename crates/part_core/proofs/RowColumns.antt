-- The columns from which a row was read are the row's.
use Rattle.std.proofs.Common.{◌≡◌, ℕ, Bool, true, false, List, Option, Some, None, refl, sym, ap, ◌∙◌, arith}
use Rattle.std.specs.Prelude.{slice_get, ◌==◌, nat_lt, if◌then◌else◌}
use Rattle.std.proofs.lemmas.Bool.{eqb-true, ltb-true, lt-ltb}
use Rattle.part_core.specs.declared.part.Part.{Part}
use Rattle.word_core.specs.declared.flags.Flags.{Flags}
use Rattle.sheet_core.specs.declared.column.Column.{Column}
use Rattle.sheet_core.specs.declared.column.Column.TheVariants.{Whole}
use Rattle.sheet_core.specs.Columns.{has, is_bit, number_at, number_or_none_at, yes_at}
use Rattle.part_core.specs.TextColumns.{row_text_at}
use Rattle.part_core.specs.NamedRows.{named_columns}
use Rattle.part_core.specs.PartColumns.{part_columns, part_from, flags_at, flags_number, flags_of, flags_of_bits}
use Rattle.word_core.specs.Text.{is_text}
use Rattle.sheet_core.proofs.ColumnLemmas.{absent-read, below, bit-is, bound, found, has-is}
use Rattle.sheet_core.proofs.ColumnLemmas.{number_at-is, number_or_none_at-is}
use Rattle.part_core.proofs.TextColumns.{row_text_at-is}
use Rattle.sheet_core.proofs.ColumnLemmas.{yes_at-is, same_columns, yes-small, yes_of-number}

-- those of a row with a name and a parent
pub named_told : (cs : List Column) (number : ℕ) (name : List ℕ) (parent : Option ℕ)
    → has 3 cs ≡ Some tt → number_at 0 cs ≡ Some number → row_text_at 1 cs ≡ Some name
    → number_or_none_at 2 cs ≡ Some parent
    → named_columns (record { number = number; name = name; parent = parent }) ≡ cs
named_told cs number name parent all c0 c1 c2 =
    same_columns cs (named_columns (record { number = number; name = name; parent = parent })) (has-is 3 cs tt all)
    (number_at-is 0 cs number c0, (row_text_at-is 1 cs name c1, (number_or_none_at-is 2 cs parent c2, tt)))

-- each number of flags is that of its flags
flags-tell : (n : ℕ) (f : Flags) → flags_of n ≡ Some f → n ≡ flags_number f
flags-tell n f = told (nat_lt n 128) refl
  where
    told : (b : Bool) → nat_lt n 128 ≡ b → (if b then Some (flags_of_bits n) else None) ≡ Some f → n ≡ flags_number f
    told true less e =
        sym (eqb-true (flags_number (flags_of_bits n)) n
        (below 128 (λ k. flags_number (flags_of_bits k) == k) refl n (ltb-true n 128 less)))
        ∙ sym (found flags_number (flags_of_bits n) f e)
    told false less e = cc

-- flags are those of their number
flags_read : (f : Flags) → flags_of (flags_number f) ≡ Some f
flags_read f =
    let n = flags_number f in
    let t = yes-small f.template in
    let a = yes-small f.assembly in
    let c = yes-small f.component in
    let k = yes-small f.trackable in
    let p = yes-small f.purchaseable in
    let s = yes-small f.salable in
    let v = yes-small f.is_virtual in
    let template = bit-is 1 n f.template (omega (arith, t, a, c, k, p, s, v)) in
    let assembly = bit-is 2 n f.assembly (omega (arith, t, a, c, k, p, s, v)) in
    let component = bit-is 4 n f.component (omega (arith, t, a, c, k, p, s, v)) in
    let trackable = bit-is 8 n f.trackable (omega (arith, t, a, c, k, p, s, v)) in
    let purchaseable = bit-is 16 n f.purchaseable (omega (arith, t, a, c, k, p, s, v)) in
    let salable = bit-is 32 n f.salable (omega (arith, t, a, c, k, p, s, v)) in
    let is_virtual = bit-is 64 n f.is_virtual (omega (arith, t, a, c, k, p, s, v)) in
    ap (λ b. if b then Some (flags_of_bits n) else None) (lt-ltb n 128 (omega (arith, t, a, c, k, p, s, v)))
    ∙ ap (λ b. Some (record (flags_of_bits n) { template = b })) template
    ∙ ap (λ b. Some (record (flags_of_bits n) { template = f.template; assembly = b })) assembly
    ∙ ap (λ b. Some (record (flags_of_bits n) { template = f.template; assembly = f.assembly; component = b }))
    component
    ∙ ap (λ b.
    Some (record f { trackable = b; purchaseable = is_bit 16 n; salable = is_bit 32 n; is_virtual = is_bit 64 n }))
    trackable
    ∙ ap (λ b. Some (record f { purchaseable = b; salable = is_bit 32 n; is_virtual = is_bit 64 n })) purchaseable
    ∙ ap (λ b. Some (record f { salable = b; is_virtual = is_bit 64 n })) salable
    ∙ ap (λ b. Some (record f { is_virtual = b })) is_virtual

flags_at-is : (i : ℕ) (cs : List Column) (f : Flags) → flags_at i cs ≡ Some f
    → slice_get cs i ≡ Some (Whole (flags_number f))
flags_at-is i cs f e =
    let code = bound (number_at i cs) flags_of f e in
    number_at-is i cs code.0 code.1 ∙ ap (λ (n : ℕ). Some (Whole n)) (flags-tell code.0 f code.2)

pub part_told :
    (cs : List Column) (number : ℕ) (name : List ℕ) (category template : Option ℕ) (flags : Flags) (retired : Bool)
    → has 6 cs ≡ Some tt → number_at 0 cs ≡ Some number → row_text_at 1 cs ≡ Some name
    → number_or_none_at 2 cs ≡ Some category → number_or_none_at 3 cs ≡ Some template
    → flags_at 4 cs ≡ Some flags → yes_at 5 cs ≡ Some retired
    → part_columns (record {
      number = number;
      name = name;
      category = category;
      template = template;
      flags = flags;
      retired = retired;
    }) ≡ cs
part_told cs number name category template flags retired all c0 c1 c2 c3 c4 c5 =
    let one : Part = record {
      number = number;
      name = name;
      category = category;
      template = template;
      flags = flags;
      retired = retired;
    } in
    same_columns cs (part_columns one) (has-is 6 cs tt all) (
      number_at-is 0 cs number c0,
      (
        row_text_at-is 1 cs name c1,
        (
          number_or_none_at-is 2 cs category c2,
          (number_or_none_at-is 3 cs template c3, (flags_at-is 4 cs flags c4, (yes_at-is 5 cs retired c5, tt))),
        ),
      ),
    )

pub part_read : (row : Part) → is_text row.name ≡ true → part_from (part_columns row) ≡ Some row
part_read row fits =
    rw (fits, absent-read row.category, absent-read row.template, flags_read row.flags, yes_of-number row.retired) refl
