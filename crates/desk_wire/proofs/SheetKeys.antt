-- The keys of records.
use Rattle.std.proofs.Common.{◌≡◌, ◌≢◌, ◌∙◌, ℕ, ◌<◌, ◌^◌, ◌++◌, false, List, [], ◌∷◌, map, codes, refl, sym, inl, inr}
use Rattle.std.specs.Prelude.{decimal}
use Rattle.std.specs.Str.{bytes_eq}
use Rattle.std.proofs.lemmas.Bool.{cases_Bool, or_parts, false≢true, true≢false}
use Rattle.std.proofs.lemmas.Fmt.{decimal_injective}
use Rattle.std.proofs.lemmas.List.{append_cancel_left}
use Rattle.std.proofs.lemmas.Slice.Eq.{bytes_eq-Decides}
use Rattle.serde_json.specs.Data.{Members, no_members, put, string}
use Rattle.serde_json.specs.Find.{get_member}
use Rattle.serde_json.proofs.Views.{get_member-put, get_member-put_other}
use Rattle.word_core.specs.Forms.{is_among}
use Rattle.desk_wire.specs.Records.{Fields}
use Rattle.desk_wire.specs.Sheets.{FieldPlace, cell, is_given, key_of, line_data, number_told, or_else}
use Rattle.desk_wire.specs.Sheets.{value_of, with_cells}
use Rattle.desk_wire.specs.SheetLaws.{KeysTellRecords, RecordsHaveKeys, begins_as_place}

pub other_name : (name field : List ℕ) → bytes_eq name field ≡ false → name ≢ field
other_name name field h = λ e. false≢true (sym h ∙ (bytes_eq-Decides name field).1 e)

-- cells leave a member of another name
pub beside-cells : (name : List ℕ) (places : List FieldPlace) (fields : Fields) (ms : Members)
    → is_among name (map (λ f. f.name) places) ≡ false
    → get_member name (with_cells places fields ms) ≡ get_member name ms
beside-cells name [] fields ms h = refl
beside-cells name (f ∷ fs) fields ms h =
    let parts = or_parts (bytes_eq name f.name) (is_among name (map (λ f. f.name) fs)) h in
    elim (cases_Bool (is_given f.kind (cell f.place fields))) [
      | inl t ↦ rw t
          (beside-cells name fs fields (put f.name (value_of f.kind (cell f.place fields)) ms) parts.1
          ∙ get_member-put_other name f.name (value_of f.kind (cell f.place fields)) ms (other_name name f.name parts.0))
      | inr g ↦ rw g (beside-cells name fs fields ms parts.1)
    ]

pub records_have_keys : RecordsHaveKeys
unfolding line_data
records_have_keys verb document told columns n fields h =
    let others =
    put (codes "day") (string (or_else (cell columns.day fields) told)) (put (codes "do") (string verb) no_members) in
    let key = string (key_of verb document columns n fields) in
    beside-cells (codes "key") columns.fields fields (put (codes "key") key others) h
    ∙ get_member-put (codes "key") key others

-- two such numbers are one
numbers-told : (a b : List ℕ) (m n : ℕ) → m < 2 ^ 64 → n < 2 ^ 64 → begins_as_place a ≡ false → begins_as_place b ≡ false
    → or_else a (codes "@" ++ decimal m) ≡ or_else b (codes "@" ++ decimal n) → (a ≡ b) × (a ≡ [] → m ≡ n)
numbers-told [] [] m n hm hn pa pb e =
    let same : decimal m ≡ decimal n = cc in (refl, λ _. decimal_injective m n hm hn same)
numbers-told [] (b ∷ bs) m n hm hn pa pb e = let first : 64 ≡ b = cc in absurd (true≢false (rw (← first) at pb))
numbers-told (a ∷ more) [] m n hm hn pa pb e = let first : 64 ≡ a = cc in absurd (true≢false (rw (← first) at pa))
numbers-told (a ∷ more) (b ∷ bs) m n hm hn pa pb e = (e, λ h. absurd (cc))

pub keys_tell_records : KeysTellRecords
keys_tell_records verb document columns m n a b hm hn ia ib same =
    let left : key_of verb document columns m a ≡ verb ++ codes "/" ++ document ++ codes "/" ++ number_told columns m a =
    rw ia.no_key refl in
    let right : key_of verb document columns n b ≡ verb ++ codes "/" ++ document ++ codes "/" ++ number_told columns n b =
    rw ib.no_key refl in
    numbers-told (cell columns.number a) (cell columns.number b) m n hm hn ia.number ib.number
    (append_cancel_left (verb ++ codes "/" ++ document ++ codes "/") (number_told columns m a) (number_told columns n b)
    (sym left ∙ same ∙ right))
