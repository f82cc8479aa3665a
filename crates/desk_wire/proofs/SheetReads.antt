-- A line of a sheet that is read.
use Rattle.std.proofs.Common.{◌≡◌, ◌∙◌, ◌||◌, inl, inr, ℕ, List, [], ◌∷◌, Bool, true, false, cond, map, codes, refl, sym, ap, subst, length}
use Rattle.std.specs.Prelude.{Option, Some, None, Result, Ok, Err, nat_le}
use Rattle.std.specs.Str.{bytes_eq, is_utf8}
use Rattle.std.proofs.lemmas.Bool.{cases_Bool, or_parts}
use Rattle.serde_json.specs.Data.{Data, Members, no_members, object, put, string}
use Rattle.serde_json.specs.Find.{as_object, get, get_member}
use Rattle.serde_json.specs.Read.{read}
use Rattle.serde_json.specs.View.{items_of}
use Rattle.serde_json.specs.Written.{compact_text, has_float}
use Rattle.serde_json.proofs.Views.{get_member-put}
use Rattle.word_core.specs.Day.{CivilDay}
use Rattle.word_core.specs.Forms.{is_among}
use Rattle.word_core.specs.declared.field.FieldKind.{FieldKind}
use Rattle.word_core.specs.declared.field.FieldKind.TheVariants as kind
use Rattle.desk_core.specs.Key.{is_key}
use Rattle.desk_core.specs.Naming.{Naming}
use Rattle.desk_core.specs.declared.command.Command.{Command}
use Rattle.desk_core.specs.declared.command.Request.{Request as Req}
use Rattle.desk_wire.specs.declared.fault.What.{What}
use Rattle.desk_wire.specs.declared.fault.What.TheVariants.{BadKey, NotJson, NotObject, TooLong, WrongType}
use Rattle.desk_wire.specs.declared.read.Wish.{Wish}
use Rattle.desk_wire.specs.declared.read.Wish.TheVariants.{Request}
use Rattle.desk_wire.specs.Fields.{key_in}
use Rattle.desk_wire.specs.Numbers.{is_number, number_in}
use Rattle.desk_wire.specs.Reading.{is_report, line, object_of, report_of, request_of, wish_of}
use Rattle.desk_wire.specs.Records.{Fields}
use Rattle.desk_wire.specs.RowWords.{is_json, json_of}
use Rattle.desk_wire.specs.SheetLaws.{AsksUnder, LinesAskUnderKeys}
use Rattle.desk_wire.specs.Sheets.{FieldPlace, SheetColumns, cell, is_given, json_or_text, key_of, line_data, number_or_text}
use Rattle.desk_wire.specs.Sheets.{or_else, row_or_text, value_of, with_cells, words_from, yes_or_text}
use Rattle.desk_wire.specs.Steps.{◌>>=◌, maybe, must, or_fault}
use Rattle.desk_wire.specs.Values.{parsed}
use Rattle.desk_wire.specs.Values.{key_of as read_key}
use Rattle.desk_wire.proofs.Numbers.{digits_value-small, number_digits}
use Rattle.desk_wire.proofs.ReadBack.{IsAlways, always-put, text_found}
use Rattle.desk_wire.proofs.SheetKeys.{beside-cells, other_name}
use Rattle.desk_wire.proofs.WholeValues.{ItemsFit, NumbersFit, has_numbers, put-fits, whole_fits}

-- ---- steps that went well

bound : {A B E : Type 0} (r : Result A E) (f : A → Result B E) (b : B) → (r >>= f) ≡ Ok b → (a : A) × (r ≡ Ok a) × (f a ≡ Ok b)
bound (Ok a) f b e = (a, refl, e)
bound (Err x) f b e = absurd (cc)

was_some : {A E : Type 0} (fault : E) (o : Option A) (a : A) → or_fault fault o ≡ Ok a → o ≡ Some a
was_some fault None a e = absurd (cc)
was_some fault (Some x) a e = let same : x ≡ a = cc in ap Some same

parsed_read : (text : List ℕ) (d : Data) → parsed text ≡ Some d → read text ≡ Some d
parsed_read text d e = by (is_utf8 text) e
  where
    by : (c : Bool) → cond c (read text) None ≡ Some d → read text ≡ Some d
    by true e = e
    by false e = absurd (cc)

-- ---- numbers in cells fit

number-fits : (text : List ℕ) → NumbersFit (number_or_text text)
number-fits text = by (is_number 19 text) refl
  where
    by : (c : Bool) → is_number 19 text ≡ c → NumbersFit (number_or_text text)
    by true e =
        let n = number_digits 19 text e in
        rw e (digits_value-small text n.digits n.few)
    by false e = rw e tt

json-read : (text : List ℕ) (d : Data) → json_of text ≡ Ok d → read text ≡ Some d
json-read text d e =
    let (fits, within, rest) = bound (must WrongType (nat_le (length text) 65536)) (λ fits. or_fault WrongType (parsed text)) d e in
    parsed_read text d (was_some WrongType (parsed text) d rest)

json-by : (text : List ℕ) (r : Result Data What) → is_json text ≡ true → json_of text ≡ r → NumbersFit (json_or_text text)
json-by text (Err what) is e = rw (is, e) tt
json-by text (Ok d) is e = elim (cases_Bool (has_float d)) [
  | inl t ↦ rw (is, e, t) tt
  | inr f ↦ rw (is, e, f) (whole_fits text d (json-read text d e) f)
]

json-fits : (text : List ℕ) → NumbersFit (json_or_text text)
json-fits text = elim (cases_Bool (is_json text)) [
  | inl t ↦ json-by text (json_of text) t refl
  | inr f ↦ rw f tt
]

row-fits : (text : List ℕ) (o : Option ℕ) → number_in text ≡ o → NumbersFit (row_or_text text)
row-fits text None e = rw e (json-fits text)
row-fits text (Some n) e = subst NumbersFit (sym (by n e)) (number-fits text)
  where
    by : (m : ℕ) → number_in text ≡ Some m → row_or_text text ≡ number_or_text text
    by m q = rw q refl

yes-fits : (text : List ℕ) → NumbersFit (yes_or_text text)
yes-fits text = elim (cases_Bool (bytes_eq text (codes "yes") || bytes_eq text (codes "true"))) [
  | inl t ↦ rw t tt
  | inr f ↦ elim (cases_Bool (bytes_eq text (codes "no") || bytes_eq text (codes "false"))) [
    | inl t ↦ rw (f, t) tt
    | inr g ↦ rw (f, g) tt
  ]
]

texts-fit : (ts : List (List ℕ)) → ItemsFit (items_of (map string ts))
texts-fit [] = tt
texts-fit (t ∷ ts) = (tt, texts-fit ts)

value-fits : (k : FieldKind) (text : List ℕ) → NumbersFit (value_of k text)
value-fits kind.Number text = number-fits text
value-fits (kind.Row table) text = row-fits text (number_in text) refl
value-fits (kind.MaybeRow table) text = row-fits text (number_in text) refl
value-fits (kind.Rows table) text = json-fits text
value-fits kind.Yes text = yes-fits text
value-fits kind.Flags text = texts-fit (words_from [] text)
value-fits kind.Text text = tt
value-fits kind.MaybeText text = tt
value-fits kind.Status text = tt
value-fits kind.Side text = tt
value-fits kind.Serials text = tt
value-fits kind.MaybeSerials text = tt

-- ---- the members of a record

cells-fit : (places : List FieldPlace) (fields : Fields) (ms : Members) → NumbersFit (object ms)
    → NumbersFit (object (with_cells places fields ms))
cells-fit [] fields ms h = h
cells-fit (f ∷ fs) fields ms h = elim (cases_Bool (is_given f.kind (cell f.place fields))) [
  | inl t ↦ rw t
      (cells-fit fs fields (put f.name (value_of f.kind (cell f.place fields)) ms)
      (put-fits f.name (value_of f.kind (cell f.place fields)) ms (value-fits f.kind (cell f.place fields)) h))
  | inr g ↦ rw g (cells-fit fs fields ms h)
]

cells-always : (name : List ℕ) (v : Data) (places : List FieldPlace) (fields : Fields) (ms : Members)
    → is_among name (map (λ f. f.name) places) ≡ false → IsAlways name v ms
    → IsAlways name v (with_cells places fields ms)
cells-always name v [] fields ms h a = a
cells-always name v (f ∷ fs) fields ms h a =
    let parts = or_parts (bytes_eq name f.name) (is_among name (map (λ f. f.name) fs)) h in
    elim (cases_Bool (is_given f.kind (cell f.place fields))) [
      | inl t ↦ rw t
          (cells-always name v fs fields (put f.name (value_of f.kind (cell f.place fields)) ms) parts.1
          (always-put name f.name v (value_of f.kind (cell f.place fields)) ms
          (λ same. absurd (other_name name f.name parts.0 same)) a))
      | inr g ↦ rw g (cells-always name v fs fields ms parts.1 a)
    ]

-- what each record has before its cells
abbrev start : List ℕ → List ℕ → List ℕ → Members
start verb day key =
    put (codes "key") (string key) (put (codes "day") (string day) (put (codes "do") (string verb) no_members))

start-fits : (verb day key : List ℕ) → NumbersFit (object (start verb day key))
start-fits verb day key = (tt, (tt, (tt, tt)))

start-key : (verb day key : List ℕ) → IsAlways (codes "key") (string key) (start verb day key)
start-key verb day key =
    always-put (codes "key") (codes "key") (string key) (string key)
    (put (codes "day") (string day) (put (codes "do") (string verb) no_members)) (λ same. refl)
    (always-put (codes "key") (codes "day") (string key) (string day) (put (codes "do") (string verb) no_members)
    (λ same. absurd (other_name (codes "key") (codes "day") refl same))
    (always-put (codes "key") (codes "do") (string key) (string verb) no_members
    (λ same. absurd (other_name (codes "key") (codes "do") refl same)) tt))

start-do : (verb day key : List ℕ) → IsAlways (codes "do") (string verb) (start verb day key)
start-do verb day key =
    always-put (codes "do") (codes "key") (string verb) (string key)
    (put (codes "day") (string day) (put (codes "do") (string verb) no_members))
    (λ same. absurd (other_name (codes "do") (codes "key") refl same))
    (always-put (codes "do") (codes "day") (string verb) (string day) (put (codes "do") (string verb) no_members)
    (λ same. absurd (other_name (codes "do") (codes "day") refl same))
    (always-put (codes "do") (codes "do") (string verb) (string verb) no_members (λ same. refl) tt))

do-there : (verb day key : List ℕ) → get_member (codes "do") (start verb day key) ≡ Some (string verb)
do-there verb day key = refl

-- ---- a record's line, as an object

abbrev day_of_record : List ℕ → SheetColumns → Fields → List ℕ
day_of_record told columns fields = or_else (cell columns.day fields) told

pub line_fits : (verb document told : List ℕ) (columns : SheetColumns) (n : ℕ) (fields : Fields)
    → NumbersFit (line_data verb document told columns n fields)
unfolding line_data
line_fits verb document told columns n fields =
    let key = key_of verb document columns n fields in
    cells-fit columns.fields fields (start verb (day_of_record told columns fields) key)
    (start-fits verb (day_of_record told columns fields) key)

-- what stands at a name that no field has is read there
text_read : (name s : List ℕ) (verb document told : List ℕ) (columns : SheetColumns) (n : ℕ) (fields : Fields) (e : Data)
    → is_among name (map (λ f. f.name) columns.fields) ≡ false
    → IsAlways name (string s) (start verb (day_of_record told columns fields) (key_of verb document columns n fields))
    → get_member name (start verb (day_of_record told columns fields) (key_of verb document columns n fields))
    ≡ Some (string s)
    → read (compact_text (line_data verb document told columns n fields)) ≡ Some e → get name e ≡ Some (string s)
unfolding line_data
text_read name s verb document told columns n fields e h a there r =
    let key = key_of verb document columns n fields in
    let first = start verb (day_of_record told columns fields) key in
    let (found, is, at) =
    text_found name s (with_cells columns.fields fields first) e
    (has_numbers (object (with_cells columns.fields fields first))
    (cells-fit columns.fields fields first (start-fits verb (day_of_record told columns fields) key)))
    (cells-always name (string s) columns.fields fields first h a)
    (beside-cells name columns.fields fields first h ∙ there) r in
    ap (get name) is ∙ at

-- ---- what a line is read as

read_line : (names : Option Naming) (bytes : List ℕ) (wish : Wish) → line names bytes ≡ Ok wish
    → (d : Data) × (read bytes ≡ Some d) × (wish_of names d ≡ Ok wish)
read_line names bytes wish e =
    let (d, object_is, wished) = bound (object_of bytes) (wish_of names) wish e in
    let (fits, within, rest) =
    bound (must TooLong (nat_le (length bytes) 65536))
    (λ fits. or_fault NotJson (parsed bytes) >>= (λ d. or_fault NotObject (as_object d) >>= (λ members. Ok d))) d object_is in
    let (read_as, parsed_is, last) =
    bound (or_fault NotJson (parsed bytes)) (λ d. or_fault NotObject (as_object d) >>= (λ members. Ok d)) d rest in
    let (members, has, same) = bound (or_fault NotObject (as_object read_as)) (λ members. Ok read_as) d last in
    let is : read_as ≡ d = cc in
    (d, parsed_read bytes d (was_some NotJson (parsed bytes) read_as parsed_is ∙ ap Some is), wished)

abbrev made : Option (List ℕ) → CivilDay → Command → Req
made key day command = record { key = key; day = day; command = command }

-- the key that a request has is the one that was read
key_told : {A : Type 0} (form : Result A What) (key : Result (Option (List ℕ)) What) (day : Result CivilDay What)
    (command : A → Result Command What) (r : Req)
    → (form >>= (λ f. key >>= (λ k. day >>= (λ d. command f >>= (λ c. Ok (made k d c)))))) ≡ Ok r → key ≡ Ok r.key
key_told (Err what) key day command r e = absurd (cc)
key_told (Ok f) (Err what) day command r e = absurd (cc)
key_told (Ok f) (Ok k) (Err what) command r e = absurd (cc)
key_told (Ok f) (Ok k) (Ok d) command r e = by (command f) e
  where
    by : (o : Result Command What) → (o >>= (λ c. Ok (made k d c))) ≡ Ok r
        → ◌≡◌ {A = Result (Option (List ℕ)) What} (Ok k) (Ok r.key)
    by (Err what) q = absurd (cc)
    by (Ok c) q = let same : made k d c ≡ r = cc in ap (λ (q : Req). Ok q.key) same

requested : (names : Option Naming) (d : Data) (key : List ℕ) (r : Req) → request_of names d ≡ Ok r
    → get (codes "key") d ≡ Some (string key) → r.key ≡ Some key
requested names d key r e at =
    let told : maybe read_key (Some (string key)) ≡ Ok r.key = ap (maybe read_key) (sym at) ∙ key_told _ (key_in d) _ _ r e in
    let (k, key_is, last) = bound (read_key (string key)) (λ y. Ok (Some y)) r.key told in
    let (fits, fine, end) = bound (must BadKey (is_key key)) (λ fits. Ok key) k key_is in
    cc

wished : (names : Option Naming) (d : Data) (verb key : List ℕ) (wish : Wish) → wish_of names d ≡ Ok wish
    → get (codes "do") d ≡ Some (string verb) → get (codes "key") d ≡ Some (string key) → AsksUnder key wish
wished names d verb key wish e do_at key_at =
    let plain : is_report d ≡ false = rw do_at refl in
    let asks : (request_of names d >>= (λ r. Ok (Request r))) ≡ Ok wish =
    sym (ap (λ c. cond c (report_of names d) (request_of names d >>= (λ r. Ok (Request r)))) plain) ∙ e in
    let (r, request_is, same) = bound (request_of names d) (λ r. Ok (Request r)) wish asks in
    let is : Request r ≡ wish = cc in
    subst (AsksUnder key) is (requested names d key r request_is key_at)

pub lines_ask_under_keys : LinesAskUnderKeys
lines_ask_under_keys names verb document told columns n fields wish no_do no_key e =
    let day = day_of_record told columns fields in
    let key = key_of verb document columns n fields in
    let (d, read_is, wish_is) = read_line names (compact_text (line_data verb document told columns n fields)) wish e in
    wished names d verb key wish wish_is
    (text_read (codes "do") verb verb document told columns n fields d no_do (start-do verb day key)
    (do-there verb day key) read_is)
    (text_read (codes "key") key verb document told columns n fields d no_key (start-key verb day key)
    (get_member-put (codes "key") (string key)
    (put (codes "day") (string day) (put (codes "do") (string verb) no_members))) read_is)
