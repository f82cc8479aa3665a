-- The data of filled forms: their numbers are whole, and they nest no deeper than a list in an object.
use Rattle.std.proofs.Common.{◌≡◌, ℕ, ◌≤◌, List, [], ◌∷◌, map, refl, arith, lit≤}
use Rattle.std.specs.Prelude.{Some, None}
use Rattle.std.proofs.Common.{Ordering, Less, Equal, Greater, nat_cmp}
use Rattle.std.specs.Ordering.{match_ordering}
use Rattle.std.specs.Cmp.Lexicographic.{slice_cmp}
use Rattle.json.specs.Tree.{depth, items_depth, members_depth}
use Rattle.serde_json.specs.Data.{Data, string, array, object, Members, no_members, member, put}
use Rattle.serde_json.specs.View.{items_of}
use Rattle.serde_json.specs.Written.{outline, items_outline, members_outline}
use Rattle.word_core.specs.declared.field.Field.{Field}
use Rattle.word_core.specs.declared.field.Field.TheVariants as field
use Rattle.word_core.specs.Flags.{flag_words}
use Rattle.word_core.specs.Forms.{Blanks}
use Rattle.desk_core.specs.DataOf.{whole, data_of}
use Rattle.desk_core.specs.CommandText.{with_fields, AreFit, FieldFits, FieldsFit}
use Rattle.desk_core.proofs.Plain.{IsPlain, ArePlain, HavePlain}

-- ---- of each member

abbrev AllMembers : (Data → Type 0) → Members → Type 0
AllMembers P no_members = Unit {0}
AllMembers P (member k d ms) = P d × AllMembers P ms

-- putting a member keeps what holds of each
all_put : (P : Data → Type 0) (k : List ℕ) (d : Data) (ms : Members) → P d → AllMembers P ms → AllMembers P (put k d ms)
all_put P k d no_members p h = (p, tt)
all_put P k d (member l e ms) p h = go (slice_cmp nat_cmp k l) (all_put P k d ms p h.1)
  where
    go : (o : Ordering) → AllMembers P (put k d ms)
        → AllMembers P (match_ordering o (member k d (member l e ms)) (member l d ms) (member l e (put k d ms)))
    go Less later = (p, h)
    go Equal later = (p, h.1)
    go Greater later = (h.0, later)

all_fields : (P : Data → Type 0) (fs : Blanks) (xs : List Field) (ms : Members)
    → ((x : Field) → FieldFits x → P (data_of x)) → FieldsFit xs → AllMembers P ms → AllMembers P (with_fields fs xs ms)
all_fields P [] xs ms p f h = h
all_fields P (b ∷ fs) [] ms p f h = h
all_fields P (b ∷ fs) (x ∷ xs) ms p f h =
    all_fields P fs xs (put b.0 (data_of x) ms) p f.1 (all_put P b.0 (data_of x) ms (p x f.0) h)

-- ---- whole numbers

wholes_plain : (ns : List ℕ) → AreFit ns → ArePlain (items_of (map whole ns))
wholes_plain [] h = tt
wholes_plain (n ∷ ns) h = (h.0, wholes_plain ns h.1)

strings_plain : (ts : List (List ℕ)) → ArePlain (items_of (map string ts))
strings_plain [] = tt
strings_plain (t ∷ ts) = (tt, strings_plain ts)

field_plain : (x : Field) → FieldFits x → IsPlain (data_of x)
field_plain (field.Number n) h = h
field_plain (field.MaybeNumber None) h = tt
field_plain (field.MaybeNumber (Some n)) h = h
field_plain (field.Text t) h = tt
field_plain (field.Yes b) h = tt
field_plain (field.Flags f) h = strings_plain (flag_words f)
field_plain (field.Status s) h = tt
field_plain (field.Side s) h = tt
field_plain (field.Serials ts) h = strings_plain ts
field_plain (field.MaybeSerials None) h = tt
field_plain (field.MaybeSerials (Some ts)) h = strings_plain ts
field_plain (field.MaybeText None) h = tt
field_plain (field.MaybeText (Some b)) h = tt
field_plain (field.Numbers ns) h = wholes_plain ns h

have_plain : (ms : Members) → AllMembers IsPlain ms → HavePlain ms
have_plain no_members h = tt
have_plain (member k d ms) h = (h.0, have_plain ms h.1)

pub members_plain : (fs : Blanks) (xs : List Field) (ms : Members) → FieldsFit xs → HavePlain ms
    → HavePlain (with_fields fs xs ms)
members_plain fs xs ms f h = have_plain _ (all_fields IsPlain fs xs ms field_plain f (back ms h))
  where
    back : (ms : Members) → HavePlain ms → AllMembers IsPlain ms
    back no_members h = tt
    back (member k d ms) h = (h.0, back ms h.1)

-- ---- depth

flat_wholes : (ns : List ℕ) → items_depth (items_outline (items_of (map whole ns))) ≡ 0
flat_wholes [] = refl
flat_wholes (n ∷ ns) = rw (flat_wholes ns) refl

flat_strings : (ts : List (List ℕ)) → items_depth (items_outline (items_of (map string ts))) ≡ 0
flat_strings [] = refl
flat_strings (t ∷ ts) = rw (flat_strings ts) refl

abbrev IsShallow : Data → Type 0
IsShallow d = depth (outline d) ≤ 1

strings_shallow : (ts : List (List ℕ)) → IsShallow (array (items_of (map string ts)))
strings_shallow ts = rw (flat_strings ts) (lit≤ tt)

field_shallow : (x : Field) → IsShallow (data_of x)
field_shallow (field.Number n) = lit≤ tt
field_shallow (field.MaybeNumber None) = lit≤ tt
field_shallow (field.MaybeNumber (Some n)) = lit≤ tt
field_shallow (field.Text t) = lit≤ tt
field_shallow (field.Yes b) = lit≤ tt
field_shallow (field.Flags f) = strings_shallow (flag_words f)
field_shallow (field.Status s) = lit≤ tt
field_shallow (field.Side s) = lit≤ tt
field_shallow (field.Serials ts) = strings_shallow ts
field_shallow (field.MaybeSerials None) = lit≤ tt
field_shallow (field.MaybeSerials (Some ts)) = strings_shallow ts
field_shallow (field.MaybeText None) = lit≤ tt
field_shallow (field.MaybeText (Some b)) = lit≤ tt
field_shallow (field.Numbers ns) = rw (flat_wholes ns) (lit≤ tt)

shallow_put : (fs : Blanks) (xs : List Field) (ms : Members) → AllMembers IsShallow ms
    → AllMembers IsShallow (with_fields fs xs ms)
shallow_put [] xs ms h = h
shallow_put (b ∷ fs) [] ms h = h
shallow_put (b ∷ fs) (x ∷ xs) ms h =
    shallow_put fs xs (put b.0 (data_of x) ms) (all_put IsShallow b.0 (data_of x) ms (field_shallow x) h)

have_shallow : (ms : Members) → AllMembers IsShallow ms → members_depth (members_outline ms) ≤ 1
have_shallow no_members h = lit≤ tt
have_shallow (member k d ms) h = omega (arith, h.0, have_shallow ms h.1)

pub object_shallow : (fs : Blanks) (xs : List Field) (name verb : List ℕ)
    → depth (outline (object (with_fields fs xs (put name (string verb) no_members)))) ≤ 128
object_shallow fs xs name verb =
    omega (arith, have_shallow _ (shallow_put fs xs (put name (string verb) no_members) (lit≤ tt, tt)))
