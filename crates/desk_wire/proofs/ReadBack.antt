-- The text of a value without floats, read again: a member that the value has once is read as it is.
use Rattle.std.proofs.Common.{◌≡◌, ◌∙◌, ◌⊎◌, inl, inr, ℕ, ◌+◌, List, [], ◌∷◌, ◌++◌, Bool, true, false, refl, sym, ap, subst, arith}
use Rattle.std.proofs.Common.{Ordering, Less, Equal, Greater, nat_cmp, is_eq, append-nil}
use Rattle.std.specs.Prelude.{Option, Some, None, option_and_then}
use Rattle.std.specs.Cmp.Lexicographic.{slice_cmp}
use Rattle.std.specs.Ordering.{match_ordering}
use Rattle.std.specs.Str.{bytes_eq}
use Rattle.std.proofs.lemmas.Bool.{false≢true, true≢false}
use Rattle.std.proofs.lemmas.Map.Text.{is_eq-slice_cmp}
use Rattle.std.proofs.lemmas.Slice.Eq.{bytes_eq-Decides}
use Rattle.json.specs.Token.{Token}
use Rattle.json.specs.Lex.{tokens}
use Rattle.json.specs.Json.{Json, if_last, value}
use Rattle.json.specs.Tree.{HasNumbers, depth, json_tokens}
use Rattle.json.proofs.Printed.Tokens.{tokens-print}
use Rattle.json.proofs.Printed.Trees.{ArePrintable-json_tokens, value-json_tokens}
use Rattle.json.proofs.Unique.Spelling.{value-json_tokens_back}
use Rattle.serde_json.specs.Data.{Data, Members, member, no_members, object, put, string}
use Rattle.serde_json.specs.Find.{get_member}
use Rattle.serde_json.specs.Read.{max_depth, of_json, of_members, read}
use Rattle.serde_json.specs.Written.{compact_text, members_outline, outline}
use Rattle.serde_json.proofs.Texts.{print-outline}
use Rattle.serde_json.proofs.Views.{get_member-put, get_member-put_other}

-- ---- the text as JSON

-- what is read of what JSON there is, where nothing follows
abbrev whole : Option (Json × List Token) → Option Data
whole o = option_and_then of_json (option_and_then (λ p. if_last p.0 p.1) o)

one_value : (i j : Json) → json_tokens i ≡ json_tokens j → i ≡ j
one_value i j e =
    let d = depth i + depth j in
    let a : value d (json_tokens i ++ []) ≡ Some (i, []) = value-json_tokens i d [] (omega arith) in
    let b : value d (json_tokens j ++ []) ≡ Some (j, []) = value-json_tokens j d [] (omega arith) in
    let both : ◌≡◌ {A = Option (Json × List Token)} (Some (i, [])) (Some (j, [])) = sym a ∙ ap (λ ts. value d (ts ++ [])) e ∙ b in
    let pair : ◌≡◌ {A = Json × List Token} (i, []) (j, []) = cc in
    ap (λ p. p.0) pair

-- what is read of the text of a value is made of the value itself
pub read_as : (d e : Data) → HasNumbers (outline d) → read (compact_text d) ≡ Some e → of_json (outline d) ≡ Some e
read_as d e numbers r = by (value max_depth (tokens (compact_text d))) refl r
  where
    written : tokens (compact_text d) ≡ json_tokens (outline d)
    written =
        ap tokens (sym (print-outline d))
        ∙ tokens-print (json_tokens (outline d)) (ArePrintable-json_tokens (outline d) numbers)

    by : (o : Option (Json × List Token)) → value max_depth (tokens (compact_text d)) ≡ o → whole o ≡ Some e
        → of_json (outline d) ≡ Some e
    by None v w = absurd (cc)
    by (Some (j, [])) v w =
        let back : tokens (compact_text d) ≡ json_tokens j =
        value-json_tokens_back max_depth (tokens (compact_text d)) [] j v ∙ append-nil (json_tokens j) in
        let same : outline d ≡ j = one_value (outline d) j (sym written ∙ back) in
        ap of_json same ∙ w
    by (Some (j, t ∷ more)) v w = absurd (cc)

-- ---- a member that always has one value

-- whatever member has the name has the value
abbrev pub IsAlways : List ℕ → Data → Members → Type 0
IsAlways k v no_members = Unit {0}
IsAlways k v (member l e ms) = (k ≡ l → e ≡ v) × IsAlways k v ms

pub always-put : (k l : List ℕ) (v d : Data) (ms : Members) → (k ≡ l → d ≡ v) → IsAlways k v ms
    → IsAlways k v (put l d ms)
always-put k l v d no_members h a = (h, tt)
always-put k l v d (member m e ms) h a = by (slice_cmp nat_cmp l m) refl (always-put k l v d ms h a.1)
  where
    by : (o : Ordering) → slice_cmp nat_cmp l m ≡ o → IsAlways k v (put l d ms)
        → IsAlways k v (match_ordering o (member l d (member m e ms)) (member m d ms) (member m e (put l d ms)))
    by Less is later = (h, a)
    by Equal is later =
        let same : l ≡ m = (bytes_eq-Decides l m).0 (sym (is_eq-slice_cmp l m) ∙ ap is_eq is) in
        (λ named. h (named ∙ sym same), a.1)
    by Greater is later = (a.0, later)

beside : (o : Ordering) (a b : Option Data) → is_eq o ≡ false → match_ordering o a b a ≡ a
beside Less a b e = refl
beside Equal a b e = absurd (true≢false e)
beside Greater a b e = refl

-- a member of another name is not the one
skipped : (k l : List ℕ) (d : Data) (ms : Members) → bytes_eq k l ≡ false
    → get_member k (member l d ms) ≡ get_member k ms
skipped k l d ms e = beside (slice_cmp nat_cmp k l) (get_member k ms) (Some d) (is_eq-slice_cmp k l ∙ e)

-- a text that always stands at a name, and stands there once at least, is read there
pub found_as : (k s : List ℕ) (ms found e : Members) → IsAlways k (string s) ms
    → (get_member k ms ≡ Some (string s)) ⊎ (get_member k found ≡ Some (string s))
    → of_members (members_outline ms) found ≡ Some e → get_member k e ≡ Some (string s)
found_as k s no_members found e a (inl there) r = absurd (cc)
found_as k s no_members found e a (inr there) r =
    let same : found ≡ e = cc in subst (λ ms. get_member k ms ≡ Some (string s)) same there
found_as k s (member l d ms) found e a there r = by (bytes_eq k l) refl (of_json (outline d)) refl (found_as k s ms) r
  where
    by : (c : Bool) → bytes_eq k l ≡ c → (o : Option Data) → of_json (outline d) ≡ o
        → ((found e : Members) → IsAlways k (string s) ms
        → (get_member k ms ≡ Some (string s)) ⊎ (get_member k found ≡ Some (string s))
        → of_members (members_outline ms) found ≡ Some e → get_member k e ≡ Some (string s))
        → option_and_then (λ x. of_members (members_outline ms) (put l x found)) o ≡ Some e
        → get_member k e ≡ Some (string s)
    by c named None is ih r = absurd (cc)
    by true named (Some x) is ih r =
        let same : k ≡ l = (bytes_eq-Decides k l).0 named in
        let text : Some (string s) ≡ Some x = ap (λ v. of_json (outline v)) (sym (a.0 same)) ∙ is in
        let value : string s ≡ x = cc in
        ih (put l x found) e a.1
        (inr (ap (λ m. get_member m (put l x found)) same ∙ get_member-put l x found ∙ ap Some (sym value))) r
    by false named (Some x) is ih r = ih (put l x found) e a.1 (still there) r
      where
        other : k ≡ l → ⊥
        other same = false≢true (sym named ∙ (bytes_eq-Decides k l).1 same)

        still : (get_member k (member l d ms) ≡ Some (string s)) ⊎ (get_member k found ≡ Some (string s))
            → (get_member k ms ≡ Some (string s)) ⊎ (get_member k (put l x found) ≡ Some (string s))
        still (inl here) = inl (sym (skipped k l d ms named) ∙ here)
        still (inr here) = inr (get_member-put_other k l x found other ∙ here)

-- so it is in the text of the object
pub text_found : (k s : List ℕ) (ms : Members) (e : Data) → HasNumbers (outline (object ms)) → IsAlways k (string s) ms
    → get_member k ms ≡ Some (string s) → read (compact_text (object ms)) ≡ Some e
    → (found : Members) × (e ≡ object found) × (get_member k found ≡ Some (string s))
text_found k s ms e numbers a there r =
    by (of_members (members_outline ms) no_members) refl (read_as (object ms) e numbers r)
  where
    by : (o : Option Members) → of_members (members_outline ms) no_members ≡ o
        → option_and_then (λ m. Some (object m)) o ≡ Some e
        → (found : Members) × (e ≡ object found) × (get_member k found ≡ Some (string s))
    by None is w = absurd (cc)
    by (Some found) is w =
        let same : object found ≡ e = cc in (found, sym same, found_as k s ms no_members found a (inl there) is)
