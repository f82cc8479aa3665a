-- Fields of one name, span by span.
use Rattle.std.proofs.Common.{◌≡◌, ◌+◌, ◌<◌, ℕ, Bool, true, false, cond, List, [], ◌∷◌, drop}
use Rattle.std.proofs.Common.{length, map, get_or, ap, sym, refl, ◌∙◌, add-one, drop-cons}
use Rattle.std.specs.Prelude.{Option, Some, None, is_some}
use Rattle.std.specs.Borrow.{Bor}
use Rattle.std.specs.List.{filter}
use Rattle.std.specs.Str.{str_eq_ignore_ascii_case}
use Rattle.httparse.specs.declared.spans.HeaderSpan.{HeaderSpan}
use Rattle.httparse.specs.Spans.{span_bytes, header_bytes}
use Rattle.desk_http.specs.Fields.{values, is_named, found_so_far}

picked : (p : List ℕ × List ℕ → Bool) (y : List ℕ × List ℕ) (ys : List (List ℕ × List ℕ)) (b : Bool) → p y ≡ b
    → map (λ f. f.1) (filter p (y ∷ ys)) ≡ map (λ f. f.1) (cond b (y ∷ filter p ys) (filter p ys))
picked p y ys b e = ap (λ (c : Bool). map (λ f. f.1) (cond c (y ∷ filter p ys) (filter p ys))) e

next : (xs : List HeaderSpan) (i : ℕ) (d : HeaderSpan) → i < length xs → drop i xs ≡ get_or xs i d ∷ drop (i + 1) xs
next xs i d h = drop-cons xs i d h ∙ ap (λ k. get_or xs i d ∷ drop k xs) (sym (add-one i))

pub values_out : (n h : List ℕ) (xs : List HeaderSpan) (i : ℕ) (d : HeaderSpan) (t : List ℕ) → i < length xs
    → t ≡ span_bytes h (get_or xs i d).name
    → str_eq_ignore_ascii_case t n ≡ false
    → values n (map (header_bytes h) (drop i xs)) ≡ values n (map (header_bytes h) (drop (i + 1) xs))
values_out n h xs i d t lt e off =
    ap (λ l. values n (map (header_bytes h) l)) (next xs i d lt)
    ∙ picked (is_named n) (header_bytes h (get_or xs i d)) (map (header_bytes h) (drop (i + 1) xs)) false
    (ap (λ s. str_eq_ignore_ascii_case s n) (sym e) ∙ off)

pub values_in : (n h : List ℕ) (xs : List HeaderSpan) (i : ℕ) (d : HeaderSpan) (t v : List ℕ) → i < length xs
    → t ≡ span_bytes h (get_or xs i d).name
    → v ≡ span_bytes h (get_or xs i d).value → str_eq_ignore_ascii_case t n ≡ true
    → values n (map (header_bytes h) (drop i xs)) ≡ v ∷ values n (map (header_bytes h) (drop (i + 1) xs))
values_in n h xs i d t v lt e f on =
    ap (λ l. values n (map (header_bytes h) l)) (next xs i d lt)
    ∙ picked (is_named n) (header_bytes h (get_or xs i d)) (map (header_bytes h) (drop (i + 1) xs)) true
    (ap (λ s. str_eq_ignore_ascii_case s n) (sym e) ∙ on)
    ∙ ap (λ x. x ∷ values n (map (header_bytes h) (drop (i + 1) xs))) (sym f)

pub none_yet : (o : Option (Bor (List ℕ))) → is_some o ≡ false → found_so_far o ≡ []
none_yet None h = refl
none_yet (Some x) h = sym (absurd (cc))
