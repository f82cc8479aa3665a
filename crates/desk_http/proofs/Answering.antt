-- What a service answers, over plain variables.
use Rattle.std.proofs.Common.{◌≡◌, ◌∙◌, ℕ, List, take, drop, length, map, arith, ap, sym, subst, length-take}
use Rattle.std.specs.Prelude.{Option, Some, None, Result, Ok, Err, IfSome}
use Rattle.std.specs.Result.{IsErrAnd}
use Rattle.std.specs.Io.KnownBytes.{Appends}
use Rattle.std.proofs.lemmas.List.{take_all, length-map}
use Rattle.httparse.specs.Spans.{IsResponseOf, IsResponseWithin, header_bytes, name_and_value}
use Rattle.httparse.specs.declared.spans.HeaderSpan.{HeaderSpan}
use Rattle.httparse.specs.declared.spans.ResponseSpans.{ResponseSpans}
use Rattle.desk_http.specs.Answering.{Begins, Head, IsAsked, IsHeard, Told, own_body, with_status}
use Rattle.desk_http.specs.Serving.{AppendsFront}
use Rattle.desk_http.specs.declared.answer.Answer.{Answer}
use Rattle.desk_http.specs.declared.answer.Unheard.{Unheard}
use Rattle.desk_http.specs.declared.answer.Unheard.TheVariants.{Foreign, Cut, Failed, Memory}

-- the head, where its parts lie in the bytes
abbrev pub told_at : List ℕ → List HeaderSpan → ResponseSpans → Told
told_at bytes spans r = record { status = r.code; fields = map (header_bytes bytes) (take r.headers spans) }

same_told : (s t : ℕ) (f g : List (List ℕ × List ℕ)) → s ≡ t → f ≡ g
    → let p : Told = record { status = s; fields = f } in let q : Told = record { status = t; fields = g } in p ≡ q
same_told s t f g e d =
    let a : ℕ → Told = λ x. record { status = x; fields = f } in
    let b : List (List ℕ × List ℕ) → Told = λ x. record { status = t; fields = x } in ap a e ∙ ap b d

pub begun : (bytes : List ℕ) (spans : List HeaderSpan) (r : ResponseSpans) → IsResponseOf bytes spans r
    → IsResponseWithin bytes spans r → length spans ≡ 64
    → Begins bytes (Head (told_at bytes spans r) (drop r.len bytes))
begun bytes spans r (h, at) within room =
    let fields = ap length at.fields in (
      h,
      at.reads,
      omega (
        arith,
        fields,
        length-map (take r.headers spans) (header_bytes bytes),
        length-map h.fields name_and_value,
        length-take r.headers spans,
      ),
      same_told _ _ _ _ at.code at.fields,
    )

-- a body that isn't there
none_told : (bytes : List ℕ) (told : Told) (rest : List ℕ) (e : Unheard) → Begins bytes (Head told rest)
    → Err e ≡ own_body told.fields rest → IsHeard bytes (Err e)
none_told bytes told rest Foreign begins same = (Head told rest, begins, ap (with_status told.status) same)
none_told bytes told rest Cut begins same = (Head told rest, begins, ap (with_status told.status) same)
none_told bytes told rest Failed begins same = tt
none_told bytes told rest Memory begins same = tt

pub unheard : (bytes : List ℕ) (told : Told) (rest : List ℕ) (e : Unheard) (r : Result Answer Unheard)
    → Begins bytes (Head told rest) → Err e ≡ own_body told.fields rest → IsErrAnd r (λ d. d ≡ e) → IsHeard bytes r
unheard bytes told rest e (Ok answer) begins same is = absurd is
unheard bytes told rest e (Err d) begins same is =
    subst (λ x. IsHeard bytes (Err x)) (sym is) (none_told bytes told rest e begins same)

-- ---- a service that was asked

for_known : (known : Option (List ℕ)) (bytes : List ℕ) (P : List ℕ → Type 0) → IfSome known (λ xs. bytes ≡ xs) → P bytes
    → IfSome known P
for_known None bytes P same p = tt
for_known (Some xs) bytes P same p = subst P same p

front_of_all : (w w' : Option (List ℕ)) (bytes : List ℕ) → Appends w w' bytes → AppendsFront w w' bytes
front_of_all w w' bytes sent =
    (length bytes, omega arith, subst (Appends w w') (sym (take_all (length bytes) bytes (omega arith))) sent)

pub heard : (request : List ℕ) (known w w' : Option (List ℕ)) (bytes : List ℕ) (r : Result Answer Unheard)
    → Appends w w' request → IfSome known (λ xs. bytes ≡ xs) → IsHeard bytes r → IsAsked request known w w' r
heard request known w w' bytes (Ok answer) sent all is =
    (sent, for_known known bytes (λ xs. IsHeard xs (Ok answer)) all is)
heard request known w w' bytes (Err Foreign) sent all is =
    (sent, for_known known bytes (λ xs. IsHeard xs (Err Foreign)) all is)
heard request known w w' bytes (Err Cut) sent all is =
    (sent, for_known known bytes (λ xs. IsHeard xs (Err Cut)) all is)
heard request known w w' bytes (Err Failed) sent all is = front_of_all w w' request sent
heard request known w w' bytes (Err Memory) sent all is = front_of_all w w' request sent
