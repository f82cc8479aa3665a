-- What the parser answers, as what the bytes are.
use Rattle.std.proofs.Common.{◌≡◌, ◌≢◌, ◌<◌, ℕ, List, [], take, drop, length, arith}
use Rattle.std.proofs.Common.{ap, sym, refl, ◌∙◌, subst, length-take, append-nil}
use Rattle.std.proofs.lemmas.List.{drop_all, length-map}
use Rattle.httparse.specs.Grammar.{RequestHead, ReadsRequest, HasNoRequest, NeverHasRequest, print_request}
use Rattle.httparse.specs.Spans.{header_bytes, name_and_value, IsRequestOf}
use Rattle.httparse.specs.Spans.{IsRequestWithin, RequestOverflows, RequestExceeds}
use Rattle.httparse.proofs.GrammarLemmas.{request_unique, ReadsRequest-append}
use Rattle.httparse.specs.declared.spans.HeaderSpan.{HeaderSpan}
use Rattle.httparse.specs.declared.spans.RequestSpans.{RequestSpans}
use Rattle.desk_http.specs.Heads.{Class, IsHead, WellFormed, TooManyFields, Malformed, HeadParts, head_parts_of}
use Rattle.desk_http.specs.Spans.{head_parts_at}

same_parts : (m m' t t' : List ℕ) (v v' : ℕ) (f f' : List (List ℕ × List ℕ)) → m ≡ m' → t ≡ t' → v ≡ v' → f ≡ f'
    → let p : HeadParts = record { method = m; target = t; version = v; fields = f } in
    let q : HeadParts = record { method = m'; target = t'; version = v'; fields = f' } in p ≡ q
same_parts m m' t t' v v' f f' e e' e'' e''' =
    let a : List ℕ → HeadParts = λ x. record { method = x; target = t; version = v; fields = f } in
    let b : List ℕ → HeadParts = λ x. record { method = m'; target = x; version = v; fields = f } in
    let c : ℕ → HeadParts = λ x. record { method = m'; target = t'; version = x; fields = f } in
    let d : List (List ℕ × List ℕ) → HeadParts = λ x. record { method = m'; target = t'; version = v'; fields = x } in
    ap a e ∙ ap b e' ∙ ap c e'' ∙ ap d e'''

pub whole : (bytes : List ℕ) (spans : List HeaderSpan) (r : RequestSpans) → IsRequestOf bytes spans r
    → IsRequestWithin bytes spans r
    → length spans ≡ 64 → r.len ≡ length bytes → IsHead bytes (WellFormed (head_parts_at bytes spans r))
whole bytes spans r (h, at) within room all =
    let none : drop r.len bytes ≡ [] = drop_all r.len bytes (omega arith) in
    let fields = ap length at.fields in (
      h,
      subst (ReadsRequest bytes h) none at.reads,
      omega (
        arith,
        fields,
        length-map (take r.headers spans) (header_bytes bytes),
        length-map h.fields name_and_value,
        length-take r.headers spans,
      ),
      same_parts _ _ _ _ _ _ _ _ at.method at.path at.version at.fields,
    )

-- a head that leaves bytes behind it isn't all of them
pub longer : (bytes : List ℕ) (spans : List HeaderSpan) (r : RequestSpans) → IsRequestOf bytes spans r
    → r.len ≢ length bytes → IsHead bytes Malformed
longer bytes spans r (h, at) short k reads =
    let same = request_unique bytes h k (drop r.len bytes) [] at.reads reads in
    let printed = ap length reads.1 in
    let lens = ap (λ x. length (print_request x)) same.0 in
    short (at.len ∙ lens ∙ sym (ap length (append-nil (print_request k))) ∙ sym printed)

pub refused_partial : (bytes : List ℕ) → HasNoRequest bytes → IsHead bytes Malformed
refused_partial bytes none k reads = none k [] reads

pub refused_ever : (bytes : List ℕ) → NeverHasRequest bytes → IsHead bytes Malformed
refused_ever bytes none k reads = none [] k [] (ReadsRequest-append bytes k [] [] reads)

pub many : (bytes : List ℕ) → RequestOverflows 64 bytes → RequestExceeds 64 bytes → IsHead bytes TooManyFields
many bytes over exceeds = (exceeds, λ k reads. over [] k [] (ReadsRequest-append bytes k [] [] reads))

-- a head of the grammar with at most 64 fields is that and nothing else
pub whole_once : (bytes : List ℕ) (p : HeadParts) (c : Class) → IsHead bytes (WellFormed p) → IsHead bytes c
    → c ≡ WellFormed p
whole_once bytes p (WellFormed q) (h, reads, few, is) (k, reads', few', is') =
    ap WellFormed (is' ∙ ap head_parts_of (request_unique bytes k h [] [] reads' reads).0 ∙ sym is)
whole_once bytes p TooManyFields (h, reads, few, is) (exceeds, many) = let more = many h reads in absurd (omega arith)
whole_once bytes p Malformed (h, reads, few, is) none = absurd (none h reads)

-- a head of the grammar with more is too many fields and nothing else
pub many_once : (bytes : List ℕ) (h : RequestHead) (c : Class) → ReadsRequest bytes h [] → 64 < length h.fields
    → IsHead bytes c → c ≡ TooManyFields
many_once bytes h (WellFormed q) reads more (k, reads', few', is') =
    let same = ap (λ (x : RequestHead). length x.fields) (request_unique bytes k h [] [] reads' reads).0 in
    absurd (omega arith)
many_once bytes h TooManyFields reads more is = refl
many_once bytes h Malformed reads more none = absurd (none h reads)
