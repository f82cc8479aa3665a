-- What is only read, over any machine.
use Rattle.std.proofs.Common.{◌≡◌, ◌∙◌, ◌⊎◌, inl, inr, ℕ, List, Bool, true, false, cond, ap, refl}
use Rattle.std.specs.Prelude.{[], Option, Some, None}
use Rattle.std.specs.Str.{bytes_eq}
use Rattle.std.proofs.lemmas.Slice.Eq.{bytes_eq-Decides}
use Rattle.desk_http.specs.Services.{Machine, Operation, RunLine, ImportFile, ShowReport, ShowTable, ShowBooks, ShowHistory}
use Rattle.desk_http.specs.Services.{ImportSheet, ShowList, RunLines, StopService, ShowDump, IsReading, ReplyView, Stops}
use Rattle.desk_http.specs.Services.{books_reply, step, tag_text}
use Rattle.desk_http.specs.declared.service.Failure.{Failure}
use Rattle.desk_http.specs.declared.service.NoReply.{NoReply}
use Rattle.desk_http.specs.declared.service.NoReply.TheVariants.{Failed, Untold}
use Rattle.desk_http.specs.declared.service.Outcome.TheVariants.{Shown, Unchanged}
use Rattle.desk_http.specs.declared.service.Tag.{Tag}

pub replied : {S : Type 0} (m : Machine S) (s : S) (o : Operation) → IsReading o → (step m s o).0 ≡ s
replied m s (RunLine line) h = absurd h
replied m s (ImportFile loose kind document day rows) h = absurd h
replied m s (ShowReport name number) h = refl
replied m s (ShowTable name) h = refl
replied m s (ShowBooks known) h = refl
replied m s (ShowHistory from) h = refl
replied m s (ImportSheet command document day file) h = absurd h
replied m s (ShowList list word said) h = refl
replied m s (RunLines said text) h = absurd h
replied m s StopService h = absurd h
replied m s ShowDump h = refl

one_of_three : {S : Type 0} (s s' : S) → (s' ≡ s) ⊎ ((s' ≡ s) ⊎ (s' ≡ s)) → s' ≡ s
one_of_three s s' (inl e) = e
one_of_three s s' (inr (inl e)) = e
one_of_three s s' (inr (inr e)) = e

pub stopped : {S : Type 0} (m : Machine S) (left : Failure → S → Operation → S → Type 0) (why : NoReply) (s s' : S)
    (o : Operation) → IsReading o → Stops m left why s o s' → s' ≡ s
stopped m left why s s' (RunLine line) h e = absurd h
stopped m left why s s' (ImportFile loose kind document day rows) h e = absurd h
stopped m left (Failed f) s s' (ShowReport name number) h e = e
stopped m left Untold s s' (ShowReport name number) h e = one_of_three s s' e
stopped m left (Failed f) s s' (ShowTable name) h e = e
stopped m left Untold s s' (ShowTable name) h e = one_of_three s s' e
stopped m left (Failed f) s s' (ShowBooks known) h e = e
stopped m left Untold s s' (ShowBooks known) h e = one_of_three s s' e
stopped m left (Failed f) s s' (ShowHistory from) h e = e
stopped m left Untold s s' (ShowHistory from) h e = one_of_three s s' e
stopped m left why s s' (ImportSheet command document day file) h e = absurd h
stopped m left (Failed f) s s' (ShowList list word said) h e = e
stopped m left Untold s s' (ShowList list word said) h e = one_of_three s s' e
stopped m left why s s' (RunLines said text) h e = absurd h
stopped m left why s s' StopService h e = absurd h
stopped m left (Failed f) s s' ShowDump h e = e
stopped m left Untold s s' ShowDump h e = one_of_three s s' e

apart : (has : Option Tag) (tag : Tag) → Shown has ≡ Unchanged tag → ⊥
apart has tag e = absurd (cc)

same_tag : (other tag : Tag) → Unchanged other ≡ Unchanged tag → other ≡ tag
same_tag other tag e = cc

pub known : (has : Option Tag) (known : Option (List ℕ)) (books : List ℕ) (tag : Tag) (body : List ℕ)
    → books_reply has known books ≡ (Unchanged tag, body) → (known ≡ Some (tag_text tag)) × (has ≡ Some tag)
known has None books tag body e = absurd (apart has tag (ap (λ r. r.0) e))
known None (Some text) books tag body e = absurd (apart None tag (ap (λ r. r.0) e))
known (Some other) (Some text) books tag body e = by (bytes_eq text (tag_text other)) refl e
  where
    by : (c : Bool) → bytes_eq text (tag_text other) ≡ c
        → ◌≡◌ {A = ReplyView} (cond c (Unchanged other, []) (Shown (Some other), books)) (Unchanged tag, body)
        → (Some text ≡ Some (tag_text tag)) × (Some other ≡ Some tag)
    by false q e' = absurd (apart (Some other) tag (ap (λ r. r.0) e'))
    by true q e' =
        let same : other ≡ tag = same_tag other tag (ap (λ r. r.0) e') in
        let text_is : text ≡ tag_text other = (bytes_eq-Decides text (tag_text other)).0 q in
        (ap Some (text_is ∙ ap tag_text same), ap Some same)
