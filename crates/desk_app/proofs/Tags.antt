-- The tag of the books tells them.
use Rattle.std.proofs.Common.{◌≡◌, ◌∙◌, ◌⊎◌, inl, inr, ◌+◌, ◌^◌, ℕ, Bool, true, false, List, ap, sym, refl, subst}
use Rattle.std.proofs.Common.{cond, arith}
use Rattle.std.specs.Prelude.{Option, Some, None, Result, Ok, Err, nat_lt}
use Rattle.word_core.specs.Day.{CivilDay}
use Rattle.desk_core.specs.Machine.{State}
use Rattle.desk_http.specs.Services.{Operation, RunLine, ImportFile, ShowReport, ShowTable, ShowBooks, ShowHistory}
use Rattle.desk_http.specs.Services.{ImportSheet, ShowList, RunLines, ShowDump, StopService, ReplyView, Stops, step}
use Rattle.desk_http.specs.declared.service.NoReply.{NoReply}
use Rattle.desk_http.specs.declared.service.NoReply.TheVariants.{Failed, Untold}
use Rattle.desk_http.specs.declared.service.Outcome.{Outcome}
use Rattle.desk_http.specs.declared.service.Outcome.TheVariants as outcomes
use Rattle.desk_http.specs.declared.service.Outcome.TheVariants.{Answered, AnsweredLines, Reported}
use Rattle.desk_http.specs.declared.target.ImportKind.{ImportKind}
use Rattle.desk_http.specs.declared.service.Tag.{Tag}
use Rattle.desk_app.specs.declared.options.LineOptions.{LineOptions}
use Rattle.desk_app.specs.ImportRuns.{Reading}
use Rattle.desk_app.specs.Services.{ServiceState, by_reading, counted, desk_machine, import_file, leaves, rows_sent}
use Rattle.desk_app.specs.Services.{import_sheet, raised, run_line, run_lines, tag_after, Follows, IsLater, TagsTellBooks, WasDone}
use Rattle.desk_app.proofs.Replies.{line_told}
use Rattle.desk_app.proofs.SheetReplies.{lines_told, sheet_told}

later : (tag : Option Tag) → IsLater tag (raised tag)
later None = tt
later (Some tag) = by (nat_lt (tag.accepted + 1) (2 ^ 64))
  where
    by : (c : Bool)
        → IsLater (Some tag) (cond c (Some (record tag { accepted = tag.accepted + 1 })) None)
    by true = (refl, omega arith)
    by false = tt

no_later : (tag : Tag) → IsLater (Some tag) (Some tag) → ⊥
no_later tag h = omega (arith, h.1)

still_later : (a b c : Option Tag) → IsLater a b → IsLater b c → IsLater a c
still_later a b None h k = tt
still_later None None (Some z) h k = absurd k
still_later None (Some y) (Some z) h k = absurd h
still_later (Some x) None (Some z) h k = absurd k
still_later (Some x) (Some y) (Some z) h k = (k.0 ∙ h.0, omega (arith, h.1, k.1))

pub follows_more : (d d' d'' : ServiceState) → Follows d d' → Follows d' d'' → Follows d d''
follows_more d d' d'' (inl h) (inl k) = inl (k.0 ∙ h.0, k.1 ∙ h.1)
follows_more d d' d'' (inl h) (inr k) = inr (subst (λ t. IsLater t d''.2) h.1 k)
follows_more d d' d'' (inr h) (inl k) = inr (subst (IsLater d.2) (sym k.1) h)
follows_more d d' d'' (inr h) (inr k) = inr (still_later d.2 d'.2 d''.2 h k)

pub same_books : (d d' : ServiceState) (tag : Tag) → Follows d d' → d.2 ≡ Some tag → d'.2 ≡ Some tag → d'.0 ≡ d.0
same_books d d' tag (inl h) is is' = h.0
same_books d d' tag (inr h) is is' =
    absurd (no_later tag (subst (IsLater (Some tag)) is' (subst (λ t. IsLater t d'.2) is h)))

-- what was done, by what was replied: it was taken, or it changed nothing and the tag stayed
by_reply : (options : LineOptions) (tag : Option Tag) (s : State) (done : State × ReplyView) (d' : ServiceState)
    → d' ≡ (counted options tag done).0
    → ((tag_after tag done.1.0 ≡ raised tag) ⊎ (done.0 ≡ s))
    → ((o : Outcome) → ((tag_after tag o ≡ tag) ⊎ (tag_after tag o ≡ raised tag)))
    → Follows (s, options, tag) d'
by_reply options tag s done d' is (inl taken) either =
    let t : d'.2 ≡ raised tag = ap (λ (d : ServiceState). d.2) is ∙ taken in
    inr (subst (IsLater tag) (sym t) (later tag))
by_reply options tag s done d' is (inr same) either = by (either done.1.0)
  where
    tag_is : d'.2 ≡ tag_after tag done.1.0
    tag_is = ap (λ (d : ServiceState). d.2) is

    by : (tag_after tag done.1.0 ≡ tag) ⊎ (tag_after tag done.1.0 ≡ raised tag) → Follows (s, options, tag) d'
    by (inl stays) = inl (ap (λ (d : ServiceState). d.0) is ∙ same, tag_is ∙ stays)
    by (inr rises) = inr (subst (IsLater tag) (sym (tag_is ∙ rises)) (later tag))

stays_or_rises : (tag : Option Tag) (o : Outcome) → (tag_after tag o ≡ tag) ⊎ (tag_after tag o ≡ raised tag)
stays_or_rises tag outcomes.Answered = inr refl
stays_or_rises tag outcomes.Reported = inr refl
stays_or_rises tag outcomes.Refused = inl refl
stays_or_rises tag outcomes.Faulty = inl refl
stays_or_rises tag outcomes.Exported = inl refl
stays_or_rises tag (outcomes.Shown t) = inl refl
stays_or_rises tag (outcomes.Unchanged t) = inl refl
stays_or_rises tag outcomes.Unknown = inl refl
stays_or_rises tag outcomes.FaultyLines = inl refl
stays_or_rises tag outcomes.AnsweredLines = inr refl
stays_or_rises tag outcomes.Dumped = inl refl

-- a file is told, or it changes nothing
file_told : (s : State) (file : Reading) → ((by_reading s file).1.0 ≡ Reported) ⊎ ((by_reading s file).0 ≡ s)
file_told s (Ok rows) = inl refl
file_told s (Err fault) = inr refl

import_told : (names : Bool) (d : State) (loose : Bool) (kind : ImportKind) (document : List ℕ) (day : CivilDay) (rows : List ℕ)
    → ((import_file names d loose kind document day rows).1.0 ≡ Reported)
    ⊎ ((import_file names d loose kind document day rows).0 ≡ d)
unfolding import_file
import_told names d loose kind document day rows =
    file_told d (rows_sent names d loose kind document day rows)

-- what only reads leaves all as it was
unread : (d d' : ServiceState) → d' ≡ d → Follows d d'
unread d d' is = inl (ap (λ (x : ServiceState). x.0) is, ap (λ (x : ServiceState). x.2) is)

-- the state that an operation with a reply leads to
stepped : (d d' : ServiceState) (o : Operation) → d' ≡ (step desk_machine d o).0 → Follows d d'
stepped (s, options, tag) d' (RunLine line) is = by (line_told options s line)
  where
    by : ((run_line options s line).1.0 ≡ Answered) ⊎ ((run_line options s line).0 ≡ s) → Follows (s, options, tag) d'
    by (inl h) = by_reply options tag s (run_line options s line) d' is (inl (ap (tag_after tag) h)) (stays_or_rises tag)
    by (inr h) = by_reply options tag s (run_line options s line) d' is (inr h) (stays_or_rises tag)
stepped (s, options, tag) d' (ImportFile loose kind document day rows) is = by (import_told options.names s loose kind document day rows)
  where
    done : State × ReplyView
    done = import_file options.names s loose kind document day rows

    by : (done.1.0 ≡ Reported) ⊎ (done.0 ≡ s) → Follows (s, options, tag) d'
    by (inl h) = by_reply options tag s done d' is (inl (ap (tag_after tag) h)) (stays_or_rises tag)
    by (inr h) = by_reply options tag s done d' is (inr h) (stays_or_rises tag)
stepped d d' (ShowReport name number) is = unread d d' is
stepped d d' (ShowTable name) is = unread d d' is
stepped d d' (ShowBooks known) is = unread d d' is
stepped d d' (ShowHistory from) is = unread d d' is
stepped (s, options, tag) d' (ImportSheet command document day file) is = by (sheet_told s command document day file)
  where
    done : State × ReplyView
    done = import_sheet s command document day file

    by : (done.1.0 ≡ Reported) ⊎ (done.0 ≡ s) → Follows (s, options, tag) d'
    by (inl h) = by_reply options tag s done d' is (inl (ap (tag_after tag) h)) (stays_or_rises tag)
    by (inr h) = by_reply options tag s done d' is (inr h) (stays_or_rises tag)
stepped d d' (ShowList list word said) is = unread d d' is
stepped d d' ShowDump is = unread d d' is
stepped (s, options, tag) d' (RunLines said text) is = by (lines_told options s said text)
  where
    done : State × ReplyView
    done = run_lines options s said text

    by : (done.1.0 ≡ AnsweredLines) ⊎ (done.0 ≡ s) → Follows (s, options, tag) d'
    by (inl h) = by_reply options tag s done d' is (inl (ap (tag_after tag) h)) (stays_or_rises tag)
    by (inr h) = by_reply options tag s done d' is (inr h) (stays_or_rises tag)
stepped d d' StopService is = unread d d' is

left_later : (d d' : ServiceState) → d'.2 ≡ raised d.2 → Follows d d'
left_later d d' is = inr (subst (IsLater d.2) (sym is) (later d.2))

-- what an operation that failed leaves
left_by : (d d' : ServiceState) (o : Operation) (why : NoReply) → Stops desk_machine leaves why d o d' → Follows d d'
left_by d d' (RunLine line) (Failed e) h = left_later d d' h.2
left_by d d' (ImportFile loose kind document day rows) (Failed e) h = left_later d d' h.2
left_by d d' (ShowReport name number) (Failed e) h = unread d d' h
left_by d d' (ShowTable name) (Failed e) h = unread d d' h
left_by d d' (ShowBooks known) (Failed e) h = unread d d' h
left_by d d' (ShowHistory from) (Failed e) h = unread d d' h
left_by d d' (ImportSheet command document day file) (Failed e) h = left_later d d' h.2
left_by d d' (ShowList list word said) (Failed e) h = unread d d' h
left_by d d' ShowDump (Failed e) h = unread d d' h
left_by d d' (RunLines said text) (Failed e) h = left_later d d' h.2
left_by d d' StopService (Failed e) h = unread d d' h
left_by d d' o Untold (inl h) = unread d d' h
left_by d d' o Untold (inr (inl h)) = stepped d d' o h
left_by d d' (RunLine line) Untold (inr (inr h)) = left_later d d' h.2
left_by d d' (ImportFile loose kind document day rows) Untold (inr (inr h)) = left_later d d' h.2
left_by d d' (ShowReport name number) Untold (inr (inr h)) = unread d d' h
left_by d d' (ShowTable name) Untold (inr (inr h)) = unread d d' h
left_by d d' (ShowBooks known) Untold (inr (inr h)) = unread d d' h
left_by d d' (ShowHistory from) Untold (inr (inr h)) = unread d d' h
left_by d d' (ImportSheet command document day file) Untold (inr (inr h)) = left_later d d' h.2
left_by d d' (ShowList list word said) Untold (inr (inr h)) = unread d d' h
left_by d d' ShowDump Untold (inr (inr h)) = unread d d' h
left_by d d' (RunLines said text) Untold (inr (inr h)) = left_later d d' h.2
left_by d d' StopService Untold (inr (inr h)) = unread d d' h

done_follows : (d d' : ServiceState) (o : Operation) (result : Result ReplyView NoReply) → WasDone d o result d'
    → Follows d d'
done_follows d d' o (Ok reply) h = stepped d d' o (ap (λ (p : ServiceState × ReplyView). p.0) h)
done_follows d d' o (Err why) h = left_by d d' o why h

pub tags_tell_books : TagsTellBooks
tags_tell_books = record {
  one = done_follows;
  none = λ d. inl (refl, refl);
  more = follows_more;
  same = same_books;
}
