-- What is replied to a body that is a request, or a file.
use Rattle.std.proofs.Common.{◌≡◌, ◌∙◌, ℕ, Bool, List, [], ap, sym, refl, subst, ◌⊎◌, inl, inr, false}
use Rattle.std.specs.Prelude.{Option, Some, None, Result, Ok, Err, IfErr, IfOk, OnErr}
use Rattle.sqlite.specs.Tree.{Trees}
use Rattle.word_core.specs.Day.{CivilDay}
use Rattle.desk_core.specs.Machine.{State, Outcome, step}
use Rattle.desk_core.proofs.InOrder.{refusals_change_nothing}
use Rattle.desk_core.specs.declared.command.Request.{Request}
use Rattle.desk_store.specs.StateTables.{TablesAre}
use Rattle.desk_wire.specs.Reading as reading
use Rattle.desk_wire.specs.declared.fault.What.{What}
use Rattle.desk_http.specs.Services.{RunLine, ImportFile, ImportSheet, RunLines, ReplyView, Stops, reply_view, why_none}
use Rattle.desk_http.specs.declared.query.LineWords.{LineWords}
use Rattle.desk_http.specs.declared.target.ImportKind.{ImportKind}
use Rattle.desk_http.specs.declared.service.Outcome.TheVariants.{Answered}
use Rattle.desk_http.specs.declared.service.Tag.{Tag}
use Rattle.desk_http.specs.declared.service.Failure.TheVariants.{Memory, Store}
use Rattle.desk_http.specs.declared.service.NoReply.{NoReply}
use Rattle.desk_http.specs.declared.service.NoReply.TheVariants.{Failed, Untold}
use Rattle.desk_http.specs.declared.service.Reply.{Reply}
use Rattle.desk_app.specs.ImportRuns.{RanSome, Reading}
use Rattle.desk_app.specs.Journal.{journalled}
use Rattle.desk_app.specs.Runs.{naming}
use Rattle.desk_app.specs.declared.options.LineOptions.{LineOptions}
use Rattle.desk_app.specs.Services.{by_outcome, by_request, counted, desk_machine, raised, rows_sent, tag_after}
use Rattle.desk_app.specs.Services.{IfStoreFailed, IsFailedFile, IsFailedLine, IsFailedRequest, StaysOpenBy}
use Rattle.desk_app.specs.Services.{leaves, lines_to_run, run_line, sheet_lines, IsFailed, IsFailedSheet}
use Rattle.desk_app.specs.SheetReplies.{said_run, RanFirst}
use Rattle.desk_app.specs.SheetRuns.{sheet_run}
use Rattle.desk_app.proofs.SheetReplies.{none_ran}

outcome_state : (p : State × Outcome) → (by_outcome p).0 ≡ p.0
outcome_state (s, Ok answer) = refl
outcome_state (s, Err refusal) = refl

state_after : (options : LineOptions) (s : State) (line : List ℕ) (r : Request)
    → reading.request (naming options.names s) line ≡ Ok r
    → (run_line options s line).0 ≡ (step s (journalled options.journal s r)).0
unfolding run_line
state_after options s line r is =
    ap (λ q. (by_request options.journal s q).0) is ∙ outcome_state (step s (journalled options.journal s r))

-- a line whose request failed
pub failed_by_line : (result : Result Reply NoReply) (options : LineOptions) (s s' : State) (line : List ℕ) (r : Request)
    → reading.request (naming options.names s) line ≡ Ok r
    → IfErr result (λ why. IsFailedRequest why s s' (journalled options.journal s r))
    → IfErr result (λ why. IsFailedLine why options s line s')
failed_by_line (Ok reply) options s s' line r is failed = tt
failed_by_line (Err (Failed e)) options s s' line r is failed = failed
failed_by_line (Err Untold) options s s' line r is failed = inr (failed ∙ sym (state_after options s line r is))

-- what a crash leaves of a request, it leaves of its line: where the database failed, the books are as they were, and else
-- it leaves their tables
pub left_by_line : {F : Type 0} (result : Result Reply NoReply) (options : LineOptions) (s s' : State) (line : List ℕ)
    (r : Request) (trees : Trees) (old new : Option F) → reading.request (naming options.names s) line ≡ Ok r
    → StaysOpenBy old new (why_none result)
    → IfErr result (λ why. IsFailedRequest why s s' (journalled options.journal s r))
    → old ≡ None → (new ≡ None → TablesAre s' trees)
    → TablesAre s' trees ⊎ TablesAre (step s' (journalled options.journal s r)).0 trees
    → TablesAre s' trees ⊎ TablesAre (run_line options s line).0 trees
left_by_line (Ok reply) options s s' line r trees old new is stays failed before kept left = inl (kept (stays before))
left_by_line (Err Untold) options s s' line r trees old new is stays failed before kept left =
    inl (kept (stays before))
left_by_line (Err (Failed Memory)) options s s' line r trees old new is stays failed before kept left =
    inl (kept stays.1)
left_by_line (Err (Failed Store)) options s s' line r trees old new is stays failed before kept (inl h) = inl h
left_by_line (Err (Failed Store)) options s s' line r trees old new is stays failed before kept (inr h) =
    let same : (step s' (journalled options.journal s r)).0 ≡ (run_line options s line).0 =
    ap (λ v. (step v (journalled options.journal s r)).0) failed ∙ sym (state_after options s line r is) in
    inr (subst (λ t. TablesAre t trees) same h)

-- where the database didn't fail the books are open, and leave their tables
pub left_if_failed : {F failed whole : Type 0} (why : Option NoReply) (old new : Option F) → StaysOpenBy old new why
    → old ≡ None → (new ≡ None → whole) → failed → IfStoreFailed why failed whole
left_if_failed None old new stays before opened left = opened (stays before)
left_if_failed (Some Untold) old new stays before opened left = opened (stays before)
left_if_failed (Some (Failed Memory)) old new stays before opened left = opened stays.1
left_if_failed (Some (Failed Store)) old new stays before opened left = left

-- ---- the tag

-- a line is answered, or it changes nothing
told_or_same : (journal : Bool) (s : State) (q : Result Request What)
    → ((by_request journal s q).1.0 ≡ Answered) ⊎ ((by_request journal s q).0 ≡ s)
told_or_same journal s (Err what) = inr refl
told_or_same journal s (Ok q) = by (step s (journalled journal s q)) refl
  where
    r : Request
    r = journalled journal s q

    by : (p : State × Outcome) → step s r ≡ p → ((by_outcome p).1.0 ≡ Answered) ⊎ ((by_outcome p).0 ≡ s)
    by (s', Ok answer) is = inl refl
    by (s', Err refusal) is =
        inr (sym (ap (λ (p : State × Outcome). p.0) is)
        ∙ refusals_change_nothing s r refusal (ap (λ (p : State × Outcome). p.1) is))

pub line_told : (options : LineOptions) (s : State) (line : List ℕ)
    → ((run_line options s line).1.0 ≡ Answered) ⊎ ((run_line options s line).0 ≡ s)
unfolding run_line
line_told options s line = told_or_same options.journal s (reading.request (naming options.names s) line)

-- what was answered or told raises the tag; else it stays
pub counted_as : (options : LineOptions) (tag : Option Tag) (s' : State) (done : State × ReplyView) → s' ≡ done.0
    → done.1.0 ≡ Answered → (s', options, raised tag) ≡ (counted options tag done).0
counted_as options tag s' done is answered =
    let raises : raised tag ≡ tag_after tag done.1.0 = ap (tag_after tag) (sym answered) in
    λ i. (is i, options, raises i)

-- a line without a reply leaves what it does, with another tag
pub counted_line : (why : NoReply) (options : LineOptions) (tag : Option Tag) (s s' : State) (line : List ℕ)
    → IsFailedLine why options s line s'
    → Stops desk_machine leaves why (s, options, tag) (RunLine line) (s', options, raised tag)
counted_line (Failed e) options tag s s' line h = (h, refl, refl)
counted_line Untold options tag s s' line (inl h) = inr (inr (h, refl, refl))
counted_line Untold options tag s s' line (inr h) = by (line_told options s line)
  where
    by : ((run_line options s line).1.0 ≡ Answered) ⊎ ((run_line options s line).0 ≡ s)
        → Stops desk_machine leaves Untold (s, options, tag) (RunLine line) (s', options, raised tag)
    by (inl answered) = inr (inl (counted_as options tag s' (run_line options s line) h answered))
    by (inr same) = inr (inr (h ∙ same, refl, refl))

-- no row was run
ran_none : (file : Reading) (s s' : State) → s' ≡ s → RanSome file s s'
ran_none (Ok rows) s s' is = record { done = []; rest = rows; split = refl; state = is }
ran_none (Err fault) s s' is = is

-- the same of a file
pub counted_file : (why : NoReply) (options : LineOptions) (tag : Option Tag) (s s' : State) (loose : Bool) (kind : ImportKind)
    (document : List ℕ) (day : CivilDay) (rows : List ℕ)
    → IsFailedFile why (rows_sent options.names s loose kind document day rows) s s'
    → Stops desk_machine leaves why (s, options, tag) (ImportFile loose kind document day rows) (s', options, raised tag)
counted_file (Failed e) options tag s s' loose kind document day rows h = (h, refl, refl)
counted_file Untold options tag s s' loose kind document day rows h =
    inr (inr (ran_none (rows_sent options.names s loose kind document day rows) s s' h, refl, refl))

-- ---- what is replied, with the tag

pub replied : (r : Result Reply NoReply) (options : LineOptions) (tag tag' : Option Tag) (s' : State) (done : State × ReplyView)
    → IfOk r (λ reply. (s', reply_view reply) ≡ done) → IfOk r (λ reply. tag' ≡ tag_after tag reply.outcome)
    → IfOk r (λ reply. ((s', options, tag'), reply_view reply) ≡ counted options tag done)
replied (Ok reply) options tag tag' s' done is t =
    let raises : tag' ≡ tag_after tag done.1.0 = t ∙ ap (λ (p : State × ReplyView). tag_after tag p.1.0) is in
    λ i. (((is i).0, options, raises i), (is i).1)
replied (Err why) options tag tag' s' done is t = tt

pub unreplied_line : (r : Result Reply NoReply) (options : LineOptions) (tag tag' : Option Tag) (s s' : State) (line : List ℕ)
    → IfErr r (λ why. IsFailedLine why options s line s') → OnErr r (tag' ≡ raised tag)
    → IfErr r (λ why. Stops desk_machine leaves why (s, options, tag) (RunLine line) (s', options, tag'))
unreplied_line (Ok reply) options tag tag' s s' line h t = tt
unreplied_line (Err why) options tag tag' s s' line h t =
    subst (λ x. Stops desk_machine leaves why (s, options, tag) (RunLine line) (s', options, x)) (sym t)
    (counted_line why options tag s s' line h)

pub unreplied_file : (r : Result Reply NoReply) (options : LineOptions) (tag tag' : Option Tag) (s s' : State)
    (loose : Bool) (kind : ImportKind) (document : List ℕ) (day : CivilDay) (rows : List ℕ)
    → IfErr r (λ why. IsFailedFile why (rows_sent options.names s loose kind document day rows) s s')
    → OnErr r (tag' ≡ raised tag)
    → IfErr r (λ why. Stops desk_machine leaves why (s, options, tag) (ImportFile loose kind document day rows)
    (s', options, tag'))
unreplied_file (Ok reply) options tag tag' s s' loose kind document day rows h t = tt
unreplied_file (Err why) options tag tag' s s' loose kind document day rows h t =
    subst (λ x. Stops desk_machine leaves why (s, options, tag) (ImportFile loose kind document day rows) (s', options, x))
    (sym t) (counted_file why options tag s s' loose kind document day rows h)

-- ---- a file of a command

counted_sheet : (why : NoReply) (options : LineOptions) (tag : Option Tag) (s s' : State) (command document : List ℕ)
    (day : CivilDay) (file : List ℕ) → IsFailedSheet why (sheet_lines command document day file) s s'
    → Stops desk_machine leaves why (s, options, tag) (ImportSheet command document day file) (s', options, raised tag)
counted_sheet (Failed e) options tag s s' command document day file h = (h, refl, refl)
counted_sheet Untold options tag s s' command document day file h =
    inr (inr (none_ran (sheet_run false) (sheet_lines command document day file) s s' h, refl, refl))

pub unreplied_sheet : (r : Result Reply NoReply) (options : LineOptions) (tag tag' : Option Tag) (s s' : State)
    (command document : List ℕ) (day : CivilDay) (file : List ℕ)
    → IfErr r (λ why. IsFailedSheet why (sheet_lines command document day file) s s')
    → OnErr r (tag' ≡ raised tag)
    → IfErr r (λ why. Stops desk_machine leaves why (s, options, tag) (ImportSheet command document day file)
    (s', options, tag'))
unreplied_sheet (Ok reply) options tag tag' s s' command document day file h t = tt
unreplied_sheet (Err why) options tag tag' s s' command document day file h t =
    subst (λ x. Stops desk_machine leaves why (s, options, tag) (ImportSheet command document day file) (s', options, x))
    (sym t) (counted_sheet why options tag s s' command document day file h)

-- ---- lines

counted_lines : (why : NoReply) (options : LineOptions) (tag : Option Tag) (s s' : State) (said : LineWords) (text : List ℕ)
    → IsFailed why × RanFirst (said_run options said) (lines_to_run options said text) s s'
    → Stops desk_machine leaves why (s, options, tag) (RunLines said text) (s', options, raised tag)
counted_lines (Failed e) options tag s s' said text h = (h.1, refl, refl)
counted_lines Untold options tag s s' said text h = absurd h.0

pub unreplied_lines : (r : Result Reply NoReply) (options : LineOptions) (tag tag' : Option Tag) (s s' : State)
    (said : LineWords) (text : List ℕ)
    → IfErr r (λ why. IsFailed why × RanFirst (said_run options said) (lines_to_run options said text) s s')
    → OnErr r (tag' ≡ raised tag)
    → IfErr r (λ why. Stops desk_machine leaves why (s, options, tag) (RunLines said text) (s', options, tag'))
unreplied_lines (Ok reply) options tag tag' s s' said text h t = tt
unreplied_lines (Err why) options tag tag' s s' said text h t =
    subst (λ x. Stops desk_machine leaves why (s, options, tag) (RunLines said text) (s', options, x)) (sym t)
    (counted_lines why options tag s s' said text h)
