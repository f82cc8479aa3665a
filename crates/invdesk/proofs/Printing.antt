-- What is printed, by what the calls that print it say.
use Rattle.std.proofs.Common.{◌≡◌, ◌⊎◌, inl, inr, ℕ, List, Bool, true, false, refl, sym, subst, arith}
use Rattle.std.specs.Prelude.{◌≢◌, Option, Some, None, Result, Ok, Err}
use Rattle.std.specs.Io.KnownBytes.{Appends, Keeps}
use Rattle.std.proofs.KnownBytes.{Appends-nil}
use Rattle.desk_core.specs.Machine.{State}
use Rattle.desk_store.specs.Exports.{AppendsFront}
use Rattle.list_core.specs.Listings.{listing_lines}
use Rattle.report_core.specs.Reports.{report_lines}
use Rattle.list_core.specs.LowList.{low_list}
use Rattle.list_core.specs.declared.listing.Listing.{Listing}
use Rattle.list_core.specs.declared.low_list.Level.{Level}
use Rattle.report_core.specs.declared.name.ReportName.{ReportName}
use Rattle.report_core.specs.declared.name.ReportName.TheVariants.{Ledger, Stock, WhereUsed, History, Content, Shortage}
use Rattle.desk_wire.specs.Levels.{FailsAs, Fault}
use Rattle.desk_wire.specs.declared.fault.FileError.{FileError}
use Rattle.desk_wire.specs.declared.fault.FileError.TheVariants as error
use Rattle.desk_wire.specs.declared.fault.What.{What}
use Rattle.desk_cli.specs.Printed.{IsPrinted, migrated_text}
use Rattle.desk_wire.specs.Printed.{printed}
use Rattle.desk_cli.specs.LowLevels.{low_by}
use Rattle.desk_core.specs.declared.end.RunEnd.{RunEnd}
use Rattle.desk_core.specs.declared.end.RunEnd.TheVariants.{Done, ReadFailed, WriteFailed, Memory, Store}
use Rattle.desk_cli.specs.Layouts.{laid_out}
use Rattle.desk_cli.specs.LowLists.{told_low}
use Rattle.desk_cli.specs.declared.show.ListLayout.{ListLayout}
use Rattle.invdesk.specs.Prints.{PrintsFault, PrintsLines, PrintsList, PrintsOfRow, PrintsReport, PrintsText}

pub prints_text : (told : List ℕ × Bool) (w w' : Option (List ℕ)) (end : RunEnd)
    → ((fine : Bool) → end ≡ Done fine → (fine ≡ told.1) × Appends w w' told.0)
    → (end ≡ WriteFailed → AppendsFront w w' told.0)
    → ((end ≡ Memory) ⊎ (end ≡ Store) → Keeps w w')
    → end ≢ ReadFailed
    → PrintsText told w w' end
prints_text told w w' (Done fine) whole front nothing never = whole fine refl
prints_text told w w' WriteFailed whole front nothing never = front refl
prints_text told w w' Memory whole front nothing never = nothing (inl refl)
prints_text told w w' Store whole front nothing never = nothing (inr refl)
prints_text told w w' ReadFailed whole front nothing never = absurd (never refl)

-- the same of what is printed line by line
pub prints_lines : (told : List ℕ × Bool) (w w' : Option (List ℕ)) (end : RunEnd)
    → ((fine : Bool) → end ≡ Done fine → (fine ≡ told.1) × Appends w w' told.0)
    → ((end ≡ WriteFailed) ⊎ (end ≡ Memory) → AppendsFront w w' told.0)
    → (end ≡ Store → Keeps w w')
    → end ≢ ReadFailed
    → PrintsLines told w w' end
prints_lines told w w' (Done fine) whole front nothing never = whole fine refl
prints_lines told w w' WriteFailed whole front nothing never = front (inl refl)
prints_lines told w w' Memory whole front nothing never = front (inr refl)
prints_lines told w w' Store whole front nothing never = nothing refl
prints_lines told w w' ReadFailed whole front nothing never = absurd (never refl)

pub prints_report : (name : ReportName) (number : ℕ) (s : State) (w w' : Option (List ℕ)) (end : RunEnd)
    → ((fine : Bool) → end ≡ Done fine → IsPrinted w w' (report_lines name number s) fine)
    → ((end ≡ WriteFailed) ⊎ (end ≡ Memory) → AppendsFront w w' (printed (report_lines name number s)).0)
    → (name ≢ History → end ≡ Memory → Keeps w w')
    → (end ≡ Store → Keeps w w')
    → end ≢ ReadFailed
    → PrintsReport name number s w w' end
prints_report name number s w w' end whole front none nothing never = go name whole front none
  where
    text : (it : ReportName) → it ≢ History
        → ((fine : Bool) → end ≡ Done fine → IsPrinted w w' (report_lines it number s) fine)
        → ((end ≡ WriteFailed) ⊎ (end ≡ Memory) → AppendsFront w w' (printed (report_lines it number s)).0)
        → (it ≢ History → end ≡ Memory → Keeps w w')
        → PrintsText (printed (report_lines it number s)) w w' end
    text it other whole front none =
        prints_text (printed (report_lines it number s)) w w' end whole (λ e. front (inl e))
        (λ h. elim h [ inl e ↦ none other e | inr e ↦ nothing e ]) never

    go : (it : ReportName)
        → ((fine : Bool) → end ≡ Done fine → IsPrinted w w' (report_lines it number s) fine)
        → ((end ≡ WriteFailed) ⊎ (end ≡ Memory) → AppendsFront w w' (printed (report_lines it number s)).0)
        → (it ≢ History → end ≡ Memory → Keeps w w')
        → PrintsReport it number s w w' end
    go History whole front none =
        prints_lines (printed (report_lines History number s)) w w' end whole front nothing never
    go Ledger whole front none = text Ledger (λ e. absurd cc) whole front none
    go Stock whole front none = text Stock (λ e. absurd cc) whole front none
    go WhereUsed whole front none = text WhereUsed (λ e. absurd cc) whole front none
    go Content whole front none = text Content (λ e. absurd cc) whole front none
    go Shortage whole front none = text Shortage (λ e. absurd cc) whole front none

pub prints_migrated : (w w' : Option (List ℕ)) (end : RunEnd)
    → ((all : Bool) → end ≡ Done all → (all ≡ true) × Appends w w' migrated_text)
    → (end ≡ WriteFailed → AppendsFront w w' migrated_text)
    → (end ≡ Done true) ⊎ (end ≡ WriteFailed)
    → PrintsText (migrated_text, true) w w' end
prints_migrated w w' end whole front (inl e) = subst (PrintsText (migrated_text, true) w w') (sym e) (whole true e)
prints_migrated w w' end whole front (inr e) = subst (PrintsText (migrated_text, true) w w') (sym e) (front e)

pub Keeps-refl : (w : Option (List ℕ)) → Keeps w w
Keeps-refl None = tt
Keeps-refl (Some x) = refl

-- ---- the report of a row that may be said by a word

-- the row was found
pub prints_found : (name : ReportName) (row : Result ℕ What) (number : ℕ) (s : State) (w w' : Option (List ℕ))
    (end : RunEnd) → row ≡ Ok number → PrintsReport name number s w w' end → PrintsOfRow name row s w w' end
prints_found name row number s w w' end found h = subst (λ r. PrintsOfRow name r s w w' end) (sym found) h

-- ... or the word says none
pub prints_unfound : (name : ReportName) (row : Result ℕ What) (what : What) (s : State) (w : Option (List ℕ))
    → row ≡ Err what → PrintsOfRow name row s w w (Done false)
prints_unfound name row what s w none =
    subst (λ r. PrintsOfRow name r s w w (Done false)) (sym none) (refl, Keeps-refl w)

nothing_front : (w : Option (List ℕ)) (text : List ℕ) → AppendsFront w w text
nothing_front w text = (0, omega arith, Appends-nil w)

no_memory : (name : ReportName) (number : ℕ) (s : State) (w : Option (List ℕ)) → PrintsReport name number s w w Memory
no_memory History number s w = nothing_front w (printed (report_lines History number s)).0
no_memory Ledger number s w = Keeps-refl w
no_memory Stock number s w = Keeps-refl w
no_memory WhereUsed number s w = Keeps-refl w
no_memory Content number s w = Keeps-refl w
no_memory Shortage number s w = Keeps-refl w

closed : (name : ReportName) (number : ℕ) (s : State) (w : Option (List ℕ)) → PrintsReport name number s w w Store
closed History number s w = Keeps-refl w
closed Ledger number s w = Keeps-refl w
closed Stock number s w = Keeps-refl w
closed WhereUsed number s w = Keeps-refl w
closed Content number s w = Keeps-refl w
closed Shortage number s w = Keeps-refl w

-- there was no memory to look it up
pub prints_no_memory : (name : ReportName) (row : Result ℕ What) (s : State) (w : Option (List ℕ))
    → PrintsOfRow name row s w w Memory
prints_no_memory name (Ok number) s w = no_memory name number s w
prints_no_memory name (Err what) s w = Keeps-refl w

-- the desk was closed
pub prints_closed : (name : ReportName) (row : Result ℕ What) (s : State) (w : Option (List ℕ))
    → PrintsOfRow name row s w w Store
prints_closed name (Ok number) s w = closed name number s w
prints_closed name (Err what) s w = Keeps-refl w

-- ---- a list, whose row may be said by a word

-- the list was found
pub list_found : (layout : ListLayout) (asked : Result Listing What) (listing : Listing) (s : State) (w w' : Option (List ℕ))
    (end : RunEnd) → asked ≡ Ok listing → PrintsText (laid_out layout (listing_lines listing s)) w w' end
    → PrintsList layout asked s w w' end
list_found layout asked listing s w w' end found h = subst (λ r. PrintsList layout r s w w' end) (sym found) h

-- ... or the word says none
pub list_unfound : (layout : ListLayout) (asked : Result Listing What) (what : What) (s : State) (w : Option (List ℕ))
    → asked ≡ Err what → PrintsList layout asked s w w (Done false)
list_unfound layout asked what s w none =
    subst (λ r. PrintsList layout r s w w (Done false)) (sym none) (refl, Keeps-refl w)

-- there was no memory to look it up
pub list_no_memory : (layout : ListLayout) (asked : Result Listing What) (s : State) (w : Option (List ℕ))
    → PrintsList layout asked s w w Memory
list_no_memory layout (Ok listing) s w = Keeps-refl w
list_no_memory layout (Err what) s w = Keeps-refl w

-- the desk was closed
pub list_closed : (layout : ListLayout) (asked : Result Listing What) (s : State) (w : Option (List ℕ))
    → PrintsList layout asked s w w Store
list_closed layout (Ok listing) s w = Keeps-refl w
list_closed layout (Err what) s w = Keeps-refl w

-- ---- the list of what has less free than its level

-- the file says these levels
pub low_found : (layout : ListLayout) (read : Result (List Level) Fault) (levels : List Level) (s : State)
    (w w' : Option (List ℕ)) (end : RunEnd) → read ≡ Ok levels
    → PrintsText (laid_out layout (low_list levels s)) w w' end
    → PrintsText (told_low layout (low_by read s)) w w' end
low_found layout read levels s w w' end found h =
    subst (λ r. PrintsText (told_low layout (low_by r s)) w w' end) (sym found) h

-- ... or it has this fault, of which the line was printed
pub low_failed : (layout : ListLayout) (read : Result (List Level) Fault) (e : FileError) (s : State)
    (w w' : Option (List ℕ)) (end : RunEnd) → FailsAs read e → PrintsFault e w w' end
    → PrintsText (told_low layout (low_by read s)) w w' end
low_failed layout read error.Memory s w w' end found (is, kept) =
    subst (PrintsText (told_low layout (low_by read s)) w w') (sym is) kept
low_failed layout read (error.Wrong what field) s w w' end found h =
    subst (λ r. PrintsText (told_low layout (low_by r s)) w w' end) (sym found) h
