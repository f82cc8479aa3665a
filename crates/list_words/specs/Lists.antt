-- A list as words ask for it, and as it is shown.
use Rattle.std.specs.Prelude.{ℕ, codes, ◌&&◌, not, List, Bool, true, false, Option, Some, None, is_none, Result, Ok, Err}
use Rattle.std.specs.Prelude.{if◌then◌else◌, option_map}
use Rattle.std.specs.Borrow.{Bor}
use Rattle.std.specs.Str.{bytes_eq}
use Rattle.word_core.specs.declared.field.RowKind.TheVariants.{Item, Location, Order, Part}
use Rattle.word_core.specs.declared.refusal.Refusal.TheVariants.{NoSuch}
use Rattle.desk_core.specs.Machine.{State}
use Rattle.report_core.specs.Columns.{columns_text}
use Rattle.report_core.specs.Lines.{Lines}
use Rattle.report_core.specs.declared.name.ReportName.{ReportName}
use Rattle.list_core.specs.BuildList.{build_list}
use Rattle.list_core.specs.CountSheet.{count_sheet as count_sheet_lines}
use Rattle.list_core.specs.FindList.{find_list}
use Rattle.list_core.specs.ItemList.{item_list}
use Rattle.list_core.specs.Listings.{listing_lines}
use Rattle.list_core.specs.NamedReports.{named_report}
use Rattle.list_core.specs.OrderList.{order_list}
use Rattle.list_core.specs.PartList.{part_list}
use Rattle.list_core.specs.PlaceList.{place_list}
use Rattle.list_core.specs.HistoryList.{Span, history_list, span_of}
use Rattle.list_core.specs.ReceiptSheet.{receipt_sheet as receipt_sheet_lines}
use Rattle.list_core.specs.ShortageList.{shortage_list}
use Rattle.list_core.specs.StockList.{stock_list}
use Rattle.list_core.specs.Trace.{batch_items, item_roots}
use Rattle.list_core.specs.TraceList.{has_batch, trace_list}
use Rattle.list_core.specs.declared.walk.Direction.TheVariants.{Forward, Back}
use Rattle.list_core.specs.declared.listing.Listing.{Listing}
use Rattle.list_core.specs.declared.listing.Listing.TheVariants as listing
use Rattle.report_core.specs.Records.{records_text}
use Rattle.desk_wire.specs.Reading.{table_of}
use Rattle.desk_wire.specs.Writing.{refused_text}
use Rattle.desk_wire.specs.declared.fault.What.{What}
use Rattle.report_core.specs.Cut.{cut_fields, cut_lines}
use Rattle.report_core.specs.Escaped.{escaped_lines}
use Rattle.list_words.specs.WordRows.{row_at, subject_at}
use Rattle.list_words.specs.declared.list_of.ListOf.{ListOf}
use Rattle.list_words.specs.declared.list_of.ListOf.TheVariants as list

-- ---- which list

-- what a list is of, and what is said of it: the texts are what was said
pub data Listed : Type 0 where
  stock : Option ℕ → Listed
  at : List ℕ → Listed
  part : List ℕ → Listed
  item : List ℕ → Listed
  orders : Bool → Listed
  builds : Bool → Listed
  find : List ℕ → Listed
  shortages : Listed
  trace_forward : List ℕ → Listed
  trace_back : List ℕ → Listed
  count_sheet : Option (List ℕ) → Listed
  receipt_sheet : Option (List ℕ) → Listed
  history : Option (List ℕ) → Span → Listed
  named : ReportName → List ℕ → Listed

abbrev pub listed_of : ListOf → Listed
listed_of (list.Stock low) = stock low
listed_of (list.At location) = at location.now
listed_of (list.Part word) = part word.now
listed_of (list.Item word) = item word.now
listed_of (list.Orders only_open) = orders only_open
listed_of (list.Builds only_open) = builds only_open
listed_of (list.Find word) = find word.now
listed_of list.Shortages = shortages
listed_of (list.TraceForward word) = trace_forward word.now
listed_of (list.TraceBack word) = trace_back word.now
listed_of (list.CountSheet location) = count_sheet (option_map (λ word. word.now) location)
listed_of (list.ReceiptSheet order) = receipt_sheet (option_map (λ word. word.now) order)
listed_of (list.History of days) = history (option_map (λ word. word.now) of) (span_of days)
listed_of (list.Report name word) = named name word.now

-- with what is in stock goes an amount below which a part is low, and nothing else
abbrev pub stock_by : Option (List ℕ) → Option ℕ → Bool → Option Listed
stock_by of low only_open = if is_none of && not only_open then Some (stock low) else None

-- what goes with a list of another name: a word, or none; and with orders and builds whether the open ones alone are meant
abbrev pub other_by : List ℕ → Option (List ℕ) → Bool → Option Listed
other_by name of only_open =
    if bytes_eq name (codes "at") then (if only_open then None else option_map at of)
    else if bytes_eq name (codes "part") then (if only_open then None else option_map part of)
    else if bytes_eq name (codes "item") then (if only_open then None else option_map item of)
    else if bytes_eq name (codes "orders") then (if is_none of then Some (orders only_open) else None)
    else if bytes_eq name (codes "builds") then (if is_none of then Some (builds only_open) else None)
    else if bytes_eq name (codes "find") then (if only_open then None else option_map find of)
    else if bytes_eq name (codes "shortages") then (if is_none of && not only_open then Some shortages else None)
    else if bytes_eq name (codes "count-sheet") then (if only_open then None else Some (count_sheet of))
    else if bytes_eq name (codes "receipt-sheet") then (if only_open then None else Some (receipt_sheet of))
    else None

-- with where something went goes its word, and nothing else
abbrev pub way_forward : Option (List ℕ) → Bool → Option Listed
way_forward of only_open = if only_open then None else option_map trace_forward of

-- and so it is with where an item came from
abbrev pub way_back : Option (List ℕ) → Bool → Option Listed
way_back of only_open = if only_open then None else option_map trace_back of

-- a list of where something went, or where it came from, or another one
abbrev pub trace_by : List ℕ → Option (List ℕ) → Bool → Option Listed
trace_by name of only_open =
    if bytes_eq name (codes "trace-forward") then way_forward of only_open
    else if bytes_eq name (codes "trace-back") then way_back of only_open
    else other_by name of only_open

-- the list of that name, by the word, the amount and the flag that are said with it
abbrev pub list_by : List ℕ → Option (List ℕ) → Option ℕ → Bool → Option Listed
list_by name of low only_open =
    if bytes_eq name (codes "stock") then stock_by of low only_open
    else if is_none low then trace_by name of only_open
    else None

-- the word that says what row it is of, if it is of one
abbrev pub word_of : ListOf → Option (Bor (List ℕ))
word_of (list.At word) = Some word
word_of (list.Part word) = Some word
word_of (list.Item word) = Some word
word_of (list.TraceForward word) = Some word
word_of (list.TraceBack word) = Some word
word_of (list.CountSheet word) = word
word_of (list.ReceiptSheet word) = word
word_of (list.History word days) = word
word_of (list.Report name word) = Some word
word_of _ = None

-- ---- its row

-- a list of the row of a number, or why a word says none
abbrev pub of_row : (ℕ → Listing) → Result ℕ What → Result Listing What
of_row list (Ok number) = Ok (list number)
of_row list (Err what) = Err what

-- where a batch or an item went: the word is a batch where any item has it, else it says an item
abbrev pub forward_by : Bor (List ℕ) → Bool → State → Result Listing What
forward_by word true s = Ok (listing.TraceBatch word)
forward_by word false s = of_row (λ number. listing.TraceForward number) (row_at Item word.now s)

-- the list that is asked for
abbrev pub listing_by : ListOf → State → Result Listing What
listing_by (list.Stock low) s = Ok (listing.Stock low)
listing_by (list.At word) s = of_row (λ number. listing.At number) (row_at Location word.now s)
listing_by (list.Part word) s = of_row (λ number. listing.Part number) (row_at Part word.now s)
listing_by (list.Item word) s = of_row (λ number. listing.Item number) (row_at Item word.now s)
listing_by (list.Orders only_open) s = Ok (listing.Orders only_open)
listing_by (list.Builds only_open) s = Ok (listing.Builds only_open)
listing_by (list.Find word) s = Ok (listing.Find word)
listing_by list.Shortages s = Ok listing.Shortages
listing_by (list.TraceForward word) s = forward_by word (has_batch word.now s) s
listing_by (list.TraceBack word) s = of_row (λ number. listing.TraceBack number) (row_at Item word.now s)
listing_by (list.CountSheet None) s = Ok (listing.CountSheet None)
listing_by (list.CountSheet (Some word)) s =
    of_row (λ number. listing.CountSheet (Some number)) (row_at Location word.now s)
listing_by (list.ReceiptSheet None) s = Ok (listing.ReceiptSheet None)
listing_by (list.ReceiptSheet (Some word)) s =
    of_row (λ number. listing.ReceiptSheet (Some number)) (row_at Order word.now s)
listing_by (list.History None days) s = Ok (listing.History None days)
listing_by (list.History (Some word) days) s =
    of_row (λ number. listing.History (Some number) days) (subject_at word.now s)
listing_by (list.Report name word) s =
    of_row (λ number. listing.Report name number) (row_at (table_of name) word.now s)

-- the lines of such a list, if there is its row
abbrev pub lines_of : Result Listing What → State → Result (Option Lines) What
lines_of (Ok listing) s = Ok (listing_lines listing s)
lines_of (Err what) s = Err what

-- ---- its lines, said at once

-- those of the row of a number, or why a word says none
abbrev pub lines_at : (ℕ → Option Lines) → Result ℕ What → Result (Option Lines) What
lines_at lines (Ok number) = Ok (lines number)
lines_at lines (Err what) = Err what

abbrev pub forward_lines : List ℕ → Bool → State → Result (Option Lines) What
forward_lines word true s = Ok (trace_list Forward s (batch_items word s))
forward_lines word false s = lines_at (λ item. trace_list Forward s (item_roots item s)) (row_at Item word s)

-- the lines of a list; none where there is no such row; or why its word says none
abbrev pub lines_by : Listed → State → Result (Option Lines) What
lines_by (stock low) s = Ok (Some (stock_list low s))
lines_by (at word) s = lines_at (λ location. place_list location s) (row_at Location word s)
lines_by (part word) s = lines_at (λ number. part_list number s) (row_at Part word s)
lines_by (item word) s = lines_at (λ number. item_list number s) (row_at Item word s)
lines_by (orders only_open) s = Ok (Some (order_list only_open s))
lines_by (builds only_open) s = Ok (Some (build_list only_open s))
lines_by (find word) s = Ok (Some (find_list word s))
lines_by shortages s = Ok (Some (shortage_list s))
lines_by (trace_forward word) s = forward_lines word (has_batch word s) s
lines_by (trace_back word) s = lines_at (λ item. trace_list Back s (item_roots item s)) (row_at Item word s)
lines_by (count_sheet None) s = Ok (count_sheet_lines None s)
lines_by (count_sheet (Some word)) s =
    lines_at (λ location. count_sheet_lines (Some location) s) (row_at Location word s)
lines_by (receipt_sheet None) s = Ok (receipt_sheet_lines None s)
lines_by (receipt_sheet (Some word)) s =
    lines_at (λ order. receipt_sheet_lines (Some order) s) (row_at Order word s)
lines_by (history None days) s = Ok (history_list None days s)
lines_by (history (Some word) days) s = lines_at (λ number. history_list (Some number) days s) (subject_at word s)
lines_by (named name word) s = lines_at (λ number. named_report name number s) (row_at (table_of name) word s)

-- ---- as it is shown

-- its lines in columns, or as comma-separated values
abbrev pub list_text : Bool → Lines → List ℕ
list_text true lines = records_text lines
list_text false lines = columns_text lines

-- the text of a list, and that there is one; where there is none, that there is no such row
abbrev pub shown_list : Bool → Option Lines → List ℕ × Bool
shown_list csv (Some lines) = (list_text csv lines, true)
shown_list csv None = (refused_text NoSuch, false)

-- its lines in columns at a person's terminal, each field escaped: where it is known how wide that is no line is longer, else
-- no name is long
abbrev pub told_text : Option ℕ → Lines → List ℕ
told_text (Some most) lines = cut_lines most (columns_text (escaped_lines lines))
told_text None lines = columns_text (cut_fields (escaped_lines lines))

-- the same at a person's terminal, or elsewhere
abbrev pub told_list : Bool → Bool → Option ℕ → Option Lines → List ℕ × Bool
told_list csv false most lines = shown_list csv lines
told_list true true most lines = shown_list true lines
told_list false true most (Some lines) = (told_text most lines, true)
told_list false true most None = shown_list false None
