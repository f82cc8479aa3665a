-- A service that counts the bytes that it is sent.
use Rattle.std.specs.Prelude.{◌≡◌, ℕ, Bool, ◌&&◌, ◌+◌, ◌%◌, ◌==◌, ◌++◌, List, [], ◌∷◌, length, decimal, codes, if◌then◌else◌}
use Rattle.std.specs.Prelude.{Option, Some, None, replicate}
use Rattle.std.specs.Str.{bytes_eq}
use Rattle.desk_http.specs.Services.{Machine, Operation, ReplyView}
use Rattle.desk_http.specs.declared.service.Outcome.TheVariants.{Answered, Refused, Faulty, Reported}
use Rattle.desk_http.specs.declared.service.Outcome.TheVariants.{AnsweredLines, Exported, FaultyLines, Unknown}
use Rattle.desk_http.specs.declared.service.Outcome.{Outcome}
use Rattle.desk_http.specs.declared.query.LineWords.{LineWords}
use Rattle.desk_http.specs.declared.query.ListWords.{ListWords}
use Rattle.desk_http.specs.declared.service.Tag.{Tag}
use Rattle.desk_http.specs.declared.service.Failure.{Failure}

abbrev pub number_line : ℕ → List ℕ
number_line n = decimal n ++ 10 ∷ []

abbrev pub more : ℕ → List ℕ → ℕ
more total body = (total % 65536 + length body % 65536) % 65536

-- the report of no number is refused, and that of 9 has no lines
abbrev pub report_said : ℕ → ReplyView
report_said number =
    if number == 0 then (Refused, number_line 0)
    else (if number == 9 then (Reported, []) else (Reported, number_line number))

-- what is counted has a tag, unless that is 7
abbrev pub total_tag : ℕ → Option Tag
total_tag total = if total == 7 then None else Some (record { began = 5; accepted = total })

-- the count is exported as `parts`, and as `items` so many bytes
abbrev pub table_said : ℕ → List ℕ → ReplyView
table_said total name =
    if bytes_eq name (codes "parts") then (Exported, number_line total)
    else (if bytes_eq name (codes "items") then (Exported, replicate total 97) else (Unknown, []))

-- a file of `add_part` is counted as others are, or its lines are faulty; there is no other command
abbrev pub sheet_said : ℕ → List ℕ → List ℕ → List ℕ → ℕ × ReplyView
sheet_said total command document file =
    if bytes_eq command (codes "add_part")
    then (if bytes_eq file (codes "faulty") then (total, (FaultyLines, number_line total))
    else (more total file, (Reported, document ++ 10 ∷ [])))
    else (total, (Unknown, []))

-- as comma-separated values, or in columns
abbrev pub list_outcome : ListWords → Outcome
list_outcome said = if said.csv then Exported else Reported

abbrev pub low_or : ℕ → Option ℕ → ℕ
low_or total None = total
low_or total (Some low) = low

-- the list `stock` has the count, or what is low; each other has its word, and there is none without one. No list has open
-- ones
abbrev pub word_said : Option (List ℕ) → ListWords → ReplyView
word_said None said = (Unknown, [])
word_said (Some word) said = (list_outcome said, word ++ 10 ∷ [])

abbrev pub list_said : ℕ → List ℕ → Option (List ℕ) → ListWords → ReplyView
list_said total list word said =
    if said.only_open then (Refused, number_line total)
    else (if bytes_eq list (codes "stock") then (list_outcome said, number_line (low_or total said.low))
    else word_said word said)

-- lines are counted and the count is told, or none where they stop at the first; `faulty` is a fault where they are looked at
abbrev pub lines_said : ℕ → LineWords → List ℕ → ℕ × ReplyView
lines_said total said text =
    if said.check && bytes_eq text (codes "faulty") then (total, (FaultyLines, number_line total))
    else (more total text, (AnsweredLines, number_line (if said.stop then 0 else more total text)))

-- nothing but the begin and the end is dumped
abbrev pub dumped : ℕ → List ℕ
dumped total = codes "BEGIN;\nCOMMIT;\n"

abbrev pub counting : Machine ℕ
counting = record {
  run_line = λ total body.
      if length body == 0 then (total, (Refused, number_line total))
      else (if bytes_eq body (codes "faulty") then (total, (Faulty, number_line total))
      else (more total body, (Answered, number_line (more total body))));
  import_file = λ total loose kind document day rows.
      if bytes_eq rows (codes "faulty") then (total, (Faulty, number_line total))
      else (more total rows, (Reported, document ++ (if loose then 126 ∷ 10 ∷ [] else 10 ∷ [])));
  show_report = λ total name number. report_said number;
  tag = total_tag;
  show_table = table_said;
  show_books = number_line;
  show_history = λ total from. number_line from;
  import_sheet = λ total command document day file. sheet_said total command document file;
  show_list = list_said;
  run_lines = lines_said;
  show_dump = dumped;
}

-- a failure leaves the count as it was
abbrev pub nothing_counted : Failure → ℕ → Operation → ℕ → Type 0
nothing_counted e total o total' = total' ≡ total
