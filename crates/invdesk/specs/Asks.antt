-- A service on the loopback that is asked. What comes of it, and what is read and written here, is known to no clause.
use Rattle.std.specs.Prelude.{◌≡◌, ◌⊎◌, ◌&&◌, not, ℕ, List, Bool, Option, Some, None, Result, Ok, Err, if◌then◌else◌}
use Rattle.desk_http.specs.Asking.{is_done}
use Rattle.desk_http.specs.declared.question.Question.{Question}
use Rattle.desk_http.specs.declared.question.Question.TheVariants as question
use Rattle.desk_core.specs.declared.end.RunEnd.{RunEnd}
use Rattle.desk_core.specs.declared.end.RunEnd.TheVariants as end
use Rattle.desk_app.specs.Asked.{AsksAndPrints, RunsAt}
use Rattle.desk_app.specs.declared.heard.Trouble.{Trouble}
use Rattle.desk_app.specs.declared.heard.Trouble.TheVariants.{Foreign, Cut, Failed, NoToken, TooLong, ReadFailed, WriteFailed}
use Rattle.desk_app.specs.declared.heard.Trouble.TheVariants.{Store, Memory}
use Rattle.desk_cli.specs.declared.at_words.Asked.{Asked}
use Rattle.desk_cli.specs.declared.at_words.Asked.TheVariants as asked
use Rattle.desk_cli.specs.declared.at_words.AskedLines.{AskedLines}
use Rattle.invdesk.specs.Prints.{ends_quietly}

-- how the program ends
abbrev pub end_of_asking : Result Bool Trouble → RunEnd
end_of_asking (Ok fine) = end.Done fine
end_of_asking (Err Memory) = end.Memory
end_of_asking (Err Store) = end.Store
end_of_asking (Err WriteFailed) = end.WriteFailed
end_of_asking (Err ReadFailed) = end.ReadFailed
end_of_asking (Err Foreign) = end.ReadFailed
end_of_asking (Err Cut) = end.ReadFailed
end_of_asking (Err Failed) = end.ReadFailed
end_of_asking (Err NoToken) = end.ReadFailed
end_of_asking (Err TooLong) = end.ReadFailed

-- what is asked
abbrev pub question_of : Asked → Question
question_of (asked.Lines how) = question.Lines (record { stop = how.stop; check = how.check })
question_of (asked.Report name number) = question.Report name number
question_of (asked.Table table) = question.Export table
question_of asked.Dump = question.Dump
question_of (asked.Show list of words) =
    question.Show list of (record { csv = words.csv; only_open = words.only_open; low = words.low })
question_of (asked.File loose kind document day path) = question.Import loose kind document day
question_of asked.Stop = question.Stop

-- it was asked once, with some bytes; or those couldn't be read, or are too many, and nothing was asked
abbrev pub AsksOnce : Question → Result Bool Trouble → Type 0
AsksOnce question result =
    ((result ≡ Err ReadFailed) ⊎ ((result ≡ Err Memory) ⊎ (result ≡ Err TooLong)))
    ⊎ ((body : List ℕ) × AsksAndPrints question 0 body None None None None result)

-- lines are sent as they come, unless all are to be looked at before
abbrev pub sent_as_they_come : Asked → Option AskedLines
sent_as_they_come (asked.Lines how) = if how.check then None else Some how
sent_as_they_come _ = None

abbrev pub AsksBy : Option AskedLines → Asked → Result Bool Trouble → Type 0
AsksBy (Some how) it result = RunsAt how.stop None None None None None result
AsksBy None it result = AsksOnce (question_of it) result

abbrev pub IsAskedSo : Asked → Result Bool Trouble → Type 0
IsAskedSo it result = AsksBy (sent_as_they_come it) it result

-- the service was asked, and the program ends so: well, too, where what is only read couldn't be printed since whoever reads
-- it has gone
abbrev pub AsksService : Asked → RunEnd → Type 0
AsksService it ended =
    (is_left : Bool) × (result : Result Bool Trouble) × IsAskedSo it result
    × (ended ≡ ends_quietly (is_left && not (is_done (question_of it))) (end_of_asking result))
