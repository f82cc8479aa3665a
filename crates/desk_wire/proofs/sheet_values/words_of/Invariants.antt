use Rattle.std.proofs.Common.{◌≡◌, ◌++◌, [], drop, map}
use Rattle.serde_json.specs.Data.{string}
use Rattle.serde_json.specs.View.{view}
use Rattle.desk_wire.specs.Sheets.{words_from}
use Rattle.desk_wire.proofs.sheet_values.words_of.Given as goal

abbrev pub invariant-loop-b : goal.invariant-loop-b
invariant-loop-b l =
    map string (words_from [] l.b-items)
    ≡ map view l.words.items ++ map string (words_from l.word.items (drop l.b-index l.b-items))
