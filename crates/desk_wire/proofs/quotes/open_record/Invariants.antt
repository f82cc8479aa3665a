use Rattle.std.proofs.Common.{◌≡◌, ◌≤◌, drop, Some}
use Rattle.csv.specs.Reading.{strip_bom}
use Rattle.csv.specs.declared.parser.State.{State}
use Rattle.csv.specs.declared.parser.State.TheVariants as st
use Rattle.desk_wire.specs.Layouts.{place_of}
use Rattle.desk_wire.specs.Records.{config_by}
use Rattle.desk_wire.proofs.OpenQuotes.{open_at}
use Rattle.desk_wire.proofs.quotes.open_record.Given as goal

abbrev pub invariant-loop-index : goal.invariant-loop-index
invariant-loop-index l =
    let text = strip_bom l.bytes in record {
      state : State;
      place : place_of state ≡ Some l.place;
      few : l.ended ≤ l.index;
      so_far :
          open_at (config_by l.separator) st.StartRecord 0 text
          ≡ open_at (config_by l.separator) state l.ended (drop l.index text);
    }
