-- Records as comma-separated values, and so the lines of a report.
use Rattle.std.specs.Prelude.{◌≡◌, ℕ, List, false, flat_map, Some}
use Rattle.std.specs.declared.vec.Vec.{Vec}
use Rattle.csv.specs.Writing.{default_writer, row_text, text_written, writer_setup, fields_written, has_written}
use Rattle.csv.specs.declared.writer.Writer.{Writer}
use Rattle.report_core.specs.Lines.{Lines}

-- a record for each line, in order, whose fields have quotes only where they need them
abbrev pub records_text : Lines → List ℕ
records_text lines = flat_map (row_text default_writer) lines

-- this text is written, and the next line is not begun
pub record HasLines {A : Type 0} (text : List ℕ) (writer : Writer (Vec ℕ A)) : Type 0 where
  pub written : text_written (λ v. Some v.items) writer ≡ Some text
  pub setup : writer_setup writer ≡ default_writer
  pub fields : fields_written writer ≡ 0
  pub wrote : has_written writer ≡ false
