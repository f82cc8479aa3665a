use Rattle.std.proofs.Common.{ℕ, ◌∙◌, refl, sym}
use Rattle.csv.specs.Reading.{strip_bom}
use Rattle.desk_wire.specs.Imports.{separators}
use Rattle.desk_wire.specs.Levels.{first_columns}
use Rattle.desk_wire.specs.declared.levels.LevelColumns.{LevelColumns}
use Rattle.desk_wire.proofs.FirstLayouts.{not-none}
use Rattle.desk_wire.proofs.levels.read_levels.Goals as goal

pub returns-in-Err-Wrong : goal.returns-in-Err-Wrong
returns-in-Err-Wrong g c =
    let (bad, rest, e, h, is) = rw c.in-Err-Wrong.field-0-is at c.in-Err-Wrong.ensures in
    let layout : ℕ × LevelColumns = (c.in-Some.separator, c.in-Some.columns) in
    absurd
    (not-none first_columns (strip_bom c.args.bytes.now) separators layout bad rest
    (sym c.in_ok-separator.ensures ∙ c.in-Some.is) (sym c.records_of-reader.ensures.left ∙ e) (rw h refl))
