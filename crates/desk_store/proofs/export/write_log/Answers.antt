use Rattle.std.proofs.Common.{Err, ap, map-id, refl, rules, subst, ◌∙◌}
use Rattle.std.specs.Io.KnownBytes.{Appends}
use Rattle.sheet_core.specs.Sheet.{now_of}
use Rattle.desk_store.specs.Exports.{Sends, rows_of}
use Rattle.desk_store.specs.RowForms.{line_in, lines_in, text_in}
use Rattle.desk_store.proofs.Exporting.{all-sent, front-of, next-sent, none-sent, same-text, sends-front}
use Rattle.desk_store.proofs.export.write_log.Goals as goal

pub loop-row-init : goal.loop-row-init
loop-row-init g c =
    none-sent (λ row. row) (lines_in c.args.form g.R.Stored.columns_of) (g.W.Write.contents c.args.writer.now) c.as_slice-rows.result.now

pub returns-in_err-write_row : goal.returns-in_err-write_row
returns-in_err-write_row g c =
    let columns = g.R.Stored.columns_of in
    let a = g.W.Write.contents c.args.writer.now in
    let b = g.W.Write.contents c.loop-row.writer in
    let d = g.W.Write.contents c.write_row.new.writer in
    let fault = c.in_err-write_row.field-0.0 in
    let rows = c.as_slice-rows.result.now in
    let it : Sends a d (text_in c.args.form (rows_of columns (now_of c.args.log.now))) (Err fault) =
    same-text a d _ _ (Err fault) (ap (lines_in c.args.form columns) (map-id rows ∙ c.as_slice-rows.ensures.rows))
    (sends-front a b d (line_in c.args.form (columns c.row-item.result)) _ fault c.in_err-write_row.ensures
    (front-of (λ row. row) (lines_in c.args.form columns) (λ r. line_in c.args.form (columns r)) refl (λ r rs. refl) a b d
    c.loop-row.row-index rows c.row-item.result c.loop-row-test.true c.row-item.is c.loop-row.invariant)) in
    search rules

pub loop-row-preserved : goal.loop-row-preserved
loop-row-preserved g c =
    let columns = g.R.Stored.columns_of in
    next-sent (λ row. row) (lines_in c.args.form columns) (λ r. line_in c.args.form (columns r)) refl (λ r rs. refl)
    (g.W.Write.contents c.args.writer.now) (g.W.Write.contents c.loop-row.writer)
    (g.W.Write.contents c.write_row.new.writer) c.loop-row.row-index c.as_slice-rows.result.now c.row-item.result
    c.loop-row-test.true c.row-item.is c.loop-row.invariant c.in_ok-write_row.ensures

pub returns : goal.returns
returns g c =
    let columns = g.R.Stored.columns_of in
    let rows = c.as_slice-rows.result.now in
    let a = g.W.Write.contents c.args.writer.now in
    let b = g.W.Write.contents c.loop-row.writer in
    subst (Appends a b) (ap (lines_in c.args.form columns) (map-id rows ∙ c.as_slice-rows.ensures.rows))
    (all-sent (λ row. row) (lines_in c.args.form columns) (λ r. line_in c.args.form (columns r)) refl (λ r rs. refl) a b
    c.loop-row.row-index rows c.loop-row-test.false c.loop-row.invariant)
