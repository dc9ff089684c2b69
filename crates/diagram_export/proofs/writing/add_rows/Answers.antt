use Rattle.texts.proofs.Writes.{buffers_more_read, adds_in_read}
use Rattle.diagram_export.specs.ExportText.{row_text}
use Rattle.diagram_export.proofs.writing.add_rows.Goals as goal

pub loop-row-preserved : goal.loop-row-preserved
loop-row-preserved g c = buffers_more_read (row_text c.args.export.now) c.args.rows.now c.loop-row.row-index _ c.loop-row-test.true c.row-item.is c.loop-row.invariant c.in_ok-add_row.ensures

pub returns-in_err-add_row : goal.returns-in_err-add_row
returns-in_err-add_row g c = adds_in_read (row_text c.args.export.now) c.from_residual.result c.args.rows.now c.loop-row.row-index _ c.from_residual.ensures.0 c.loop-row-test.true c.row-item.is c.loop-row.invariant c.in_err-add_row.ensures
