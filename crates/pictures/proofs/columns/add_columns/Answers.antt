use Rattle.texts.proofs.Writes.{buffers_more_read, adds_in_read}
use Rattle.pictures.specs.ColumnText.{column_text}
use Rattle.pictures.proofs.columns.add_columns.Goals as goal

pub loop-column-preserved : goal.loop-column-preserved
loop-column-preserved g c = buffers_more_read (column_text c.args.picture.now) c.args.columns.now c.loop-column.column-index _ c.loop-column-test.true c.column-item.is c.loop-column.invariant c.in_ok-add_column.ensures

pub returns-in_err-add_column : goal.returns-in_err-add_column
returns-in_err-add_column g c = adds_in_read (column_text c.args.picture.now) c.from_residual.result c.args.columns.now c.loop-column.column-index _ c.from_residual.ensures.0 c.loop-column-test.true c.column-item.is c.loop-column.invariant c.in_err-add_column.ensures
