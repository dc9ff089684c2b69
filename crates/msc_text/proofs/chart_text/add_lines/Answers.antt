use Rattle.texts.proofs.Writes.{buffers_more, adds_in}
use Rattle.msc_text.specs.ChartText.{line_text}
use Rattle.msc_text.proofs.chart_text.add_lines.Goals as goal

pub loop-line-preserved : goal.loop-line-preserved
loop-line-preserved g c = buffers_more (line_text c.args.names.now) c.args.lines.now c.loop-line.line-index c.line-item.result c.loop-line-test.true c.loop-line.invariant (rw (← c.line-item.is) c.in_ok-add_line.ensures)

pub returns-in_err-add_line : goal.returns-in_err-add_line
returns-in_err-add_line g c = adds_in (line_text c.args.names.now) c.from_residual.result c.args.lines.now c.loop-line.line-index c.line-item.result c.from_residual.ensures.0 c.loop-line-test.true c.loop-line.invariant (rw (← c.line-item.is) c.in_err-add_line.ensures)
