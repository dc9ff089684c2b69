use Rattle.texts.proofs.Writes.{buffers_more_read, adds_in_read}
use Rattle.cmd_base.specs.Contents.{Named}
use Rattle.cmd_compare.specs.Comparisons.{line_text}
use Rattle.cmd_compare.proofs.comparison_text.add_lines.Goals as goal

pub loop-line-preserved : goal.loop-line-preserved
loop-line-preserved g c =
    let first : Named = (c.args.first.now.names.now, c.args.first.now.lines.now) in
    let second : Named = (c.args.second.now.names.now, c.args.second.now.lines.now) in
    buffers_more_read (line_text c.args.form first second) c.args.lines.now c.loop-line.line-index _ c.loop-line-test.true c.line-item.is c.loop-line.invariant c.in_ok-add_line.ensures

pub returns-in_err-add_line : goal.returns-in_err-add_line
returns-in_err-add_line g c =
    let first : Named = (c.args.first.now.names.now, c.args.first.now.lines.now) in
    let second : Named = (c.args.second.now.names.now, c.args.second.now.lines.now) in
    adds_in_read (line_text c.args.form first second) c.from_residual.result c.args.lines.now c.loop-line.line-index _ c.from_residual.ensures.0 c.loop-line-test.true c.line-item.is c.loop-line.invariant c.in_err-add_line.ensures
