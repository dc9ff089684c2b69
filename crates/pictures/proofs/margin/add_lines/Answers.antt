use Rattle.texts.proofs.Writes.{buffers_more_read, adds_in_read}
use Rattle.pictures.specs.Margins.{dividing_line}
use Rattle.pictures.proofs.margin.add_lines.Goals as goal

pub loop-note-preserved : goal.loop-note-preserved
loop-note-preserved g c = buffers_more_read (dividing_line c.args.picture.now c.args.x) c.args.notes.now c.loop-note.note-index _ c.loop-note-test.true c.note-item.is c.loop-note.invariant c.in_ok-add_dividing_line.ensures

pub returns-in_err-add_dividing_line : goal.returns-in_err-add_dividing_line
returns-in_err-add_dividing_line g c = adds_in_read (dividing_line c.args.picture.now c.args.x) c.from_residual.result c.args.notes.now c.loop-note.note-index _ c.from_residual.ensures.0 c.loop-note-test.true c.note-item.is c.loop-note.invariant c.in_err-add_dividing_line.ensures
