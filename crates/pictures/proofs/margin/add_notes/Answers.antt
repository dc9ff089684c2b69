use Rattle.texts.proofs.Writes.{buffers_more_read, adds_in_read}
use Rattle.pictures.specs.Margins.{note_text}
use Rattle.pictures.proofs.margin.add_notes.Goals as goal

pub loop-note-preserved : goal.loop-note-preserved
loop-note-preserved g c = buffers_more_read (note_text c.args.picture.now c.args.x) c.args.notes.now c.loop-note.note-index _ c.loop-note-test.true c.note-item.is c.loop-note.invariant c.in_ok-add_note.ensures

pub returns-in_err-add_note : goal.returns-in_err-add_note
returns-in_err-add_note g c = adds_in_read (note_text c.args.picture.now c.args.x) c.from_residual.result c.args.notes.now c.loop-note.note-index _ c.from_residual.ensures.0 c.loop-note-test.true c.note-item.is c.loop-note.invariant c.in_err-add_note.ensures
