use Rattle.texts.proofs.Writes.{buffers_more, adds_in}
use Rattle.schedule.specs.Outcomes.OutcomeText.{note_text}
use Rattle.schedule.proofs.outcomes.text.add_notes.Goals as goal

pub loop-note-preserved : goal.loop-note-preserved
loop-note-preserved g c = buffers_more note_text c.args.notes.now c.loop-note.note-index _ c.loop-note-test.true c.loop-note.invariant c.in_ok-add_note.ensures

pub returns-in_err-add_note : goal.returns-in_err-add_note
returns-in_err-add_note g c = adds_in note_text c.from_residual.result c.args.notes.now c.loop-note.note-index _ c.from_residual.ensures.0 c.loop-note-test.true c.loop-note.invariant c.in_err-add_note.ensures
