use Rattle.std.proofs.Common.{take}
use Rattle.std.specs.List.{flat_map}
use Rattle.texts.specs.Writing.{Buffers}
use Rattle.schedule.specs.Outcomes.OutcomeText.{note_text}
use Rattle.schedule.proofs.outcomes.text.add_notes.Given as goal

-- the notes so far were added
abbrev pub invariant-loop-note : goal.invariant-loop-note
invariant-loop-note g l =
    Buffers g.W.Out.sink l.initial.text l.text (flat_map note_text (take l.note-index l.notes))
