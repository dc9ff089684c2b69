use Rattle.std.proofs.Common.{take}
use Rattle.std.specs.List.{flat_map}
use Rattle.texts.specs.Writing.{Buffers}
use Rattle.pictures.specs.Margins.{note_text}
use Rattle.pictures.proofs.margin.add_notes.Given as goal

-- the texts so far were added
abbrev pub invariant-loop-note : goal.invariant-loop-note
invariant-loop-note g l = Buffers g.W.Out.sink l.initial.text l.text (flat_map (note_text l.picture l.x) (take l.note-index l.notes))
