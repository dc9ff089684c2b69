-- The notes in the margin of a picture (this project's own).
use Rattle.std.specs.Prelude.{ℕ, Bool, List}
use Rattle.chart_layout.specs.declared.margin.MarginNote.{MarginNote}

-- a text beside a row: the number of messages that are sent above it, its bytes, and whether it separates the rows
pub record NoteView : Type 0 where
  pub above : ℕ
  pub text : List ℕ
  pub divides : Bool

abbrev pub note_view : MarginNote → NoteView
note_view n = record { above = n.above; text = n.text.items; divides = n.divides }
