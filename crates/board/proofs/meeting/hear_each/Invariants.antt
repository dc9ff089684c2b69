use Rattle.std.proofs.Common.{◌≡◌, ℕ}
use Rattle.std.specs.Prelude.{slice_get, Some}
use Rattle.board_table.specs.Knowing.{held}
use Rattle.board.specs.Views.{PostView}
use Rattle.board.specs.Meeting.{HaveHeard, IsNoteOf}
use Rattle.board.proofs.meeting.hear_each.Given as goal

abbrev pub invariant-loop-post : goal.invariant-loop-post
invariant-loop-post l = record {
  heard : HaveHeard l.post-index l.initial.posts (held l.initial.note.me).seen l.posts (held l.note.me).seen;
  note : (i : ℕ) → (post : PostView) → slice_get l.initial.posts i ≡ Some post → IsNoteOf l.note.table_id l.note.me post;
}
