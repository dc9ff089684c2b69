use Rattle.std.proofs.Common.{◌≡◌, length}
use Rattle.texts.specs.Lines.{lines_of}
use Rattle.cmd_page.specs.Text.EventRows.{done_by, row_from, row_of}
use Rattle.cmd_page.proofs.text.event_rows.row_of.Given as goal

-- the row is the one in the rest
abbrev pub invariant-lines : goal.invariant-lines
invariant-lines l = row_from (done_by l.deed) l.left l.number (lines_of l.rest) ≡ row_of (done_by l.deed) l.turn l.text

abbrev pub decreases-lines : goal.decreases-lines
decreases-lines l = length l.rest
