-- Faults with their places, and what may stand there.
use Rattle.std.specs.Prelude.{ℕ, ◌+◌, ◌-◌, ◌==◌, List, length, take, drop, Option, None, Some, if◌then◌else◌}
use Rattle.chart.specs.declared.instance.EventNo.{EventNo}
use Rattle.cmd_explain_file.specs.declared.finding.Finding.{Finding}
use Rattle.cmd_explain_file.specs.declared.finding.What.{What}
use Rattle.cmd_explain_file.specs.declared.finding.What.TheVariants as whats
use Rattle.cmd_explain_file.specs.declared.kind.Kind.{Kind}
use Rattle.cmd_explain_file.specs.declared.kind.Kind.TheVariants as kinds
use Rattle.cmd_explain_file.specs.declared.verdict.Unread.{Unread}
use Rattle.cmd_explain_file.specs.declared.verdict.Unread.TheVariants as unreads
use Rattle.fault_places.specs.Spots.{spot_of}
use Rattle.fault_places.specs.Standings.{first_or, line_at, event_from}
use Rattle.fault_places.specs.declared.want.Want.{Want}
use Rattle.fault_places.specs.declared.want.Want.TheVariants as wants
use Rattle.diagram_join.specs.declared.error.JoinError.{JoinError}
use Rattle.diagram_join.specs.declared.error.JoinError.TheVariants as charts
use Rattle.texts.specs.Lines.{lines_of, end_of}
use Rattle.texts.specs.declared.fault.Cause.{Cause}
use Rattle.texts.specs.declared.fault.Cause.TheVariants.{Instances, LineFull, Duplicate, UnknownInstance}
use Rattle.texts.specs.declared.fault.Fault.{Fault}
use Rattle.texts.specs.declared.fault.Fault.TheVariants.{Line, Unfinished}
use Rattle.schedule.specs.declared.command.Note.{Note}

-- the line with this number, from 1, without its line feed; after the last line, the text after the last line feed
abbrev pub line_of : List ℕ → ℕ → List ℕ
line_of text line = first_or (end_of text) (drop (line - 1) (lines_of text))

-- what may stand at the beginning of a schedule's line
abbrev pub schedule_begin : ℕ → Want
schedule_begin line = if line == 1 then wants.Instances else (if line == 2 then wants.Capacity else wants.Actor)

-- what may stand at the beginning of the line with this number
unfoldable pub begin : Kind → List ℕ → ℕ → Want
begin kinds.Schedule text line = schedule_begin line
begin kinds.Chart text line = line_at wants.Msc (take (line - 1) (lines_of text))
begin _ text line = wants.Begin

-- what may be at the place of a fault; it is unknown for an event too many
abbrev pub wanted : Cause → Want → Option Want
wanted LineFull want = None
wanted _ want = Some want

-- the fault of this cause in the line with this number
unfoldable pub line_finding : Kind → List ℕ → ℕ → Cause → Finding
line_finding kind text line cause = record {
  what = whats.Line cause;
  line = line;
  place = (spot_of cause (line_of text 1) (line_of text line) (begin kind text line)).place;
  want = wanted cause (spot_of cause (line_of text 1) (line_of text line) (begin kind text line)).want;
}

-- what may follow a text that ends too early: a line feed, if its last line has none
unfoldable pub unfinished_want : Kind → List ℕ → ℕ → List ℕ → Want
unfinished_want kind text line end = if length end == 0 then begin kind text line else wants.LineFeed

-- F21, at the end of the text
unfoldable pub unfinished : Kind → List ℕ → Finding
unfinished kind text = record {
  what = whats.Unfinished;
  line = length (lines_of text) + 1;
  place = length (line_of text (length (lines_of text) + 1));
  want = Some (unfinished_want kind text (length (lines_of text) + 1) (line_of text (length (lines_of text) + 1)));
}

-- the first fault of a text of this kind
unfoldable pub fault_finding : Kind → List ℕ → Fault → Finding
fault_finding kind text (Line line cause) = line_finding kind text line cause
fault_finding kind text Unfinished = unfinished kind text

-- the note about text after a chart, by the fault of the whole text
unfoldable pub behind_finding : Kind → List ℕ → Fault → Finding
behind_finding kind text fault = record {
  what = whats.Behind;
  line = (fault_finding kind text fault).line;
  place = (fault_finding kind text fault).place;
  want = None;
}

-- a receive for which no message was sent, at its line's beginning
unfoldable pub no_send : List ℕ → EventNo → Finding
no_send text receive = record {
  what = whats.NoSend;
  line = event_from receive.instance receive.index 0 0 1 (lines_of text);
  place = 0;
  want = None;
}

-- a receive whose message was sent with another name, at the message's name
unfoldable pub other_name : List ℕ → EventNo → Finding
other_name text receive = record {
  what = whats.OtherName;
  line = event_from receive.instance receive.index 0 0 1 (lines_of text);
  place = 3;
  want = None;
}

-- a fault of a whole line
abbrev pub at_line : What → ℕ → Finding
at_line what line = record { what = what; line = line; place = 0; want = None }

-- a note that a command leaves
abbrev pub note_finding : Note → Finding
note_finding note = at_line (whats.Note note.word) note.line

-- the fault of a diagram that has no chart; a fault without a line is reported at the first line
unfoldable pub no_chart : JoinError → Finding
no_chart charts.Memory = at_line whats.NoSuchName 1
no_chart charts.NoSuchLine = at_line whats.NoSuchName 1
no_chart (charts.Taken line) = at_line (whats.Line Duplicate) line
no_chart charts.Instances = at_line (whats.Line Instances) 1
no_chart (charts.NotPossible line) = at_line whats.NotPossible line
no_chart (charts.LineFull line) = at_line (whats.Line LineFull) line

-- a place whose text can't be read
abbrev pub not_read : ℕ → ℕ → Finding
not_read line column = record { what = whats.NotRead; line = line; place = column - 1; want = None }

-- the end of a diagram's text
unfoldable pub diagram_end : Kind → List ℕ → Finding
diagram_end kind text = record {
  what = whats.Unfinished;
  line = (unfinished kind text).line;
  place = (unfinished kind text).place;
  want = None;
}

-- the fault of a diagram that can't be imported
unfoldable pub unread_finding : Kind → List ℕ → Unread → Finding
unread_finding kind text unreads.Usage = at_line whats.Usage 1
unread_finding kind text (unreads.NotRead place) = not_read place.line place.column
unread_finding kind text unreads.Unfinished = diagram_end kind text
unread_finding kind text (unreads.UnknownInstance line) = at_line (whats.Line UnknownInstance) line
unread_finding kind text (unreads.NoChart error) = no_chart error
