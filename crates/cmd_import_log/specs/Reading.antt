-- The contents of a log's texts, given the matches of an expression and their groups, as the regex crate finds them.
use Rattle.std.specs.Prelude.{◌≡◌, ℕ, ◌==◌, ◌&&◌, Bool, true, false, List, [], ◌∷◌, Option, None, Some, if◌then◌else◌}
use Rattle.regex.specs.Bytes.{regex_pattern}
use Rattle.log_formats.specs.Clocks.Saying.{by_clocks, is_timed}
use Rattle.std.specs.List.{list_any}
use Rattle.log_lines.specs.Events.{LoggedEventView}
use Rattle.log_lines.specs.PlainReading.{plain_read}
use Rattle.log_lines.specs.Reading.{ReadView, read_view}
use Rattle.log_lines.specs.ShiViz.{shiviz_read}
use Rattle.log_lines.specs.declared.event.Act.{Act}
use Rattle.log_lines.specs.declared.event.Act.TheVariants.{Send, Receive}
use Rattle.log_lines.specs.declared.event.Place.{Place}
use Rattle.log_lines.specs.declared.range.LineRange.{LineRange}
use Rattle.log_formats.specs.Patterns.Expressions.{IsExpression, IsFault}
use Rattle.log_formats.specs.Patterns.PatternReading.{pattern_read}
use Rattle.log_formats.specs.declared.patterns.expression.Expression.{Expression}
use Rattle.cmd_import_log.specs.Counting.{lines_read}
use Rattle.cmd_import_log.specs.Options.{FormView, Plain, Pattern, ShiViz}
use Rattle.cmd_import_log.specs.declared.error.LogImportError.{LogImportError}
use Rattle.cmd_import_log.specs.declared.error.LogImportError.TheVariants as errors
use Rattle.cmd_import_log.specs.declared.reading.ReadLog.{ReadLog}

-- some line is a receive
abbrev pub is_receive : Act → Bool
is_receive Send = false
is_receive Receive = true

abbrev pub has_receive : List LoggedEventView → Bool
has_receive logged = list_any (λ s. is_receive s.event.act) logged

-- what is read, the number of lines, whether messages were captured, and whether clocks imply some
pub record LogView : Type 0 where
  pub read : ReadView
  pub lines : ℕ
  pub is_captured : Bool
  pub is_timed : Bool

abbrev pub log_view : ReadLog → LogView
log_view l = record { read = read_view l.read; lines = l.lines; is_captured = l.is_captured; is_timed = l.is_timed }

abbrev pub plain_log : LineRange → List (List ℕ) → LogView
plain_log range texts = record { read = plain_read range texts; lines = lines_read range texts; is_captured = false; is_timed = false }

abbrev pub clocked_log : LineRange → List (List ℕ) → LogView
clocked_log range texts = record {
  read = by_clocks (shiviz_read range texts);
  lines = lines_read range texts;
  is_captured = false;
  is_timed = is_timed (shiviz_read range texts);
}

-- the previous event is of the line at this place
abbrev pub is_of_line : Option Place → Place → Bool
is_of_line None place = false
is_of_line (Some above) place = above.text == place.text && above.line == place.line

-- a line has two events: the send and the receive of a captured message
abbrev pub is_captured : Option Place → List LoggedEventView → Bool
is_captured above [] = false
is_captured above (s ∷ logged) = if is_of_line above s.place then true else is_captured (Some s.place) logged

-- the contents that an expression finds
abbrev pub found : Expression → LineRange → List (List ℕ) → ReadView
found e range texts = pattern_read e.groups e.more (regex_pattern e.regex) range texts

abbrev pub pattern_log : Expression → LineRange → List (List ℕ) → LogView
pattern_log e range texts = record {
  read = by_clocks (found e range texts);
  lines = lines_read range texts;
  is_captured = is_captured None (found e range texts).logged;
  is_timed = is_timed (found e range texts);
}

-- the lines of the texts in this range have these contents, by the expression with this text
abbrev pub IsReadBy : List ℕ → LineRange → List (List ℕ) → LogView → Type 0
IsReadBy text range texts log = (e : Expression) × IsExpression text e × (log ≡ pattern_log e range texts)

-- the lines of the texts in this range have these contents
abbrev pub Says : FormView → LineRange → List (List ℕ) → LogView → Type 0
Says Plain range texts log = log ≡ plain_log range texts
Says (Pattern text) range texts log = IsReadBy text range texts log
Says ShiViz range texts log = log ≡ clocked_log range texts

-- the expression that reads the texts is kept, if there is one
abbrev pub IsKept : FormView → Option Expression → Type 0
IsKept Plain e = Unit {0}
IsKept (Pattern text) None = ⊥
IsKept (Pattern text) (Some e) = IsExpression text e
IsKept ShiViz e = Unit {0}

-- the text is no expression, since it has this fault at this place; or memory ran out
abbrev pub IsBadExpression : List ℕ → LogImportError → Type 0
IsBadExpression text errors.Memory = Unit {0}
IsBadExpression text (errors.BadPattern place fault) = IsFault text place fault
IsBadExpression text (errors.NotALog lines others unread) = ⊥
IsBadExpression text (errors.NoReceive sends lines others unread) = ⊥
IsBadExpression text errors.Instances = ⊥
IsBadExpression text (errors.ToItself place) = ⊥
IsBadExpression text (errors.LineFull name) = ⊥

-- no expression is needed, so memory ran out
abbrev pub IsMemory : LogImportError → Type 0
IsMemory errors.Memory = Unit {0}
IsMemory (errors.BadPattern place fault) = ⊥
IsMemory (errors.NotALog lines others unread) = ⊥
IsMemory (errors.NoReceive sends lines others unread) = ⊥
IsMemory errors.Instances = ⊥
IsMemory (errors.ToItself place) = ⊥
IsMemory (errors.LineFull name) = ⊥

-- the texts can't be read
abbrev pub IsBadForm : FormView → LogImportError → Type 0
IsBadForm Plain error = IsMemory error
IsBadForm (Pattern text) error = IsBadExpression text error
IsBadForm ShiViz error = IsMemory error
