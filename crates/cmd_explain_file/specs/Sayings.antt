-- The text of the explanation of a file, in the style of a compiler's messages.
use Rattle.std.specs.Prelude.{◌≡◌, ℕ, ◌+◌, ◌-◌, ◌==◌, List, [], ◌∷◌, ◌++◌, length, take, drop, min, codes, decimal, Option, None, Some, if◌then◌else◌}
use Rattle.std.specs.List.{flat_map}
use Rattle.cmd_explain_file.specs.Findings.{line_of, note_finding}
use Rattle.cmd_explain_file.specs.Words.{kind_words, start_of, what_label, what_words, want_words}
use Rattle.cmd_explain_file.specs.declared.finding.Finding.{Finding}
use Rattle.cmd_explain_file.specs.declared.finding.What.{What}
use Rattle.cmd_explain_file.specs.declared.saying.Saying.{Saying}
use Rattle.cmd_explain_file.specs.declared.saying.Saying.TheVariants.{Kind, Read, Cyclic, Tidy, Log}
use Rattle.cmd_explain_file.specs.declared.saying.Saying.TheVariants as sayings
use Rattle.schedule_replay.specs.declared.notes.notes.Noted.{Noted}
use Rattle.fault_places.specs.NamedCycles.{step_text}
use Rattle.fault_places.specs.declared.want.Want.{Want}
use Rattle.cmd_import_diagram.specs.Diagnostics.{left_out_line, overtaking_line}
use Rattle.texts.specs.Bytes.Classes.{printable}
use Rattle.texts.specs.Lines.{lines_of, end_of}

abbrev pub blank : ℕ → List ℕ
blank b = 32 ∷ []

-- a byte of the file, as a terminal shows it in one column: a tab as a blank, and an unprintable byte as `?`
abbrev pub shown_byte : ℕ → List ℕ
shown_byte b = if b == 9 then 32 ∷ [] else printable b ∷ []

-- the part of a line that is shown before a place: the last 60 bytes
abbrev pub before : List ℕ → ℕ → List ℕ
before line place = drop (place - 60) (take place line)

-- the part of a line that is shown from a place on: the first 40 bytes
abbrev pub behind : List ℕ → ℕ → List ℕ
behind line place = take (min (length (drop place line)) 40) (drop place line)

unfoldable pub bar : List ℕ
bar = codes " |\n"

unfoldable pub stands : List ℕ
stands = codes " | "

unfoldable pub caret : List ℕ
caret = codes "^\n"

unfoldable pub end : List ℕ
end = codes "\n"

-- the heading of a fault or note
unfoldable pub head_text : What → List ℕ
head_text what = start_of what ++ (what_label what ++ (codes ": " ++ (what_words what ++ codes "\n")))

unfoldable pub arrow : ℕ → ℕ → List ℕ
arrow line column = codes "--> line " ++ (decimal line ++ (codes ", column " ++ (decimal column ++ codes "\n")))

-- its position; the margin is as wide as the line's number
unfoldable pub at_text : ℕ → ℕ → List ℕ
at_text line column = flat_map blank (decimal line) ++ arrow line column

unfoldable pub bar_text : ℕ → List ℕ
bar_text line = flat_map blank (decimal line) ++ bar

-- the line itself
unfoldable pub quote_text : ℕ → List ℕ → List ℕ → List ℕ
quote_text line before behind =
    decimal line ++ (stands ++ (flat_map shown_byte before ++ (flat_map shown_byte behind ++ end)))

-- the caret, under the byte at the place
unfoldable pub caret_text : ℕ → List ℕ → List ℕ
caret_text line before = flat_map blank (decimal line) ++ (stands ++ (flat_map blank before ++ caret))

unfoldable pub here : List ℕ
here = codes " = here may stand: "

unfoldable pub wanted_text : Want → List ℕ
wanted_text want = here ++ (want_words want ++ end)

-- what may stand at the place, if that is known
unfoldable pub want_text : ℕ → Option Want → List ℕ
want_text line None = []
want_text line (Some want) = flat_map blank (decimal line) ++ wanted_text want

-- a line with a caret under a place on it
unfoldable pub shown_text : ℕ → List ℕ → ℕ → List ℕ
shown_text line bytes place = at_text line (place + 1)
    ++ (bar_text line ++ (quote_text line (before bytes place) (behind bytes place) ++ caret_text line (before bytes place)))

-- a fault or note, with its place in the line, which is shown with this number
unfoldable pub numbered_text : List ℕ → ℕ → Finding → List ℕ
numbered_text line number f = head_text f.what ++ (shown_text number line (min f.place (length line)) ++ want_text number f.want)

-- the same with the line's own number
abbrev pub finding_text : List ℕ → Finding → List ℕ
finding_text line f = numbered_text line f.line f

unfoldable pub sent_text : ℕ → List ℕ
sent_text line = codes " = the message is sent later, in line " ++ (decimal line ++ codes "\n")

-- the line about a message for a note that is sent later, if it is
unfoldable pub later_text : ℕ → Option ℕ → List ℕ
later_text line None = []
later_text line (Some later) = flat_map blank (decimal line) ++ sent_text later

-- a note
unfoldable pub noted_text : List ℕ → Noted → List ℕ
noted_text line noted = finding_text line (note_finding noted.note) ++ later_text noted.note.line noted.later

unfoldable pub read_text : List ℕ
read_text = codes "nothing is wrong with it\n"

unfoldable pub one_undone_text : List ℕ
one_undone_text = codes "the text is read, and 1 command did nothing\n"

unfoldable pub several_undone_text : ℕ → List ℕ
several_undone_text count = codes "the text is read, and " ++ (decimal count ++ codes " commands did nothing\n")

-- the text is read, and `count` of its commands did nothing
unfoldable pub undone_text : ℕ → List ℕ
undone_text count = if count == 1 then one_undone_text else several_undone_text count

unfoldable pub cyclic_text : List ℕ
cyclic_text = codes "\nerror: F18 Cyclic: events come before each other, in a cycle\n"

unfoldable pub tidy_text : List ℕ
tidy_text = codes "\nhelp: mscview tidy writes the exact text of this file, which has no fault\n"

unfoldable pub log_text : List ℕ
log_text = codes "\nhelp: of a log, mscview races --from log prints the races: of lines HOST send PEER NAME and HOST recv PEER NAME, or as --pattern reads its lines\n"

-- a part of the explanation; `line` is the line of the file that is shown with it
unfoldable pub text_by_line : List ℕ → Saying → List ℕ
text_by_line line (Kind kind) = kind_words kind
text_by_line line Read = read_text
text_by_line line (sayings.Undone count) = undone_text count
text_by_line line (sayings.Finding finding) = finding_text line finding
text_by_line line (sayings.Typed finding number) = numbered_text line number finding
text_by_line line (sayings.Note noted) = noted_text line noted
text_by_line line (sayings.LeftOut left_out) = left_out_line left_out
text_by_line line (sayings.Overtaking message) = overtaking_line message
text_by_line line Cyclic = cyclic_text
text_by_line line (sayings.Step step) = step_text step
text_by_line line Tidy = tidy_text
text_by_line line Log = log_text

-- the number of the line that is shown with a part, or 1 if no line is shown
abbrev pub shown_line : Saying → ℕ
shown_line (sayings.Finding finding) = finding.line
shown_line (sayings.Typed finding number) = finding.line
shown_line (sayings.Note noted) = noted.note.line
shown_line (Kind kind) = 1
shown_line Read = 1
shown_line (sayings.Undone count) = 1
shown_line (sayings.LeftOut left_out) = 1
shown_line (sayings.Overtaking message) = 1
shown_line Cyclic = 1
shown_line (sayings.Step step) = 1
shown_line Tidy = 1
shown_line Log = 1

-- the same in a file
abbrev pub saying_text : List ℕ → Saying → List ℕ
saying_text file saying = text_by_line (line_of file (shown_line saying)) saying

-- the text is the part of a file from a line on
abbrev pub IsFrom : List ℕ → ℕ → List ℕ → Type 0
IsFrom file line text = (lines_of text ≡ drop (line - 1) (lines_of file)) × (end_of text ≡ end_of file)
