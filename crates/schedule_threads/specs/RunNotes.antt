-- The notes of instances that ran their scripts, each on its own (this project's profile).
use Rattle.std.specs.Prelude.{ℕ, ◌+◌, ◌==◌, Bool, true, false, List, [], ◌∷◌, ◌++◌, length, map, filter, slice_get, Option, Some, None}
use Rattle.board.specs.declared.error.CloseError.TheVariants as closing
use Rattle.board.specs.declared.error.RegionError.TheVariants as marking
use Rattle.board.specs.declared.error.SendError.TheVariants as sending
use Rattle.board.specs.declared.error.TakeError.TheVariants as taking
use Rattle.behaviour.specs.Scripts.{script_next}
use Rattle.behaviour.specs.declared.bare_answer.BareAnswer.{BareAnswer}
use Rattle.behaviour.specs.declared.bare_answer.BareAnswer.TheVariants.{Unsent, Ended, Unreceived, Unclosed, Unmarked}
use Rattle.instances.specs.declared.turn.Turn.{Turn}
use Rattle.schedule.specs.declared.command.Command.{Command}
use Rattle.schedule.specs.declared.command.Note.{Note}
use Rattle.schedule.specs.declared.command.Word.{Word}
use Rattle.schedule.specs.declared.command.Word.TheVariants as words

-- The word of the note that an answer leaves. The answers full and nothing leave none, since a script then does its act
-- again.
abbrev pub word_of : BareAnswer → Option Word
word_of Ended = Some words.Ended
word_of (Unsent sending.InCoregion) = Some words.InCoregion
word_of (Unsent sending.Closed) = Some words.Closed
word_of (Unsent sending.LineFull) = Some words.LineFull
word_of (Unreceived taking.LineFull) = Some words.LineFull
word_of (Unclosed closing.Closed) = Some words.Closed
word_of (Unmarked marking.CoregionOpen) = Some words.Open
word_of (Unmarked marking.CoregionNotOpen) = Some words.NotOpen
word_of _ = None

-- the answer is that memory was refused
abbrev pub is_memory : BareAnswer → Bool
is_memory (Unsent sending.Memory) = true
is_memory (Unreceived taking.Memory) = true
is_memory _ = false

-- memory was refused in this turn; an act of stopping has no answer
abbrev pub lacks_memory : Option BareAnswer → Bool
lacks_memory (Some answer) = is_memory answer
lacks_memory None = false

-- the lines of the commands of the instance p, in order
abbrev pub lines_of : List Command → ℕ → List ℕ
lines_of commands p = map (λ c. c.line) (filter (λ c. c.actor == p) commands)

-- the place of the command, of `many`, at which an instance is after a turn with this answer: the place of its script
abbrev pub next_place : ℕ → ℕ → Option BareAnswer → ℕ
next_place many place (Some answer) = script_next many place answer
next_place many place None = place

-- a note of this line, if there are a line and a word
abbrev pub note_of : Option ℕ → Option Word → List Note
note_of (Some line) (Some word) = record { line = line; word = word } ∷ []
note_of _ _ = []

-- the note of a turn of the command at this place
abbrev pub noted : List ℕ → ℕ → Option BareAnswer → List Note
noted lines place (Some answer) = note_of (slice_get lines place) (word_of answer)
noted lines place None = []

-- The notes of an instance's turns, the first of which is one of its command at this place, from 0. As long as the
-- answers make the script do a command again, the turns are that command's.
abbrev pub notes_from : List ℕ → ℕ → List Turn → List Note
notes_from lines place [] = []
notes_from lines place (turn ∷ turns) =
    noted lines place turn.answer ++ notes_from lines (next_place (length lines) place turn.answer) turns

-- the notes of the instances from number p on, which have these traces
abbrev pub all_notes : List Command → ℕ → List (List Turn) → List Note
all_notes commands p [] = []
all_notes commands p (trace ∷ traces) = notes_from (lines_of commands p) 0 trace ++ all_notes commands (p + 1) traces
