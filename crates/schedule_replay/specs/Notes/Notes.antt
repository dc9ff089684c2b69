-- The notes that a schedule's commands leave, each with the send that comes too late for it.
use Rattle.std.specs.Prelude.{◌≡◌, ℕ, ◌==◌, ◌&&◌, Bool, false, List, [], ◌∷◌, ◌++◌, length, Option, None, Some, Result, Ok, Err, if◌then◌else◌}
use Rattle.schedule.specs.Meaning.{Run, State, start, step, acts}
use Rattle.schedule.specs.Plans.{Plan}
use Rattle.schedule.specs.declared.command.Action.{Action}
use Rattle.schedule.specs.declared.command.Action.TheVariants as actions
use Rattle.schedule.specs.declared.command.Command.{Command}
use Rattle.schedule.specs.declared.command.Word.{Word}
use Rattle.schedule.specs.declared.command.Word.TheVariants as words
use Rattle.schedule_replay.specs.declared.notes.notes.Noted.{Noted}
use Rattle.schedule_replay.specs.Notes.Lanes.{AreLanes}

-- What each command leaves.

-- the word of its note, or nothing if it is done
abbrev pub word_of : Result Run Word → Option Word
word_of (Ok run) = None
word_of (Err word) = Some word

-- the words of commands that go on from a state
abbrev pub words_from : ℕ → ℕ → State → List Command → List (Option Word)
words_from n k s [] = []
words_from n k s (command ∷ commands) =
    word_of (acts n k s.run command.actor command.action) ∷ words_from n k (step n k s command) commands

-- the words of a schedule's commands
abbrev pub words_of : Plan → List (Option Word)
words_of plan = words_from (length plan.names) plan.capacity start plan.commands

-- Sends that come too late.

-- the command sends from one instance to the other
abbrev pub is_send_to : ℕ → Action → Bool
is_send_to to (actions.Send receiver name) = receiver == to
is_send_to to _ = false

abbrev pub is_send : ℕ → ℕ → Command → Bool
is_send from to command = is_send_to to command.action && command.actor == from

-- among some commands, each with what it leaves: the line of the first that is done and sends from one instance to the
-- other
abbrev pub later_send : ℕ → ℕ → List Command → List (Option Word) → Option ℕ
later_send from to [] left = None
later_send from to (command ∷ commands) [] = None
later_send from to (command ∷ commands) (None ∷ left) =
    if is_send from to command then Some command.line else later_send from to commands left
later_send from to (command ∷ commands) (Some word ∷ left) = later_send from to commands left

-- the line of the send that comes too late for a command that left this word, among the commands after it: only for a
-- receive that found nothing
abbrev pub later_for : Word → ℕ → Action → List Command → List (Option Word) → Option ℕ
later_for words.Nothing actor (actions.Receive from) commands left = later_send from actor commands left
later_for _ actor action commands left = None

-- The notes, in the commands' order.

-- the note of a command, if it leaves one, from the commands after it
abbrev pub note_if : Command → Option Word → List Command → List (Option Word) → List Noted
note_if command None commands left = []
note_if command (Some word) commands left = record {
  note = record { line = command.line; word = word };
  later = later_for word command.actor command.action commands left;
} ∷ []

abbrev pub noted : List Command → List (Option Word) → List Noted
noted [] left = []
noted (command ∷ commands) [] = []
noted (command ∷ commands) (word ∷ left) = note_if command word commands left ++ noted commands left

-- these are the notes that the plan's commands leave
abbrev pub AreNotesOf : Plan → List Noted → Type 0
AreNotesOf plan notes = notes ≡ noted plan.commands (words_of plan)

-- The next send of each lane, as the code holds it.

-- the table has for each lane the line of its first send that is done, among these commands
abbrev pub AreNext : List (Option ℕ) → List Command → List (Option Word) → Type 0
AreNext table commands left = AreLanes table (λ q p. later_send q p commands left)
