-- Whose turn it was in a run, one event after another (this project's profile of schedules).
use Rattle.std.specs.Prelude.{ℕ, Bool, true, false, not, ◌&&◌, ◌==◌, List, map, filter}
use Rattle.std.specs.List.{list_any}
use Rattle.schedule.specs.declared.command.Action.{Action}
use Rattle.schedule.specs.declared.command.Action.TheVariants.{Send, Receive, Any, Close, Open, Shut}
use Rattle.schedule.specs.declared.command.Command.{Command}
use Rattle.schedule.specs.declared.command.Note.{Note}

-- the command of this line left a note: it was refused, or found nothing
abbrev pub is_noted : List Note → ℕ → Bool
is_noted notes line = list_any (λ note. note.line == line) notes

-- without a note, the action makes an event
abbrev pub makes_event : Action → Bool
makes_event (Send q name) = true
makes_event (Receive q) = true
makes_event Any = true
makes_event (Close q) = false
makes_event Open = false
makes_event Shut = false

-- the command made an event
abbrev pub has_turn : List Note → Command → Bool
has_turn notes command = makes_event command.action && not (is_noted notes command.line)

-- the instances that made the events of the run, in order
abbrev pub turns_of : List Command → List Note → List ℕ
turns_of commands notes = map (λ command. command.actor) (filter (has_turn notes) commands)
