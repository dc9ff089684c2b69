-- The command that makes a receive of a schedule's chart (this project's profile of schedules). The n-th of an
-- instance's commands that receive and left no note makes the n-th receive of its line.
use Rattle.std.specs.Prelude.{◌≡◌, ℕ, Bool, true, false, not, ◌&&◌, ◌==◌, List, filter, Option, Some}
use Rattle.chart.specs.declared.event.Event.{Event}
use Rattle.chart.specs.Charts.{Place, LineView, chart_lines}
use Rattle.chart.specs.Events.{ith, tally, is_receive}
use Rattle.schedule.specs.declared.command.Action.{Action}
use Rattle.schedule.specs.declared.command.Action.TheVariants.{Send, Receive, Any, Close, Open, Shut}
use Rattle.schedule.specs.declared.command.Command.{Command}
use Rattle.schedule.specs.declared.command.Note.{Note}
use Rattle.schedule.specs.Turns.Turns.{is_noted}

-- a replayed schedule: its commands, the notes that they left, and the lines of its chart
pub record RunView : Type 0 where
  pub commands : List Command
  pub notes : List Note
  pub lines : List LineView

-- the command receives from one named instance
abbrev pub names_sender : Action → Bool
names_sender (Send q name) = false
names_sender (Receive q) = true
names_sender Any = false
names_sender (Close q) = false
names_sender Open = false
names_sender Shut = false

-- it receives, from one instance or from any
abbrev pub receives : Action → Bool
receives (Send q name) = false
receives (Receive q) = true
receives Any = true
receives (Close q) = false
receives Open = false
receives Shut = false

-- it is a command of p, and received a message
abbrev pub has_received : List Note → ℕ → Command → Bool
has_received notes p command = (command.actor == p) && (receives command.action && not (is_noted notes command.line))

-- the commands of p that received messages, in their order
abbrev pub received : List Command → List Note → ℕ → List Command
received commands notes p = filter (has_received notes p) commands

-- the event at e is a receive
abbrev pub IsReceive : List Event → ℕ → Type 0
IsReceive line i = (m : Event) × (ith line i ≡ Some m) × (is_receive m ≡ true)

-- the command that made the receive at e
abbrev pub maker : RunView → Place → Option Command
maker run e = ith (received run.commands run.notes e.instance)
    (tally is_receive (chart_lines run.lines e.instance) e.index)

-- the event at e is the receive of a command that named its sender
pub record NamesSender (run : RunView) (e : Place) : Type 0 where
  pub receive : IsReceive (chart_lines run.lines e.instance) e.index
  pub command : Command
  pub made : maker run e ≡ Some command
  pub names : names_sender command.action ≡ true
