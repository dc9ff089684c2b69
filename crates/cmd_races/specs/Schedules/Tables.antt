-- A table of this project's own: for each event of a line, whether it is the receive of a command that named its
-- sender.
use Rattle.std.specs.Prelude.{ℕ, Bool, false, List, [], ◌∷◌, map}
use Rattle.chart.specs.declared.event.Event.{Event}
use Rattle.chart.specs.declared.event.Event.TheVariants.{Send, Receive}
use Rattle.chart.specs.Charts.{LineView}
use Rattle.schedule.specs.declared.command.Command.{Command}
use Rattle.schedule.specs.declared.command.Note.{Note}
use Rattle.cmd_races.specs.Schedules.Makers.{names_sender, received}

-- for each command that received a message, whether it named its sender
abbrev pub kinds : List Command → List Note → ℕ → List Bool
kinds commands notes p = map (λ command. names_sender command.action) (received commands notes p)

-- the first of some kinds, and the rest
abbrev pub first_kind : List Bool → Bool
first_kind [] = false
first_kind (kind ∷ rest) = kind

abbrev pub later_kinds : List Bool → List Bool
later_kinds [] = []
later_kinds (kind ∷ rest) = rest

-- for each event of a line; the kinds are those of its receives
abbrev pub named : List Bool → List Event → List Bool
named some [] = []
named some (Send to name ∷ line) = false ∷ named some line
named some (Receive from name region ∷ line) = first_kind some ∷ named (later_kinds some) line

-- for each event of each line
abbrev pub named_lines : List Command → List Note → List LineView → List (List Bool)
named_lines commands notes lines = map (λ line. named (kinds commands notes line.instance) line.events) lines
