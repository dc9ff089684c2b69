-- The schedule of a run (this project's profile).
use Rattle.std.specs.Prelude.{ℕ, ◌+◌, List, [], ◌∷◌}
use Rattle.schedule.specs.declared.command.Action.TheVariants as actions
use Rattle.schedule.specs.declared.command.Command.{Command}
use Rattle.chart.specs.declared.run_steps.step.Step.{Step}
use Rattle.chart.specs.declared.run_steps.step.Step.TheVariants.{Send, Receive}

-- the command of a step, on this line of the schedule's text
abbrev pub command_of : ℕ → Step → Command
command_of line (Send a b name) = record { line = line; actor = a; action = actions.Send b name }
command_of line (Receive a b region) = record { line = line; actor = a; action = actions.Receive b }

-- the commands of these steps, from this line on
abbrev pub commands_of : ℕ → List Step → List Command
commands_of line [] = []
commands_of line (x ∷ steps) = command_of line x ∷ commands_of (line + 1) steps
