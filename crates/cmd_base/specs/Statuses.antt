-- The exit status that reports whether there are races, if that is known; no text comes with it.
use Rattle.std.specs.Prelude.{ℕ, Bool, None, if◌then◌else◌}
use Rattle.cmd_base.specs.Answers.{Exit}
use Rattle.cmd_base.specs.declared.status.Status.{Status}
use Rattle.cmd_base.specs.declared.status.Status.TheVariants.{NoRaces, Races, NotKnown}

-- the status for whether there are races, or some race is shown
abbrev pub status_in : Bool → Status
status_in races = if races then Races else NoRaces

-- 1 if there are races, 0 if there are none, and 3 if that isn't known (2 is for refusals)
abbrev pub code_of : Status → ℕ
code_of NoRaces = 0
code_of Races = 1
code_of NotKnown = 3

-- no text, only the status
abbrev pub status_exit : Status → Exit
status_exit status = record { status = code_of status; diagnostics = None }
