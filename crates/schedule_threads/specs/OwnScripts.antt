-- Runs of a schedule whose instances do their own commands (this project's profile).
use Rattle.std.specs.Prelude.{◌≡◌, ℕ, ◌<◌, ◌≤◌, ◌⊎◌}
use Rattle.instances.specs.declared.outcome.Run.{Run}
use Rattle.instances.specs.declared.threads.TheConstants.{MAX_TURNS}
use Rattle.instances.specs.Whole.{DrivenBy}
use Rattle.schedule.specs.Plans.{Plan}
use Rattle.schedule_threads.specs.Scripts.InstanceScripts.{scripts_of}
use Rattle.schedule_threads.specs.Laws.{script_meaning}
use Rattle.schedule_threads.specs.OwnBoards.{AreRunsOf}

-- a run may have this many turns at most
abbrev pub IsTurns : ℕ → Type 0
IsTurns turns = (1 ≤ turns) × (turns ≤ MAX_TURNS)

-- a run may not have them
abbrev pub IsNoTurns : ℕ → Type 0
IsNoTurns turns = (turns ≡ 0) ⊎ (MAX_TURNS < turns)

-- Each post of a new board of the schedule was driven by the script of its own instance, which does the instance's
-- commands in order.
abbrev pub AreScriptRuns : Plan → ℕ → Run → Type 0
AreScriptRuns plan turns run = AreRunsOf (DrivenBy (λ script. script_meaning) (λ script. script) turns (scripts_of plan)) plan run
