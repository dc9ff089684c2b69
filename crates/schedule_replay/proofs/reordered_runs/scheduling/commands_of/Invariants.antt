use Rattle.std.proofs.Common.{◌≡◌, take}
use Rattle.schedule_replay.specs.declared.reordered_runs.scheduling.TheConstants.{FIRST_LINE}
use Rattle.schedule_replay.specs.ReorderedRuns.Schedules.{commands_of}
use Rattle.schedule_replay.proofs.reordered_runs.scheduling.commands_of.Given as goal

abbrev pub invariant-loop-place : goal.invariant-loop-place
invariant-loop-place l = l.commands.items ≡ commands_of FIRST_LINE (take l.place l.steps)
