use Rattle.std.proofs.Common.{◌≡◌, map}
use Rattle.std.specs.List.{range_with_len}
use Rattle.schedule_threads.specs.Scripts.InstanceScripts.{script_of}
use Rattle.schedule_threads.proofs.scripts.making.scripts.Given as goal

abbrev pub invariant-loop-place : goal.invariant-loop-place
invariant-loop-place l = l.scripts.items ≡ map (script_of l.schedule.commands) (range_with_len 1 l.place)
