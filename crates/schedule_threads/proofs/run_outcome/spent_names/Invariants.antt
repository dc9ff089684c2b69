use Rattle.std.proofs.Common.{◌≡◌, ◌+◌, ◌++◌, false, take, drop}
use Rattle.std.specs.List.{list_any}
use Rattle.schedule_threads.specs.RunOutcomes.{spent_from, is_memory_end}
use Rattle.schedule_threads.proofs.run_outcome.spent_names.Given as goal

-- the names so far and those of the remaining instances are all, and memory was not refused so far
abbrev pub invariant-loop-place : goal.invariant-loop-place
invariant-loop-place l = record {
  spent : l.spent.items ++ spent_from l.names (l.place + 1) (drop l.place l.ends) ≡ spent_from l.names 1 l.ends;
  memory : list_any is_memory_end (take l.place l.ends) ≡ false;
}
