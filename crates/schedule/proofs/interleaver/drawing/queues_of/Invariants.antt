use Rattle.std.proofs.Common.{◌≡◌, ◌≤◌, map, take}
use Rattle.std.specs.Prelude.{All}
use Rattle.std.specs.List.{range_with_len}
use Rattle.schedule.specs.Interleaver.Interleavings.{own}
use Rattle.schedule.proofs.interleaver.drawing.queues_of.Given as goal

abbrev pub invariant-loop-command : goal.invariant-loop-command
invariant-loop-command l = record {
  queues : l.queues.items ≡ map (own (take l.command-index l.commands)) (range_with_len 1 l.instances);
  numbers : All (λ c. 1 ≤ c.actor) (take l.command-index l.commands);
}
