use Rattle.std.proofs.Common.{◌≡◌, [], map}
use Rattle.std.specs.List.{range_with_len}
use Rattle.schedule.specs.Interleaver.Interleavings.{own}
use Rattle.schedule.proofs.interleaver.drawing.empty_queues.Given as goal

abbrev pub invariant-loop : goal.invariant-loop
invariant-loop l = l.queues.items ≡ map (own []) (range_with_len 1 l.counter)
