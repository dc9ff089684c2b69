use Rattle.std.proofs.Common.{◌+◌, [], sym, arith}
use Rattle.std.proofs.lemmas.List.FromFn.{map-range_with_len_more}
use Rattle.schedule.specs.Interleaver.Interleavings.{own}
use Rattle.schedule.proofs.interleaver.drawing.empty_queues.Goals as goal

pub loop-preserved : goal.loop-preserved
loop-preserved c = rw (c.in_ok-push.ensures.items, c.new.ensures, c.loop.invariant) (sym (map-range_with_len_more (own []) 1 c.loop.counter (c.loop.counter + 1) (omega arith)))
