use Rattle.std.proofs.Common.{arith}
use Rattle.clock.proofs.ClockLemmas.{is_merged}
use Rattle.clock.proofs.entries.raise.Goals as goal

pub returns : goal.returns
returns c = is_merged _ _ _ c.requires (omega arith) (λ k within. c.loop-place.invariant.raised k (omega arith))
