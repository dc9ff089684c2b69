use Rattle.std.proofs.Common.{◌-◌, ◌≤◌}
use Rattle.board.specs.Peeking.{others}
use Rattle.board.proofs.Scanning.{HasPeeked}
use Rattle.board.proofs.parked.Parked.peek_among.Given as goal

abbrev pub invariant-loop-place : goal.invariant-loop-place
invariant-loop-place l = record {
  peeked : HasPeeked l.fn.self (others l.fn.self.number l.fn.from l.fn.to) (others l.fn.self.number l.place l.to) l.is_end l.self;
  within : l.place ≤ l.to;
}

abbrev pub decreases-loop-place : goal.decreases-loop-place
decreases-loop-place l = l.to - l.place
