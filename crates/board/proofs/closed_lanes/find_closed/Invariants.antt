use Rattle.std.proofs.Common.{ℕ}
use Rattle.std.specs.List.{range_with_len, flat_map}
use Rattle.board.specs.Gathering.{lanes_of}
use Rattle.board.specs.Parting.{AreOf, AreClosed}
use Rattle.board.proofs.closed_lanes.find_closed.Given as goal

abbrev pub invariant-loop-place : goal.invariant-loop-place
invariant-loop-place l = (k : ℕ) → AreOf l.instances k l.posts → AreClosed l.posts (flat_map (lanes_of l.instances) (range_with_len 1 l.place)) l.closed.items
