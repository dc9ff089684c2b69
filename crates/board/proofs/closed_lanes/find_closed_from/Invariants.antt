use Rattle.std.proofs.Common.{ℕ, List, ◌++◌, map}
use Rattle.std.specs.List.{range_with_len}
use Rattle.board.specs.Gathering.{LaneEnds, lane_to}
use Rattle.board.specs.Parting.{AreOf, AreClosed}
use Rattle.board.proofs.closed_lanes.find_closed_from.Given as goal

abbrev pub invariant-loop-place : goal.invariant-loop-place
invariant-loop-place l = (k : ℕ) (lanes : List LaneEnds) → AreOf l.instances k l.posts → AreClosed l.posts lanes l.initial.closed.items → AreClosed l.posts (lanes ++ map (lane_to l.sender) (range_with_len 1 l.place)) l.closed.items
