use Rattle.std.proofs.Common.{ℕ, List, ◌++◌, map}
use Rattle.std.specs.List.{range_with_len}
use Rattle.board.specs.Gathering.{LaneEnds, lane_to}
use Rattle.board.specs.Parting.{AreOf, HaveRooms}
use Rattle.board.proofs.reserving.make_rooms_from.Given as goal

abbrev pub invariant-loop-place : goal.invariant-loop-place
invariant-loop-place l = (k : ℕ) (lanes : List LaneEnds) → AreOf l.instances k l.posts → HaveRooms l.instances k l.posts lanes l.initial.rooms.items → HaveRooms l.instances k l.posts (lanes ++ map (lane_to l.sender) (range_with_len 1 l.place)) l.rooms.items
