use Rattle.std.proofs.Common.{ℕ}
use Rattle.std.specs.List.{range_with_len, flat_map}
use Rattle.board.specs.Gathering.{lanes_of}
use Rattle.board.specs.Parting.{AreOf, HaveRooms}
use Rattle.board.proofs.reserving.make_rooms.Given as goal

abbrev pub invariant-loop-place : goal.invariant-loop-place
invariant-loop-place l = (k : ℕ) → AreOf l.instances k l.posts → HaveRooms l.instances k l.posts (flat_map (lanes_of l.instances) (range_with_len 1 l.place)) l.rooms.items
