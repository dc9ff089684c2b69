use Rattle.std.proofs.Common.{rules, ◌≡◌, ◌≢◌, ◌+◌, ◌++◌, ◌∷◌, [], false, ℕ, List, map, sym, subst, arith}
use Rattle.std.specs.List.{range_with_len}
use Rattle.board.specs.declared.parting.Room.{Room}
use Rattle.board.specs.Gathering.{LaneEnds, lane_to, is_waiting}
use Rattle.board.specs.Parting.{HaveRooms}
use Rattle.board.proofs.RoomsMade.{rooms_put, rooms_none, rooms_skip, room_for, back_waits, lanes_next}
use Rattle.board.proofs.reserving.make_rooms_from.Goals as goal
use Rattle.board.proofs.reserving.make_rooms_from.Goals.{then-place-sender+in_ok-room+then-room-gt0+in_ok-push, then-place-sender+in_ok-room+else-room-gt0, else-place-sender}

pub loop-place-preserved : goal.loop-place-preserved
loop-place-preserved c = λ k lanes are before.
    let n = c.args.instances in
    let q = c.args.sender in
    let place = c.loop-place.place in
    let posts = c.args.posts.now in
    let so_far : List LaneEnds = lanes ++ map (lane_to q) (range_with_len 1 place) in
    let lane : LaneEnds = lane_to q (place + 1) in
    let old = c.loop-place.rooms.items in
    let have = c.loop-place.invariant k lanes are before in
    subst (λ ls. HaveRooms n k posts ls c.if-place-sender.rooms.items) (lanes_next lanes q place)
    (elim c.if-place-sender.branch [
      | then-place-sender+in_ok-room+then-room-gt0+in_ok-push w ↦
          let room = w.in_ok-room.room in
          let grown : c.if-place-sender.rooms.items ≡ old ++ room ∷ [] = search rules in
          let some : 0 ≢ room.many = λ e. absurd (omega (arith, w.if-room-gt0.true, e)) in
          subst (λ (rooms : List Room). HaveRooms n k posts (so_far ++ lane ∷ []) rooms) (sym grown)
          (rooms_put n k posts so_far old have lane room some (room_for n k posts are _ _ q (place + 1) room w.post_of.ensures.among w.post_of-then-place-sender.ensures.among w.post_of.ensures.number w.post_of-then-place-sender.ensures.number w.in_ok-room.ensures))
      | then-place-sender+in_ok-room+else-room-gt0 w ↦
          let room = w.in_ok-room.room in
          let same : c.if-place-sender.rooms.items ≡ old = search rules in
          let none : room.many ≡ 0 = omega (arith, w.if-room-gt0.false) in
          subst (λ (rooms : List Room). HaveRooms n k posts (so_far ++ lane ∷ []) rooms) (sym same)
          (rooms_none n k posts so_far old have lane room none (room_for n k posts are _ _ q (place + 1) room w.post_of.ensures.among w.post_of-then-place-sender.ensures.among w.post_of.ensures.number w.post_of-then-place-sender.ensures.number w.in_ok-room.ensures))
      | else-place-sender w ↦
          let same : c.if-place-sender.rooms.items ≡ old = search rules in
          let here : place + 1 ≡ q = search rules in
          subst (λ (rooms : List Room). HaveRooms n k posts (so_far ++ lane ∷ []) rooms) (sym same)
          (rooms_skip n k posts so_far old have lane (λ h joint. subst (λ (p : ℕ). is_waiting h (lane_to q p) ≡ false) (sym here) (back_waits n k posts are q c.requires.sender.0 c.requires.sender.1 h joint)))
    ])
