use Rattle.std.proofs.Common.{rules, ◌≡◌, ◌+◌, ◌++◌, ◌∷◌, [], true, false, ℕ, List, map, sym, ap₂, ◌∙◌, subst, arith}
use Rattle.std.specs.List.{range_with_len}
use Rattle.board.specs.declared.gathering.ClosedLane.{ClosedLane}
use Rattle.board.specs.Gathering.{LaneEnds, lane_to, is_closed_lane}
use Rattle.board.specs.Parting.{AreClosed}
use Rattle.board.proofs.RoomsMade.{lanes_next}
use Rattle.board.proofs.ClosedLanes.{none_back, closed_is, closed_skip, closed_put}
use Rattle.board.proofs.closed_lanes.find_closed_from.Goals as goal
use Rattle.board.proofs.closed_lanes.find_closed_from.Goals.{then-place-sender+then-has_closed+in_ok-push, then-place-sender+else-has_closed, else-place-sender}

pub loop-place-preserved : goal.loop-place-preserved
loop-place-preserved c = λ k lanes are before.
    let q = c.args.sender in
    let place = c.loop-place.place in
    let posts = c.args.posts.now in
    let so_far : List LaneEnds = lanes ++ map (lane_to q) (range_with_len 1 place) in
    let lane : LaneEnds = lane_to q (place + 1) in
    let old = c.loop-place.closed.items in
    let have = c.loop-place.invariant k lanes are before in
    let post = c.post_of-post.result.now in
    let among = c.post_of-post.ensures.among in
    let number = c.post_of-post.ensures.number in
    subst (λ ls. AreClosed posts ls c.if-place-sender.closed.items) (lanes_next lanes q place)
    (elim c.if-place-sender.branch [
      | then-place-sender+then-has_closed+in_ok-push w ↦
          let at : w.at_place-receiver.result ≡ place + 1 = omega (arith, w.at_place-receiver.ensures) in
          let it : ClosedLane = record { sender = w.number.result; receiver = w.at_place-receiver.result } in
          let grown : c.if-place-sender.closed.items ≡ old ++ it ∷ [] = search rules in
          let same : lane_to w.number.result w.at_place-receiver.result ≡ lane = ap₂ (λ a b. lane_to a b) (w.number.ensures ∙ number) at in
          let its : true ≡ w.has_closed.result = search rules in
          subst (λ (closed : List ClosedLane). AreClosed posts (so_far ++ lane ∷ []) closed) (sym grown)
          (closed_put posts so_far old have lane it same (λ h joint. subst (λ (p : ℕ). is_closed_lane h (lane_to q p) ≡ true) at (closed_is posts post among q w.at_place-receiver.result number true (its ∙ w.has_closed.ensures) h joint)))
      | then-place-sender+else-has_closed w ↦
          let at : w.at_place-receiver.result ≡ place + 1 = omega (arith, w.at_place-receiver.ensures) in
          let same : c.if-place-sender.closed.items ≡ old = search rules in
          let its : false ≡ w.has_closed.result = search rules in
          subst (λ (closed : List ClosedLane). AreClosed posts (so_far ++ lane ∷ []) closed) (sym same)
          (closed_skip posts so_far old have lane (λ h joint. subst (λ (p : ℕ). is_closed_lane h (lane_to q p) ≡ false) at (closed_is posts post among q w.at_place-receiver.result number false (its ∙ w.has_closed.ensures) h joint)))
      | else-place-sender w ↦
          let same : c.if-place-sender.closed.items ≡ old = search rules in
          let here : place + 1 ≡ q = search rules in
          subst (λ (closed : List ClosedLane). AreClosed posts (so_far ++ lane ∷ []) closed) (sym same)
          (closed_skip posts so_far old have lane (λ h joint. subst (λ (p : ℕ). is_closed_lane h (lane_to q p) ≡ false) (sym here) (none_back c.args.instances k posts are q c.requires.sender.0 c.requires.sender.1 h joint)))
    ])
