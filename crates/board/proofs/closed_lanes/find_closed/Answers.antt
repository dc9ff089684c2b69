use Rattle.std.proofs.Common.{sym, subst}
use Rattle.std.specs.List.{range_with_len, flat_map}
use Rattle.board.specs.Gathering.{lanes_of}
use Rattle.board.specs.Parting.{AreClosed}
use Rattle.board.proofs.RoomsMade.{numbers_next}
use Rattle.board.proofs.closed_lanes.find_closed.Goals as goal

pub loop-place-preserved : goal.loop-place-preserved
loop-place-preserved c = λ k are.
    let n = c.args.instances in
    let place = c.loop-place.place in
    subst (λ lanes. AreClosed c.args.posts.now lanes c.find_closed_from.new.closed.items) (sym (numbers_next (lanes_of n) place))
    (c.in_ok-find_closed_from.ensures k (flat_map (lanes_of n) (range_with_len 1 place)) are (c.loop-place.invariant k are))
