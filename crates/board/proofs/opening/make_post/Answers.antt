use Rattle.board.proofs.Openings.{post_new}
use Rattle.board.proofs.opening.make_post.Goals as goal

pub invariant_of-result : goal.invariant_of-result
invariant_of-result c =
    post_new _ _ _ _ _ _ _ c.requires.sized c.requires.seat c.requires.number.0 c.requires.number.1 c.in_ok-outgoing.ensures c.in_ok-recorder.ensures.value
