use Rattle.test_board.proofs.meetings.two_of_three.Goals as goal

pub two_meet-requires : goal.two_meet-requires
two_meet-requires g c = rw c.as_mut_slice.ensures.value c.apart-posts.ensures
