use Rattle.test_hostile.proofs.dropped_posts.a_post_goes_with_a_message.Goals as goal

pub lose_third-requires : goal.lose_third-requires
lose_third-requires g c = rw c.as_mut_slice.ensures.value c.apart-posts.ensures
