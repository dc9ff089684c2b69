use Rattle.std.proofs.Common.{◌≡◌, ◌∙◌, List, sym, ap, subst}
use Rattle.std.specs.Prelude.{slice_get, Some}
use Rattle.board.specs.Views.{PostView}
use Rattle.board.specs.Meeting.{HasPost}
use Rattle.board.proofs.Leavers.{kept_there, others_there}
use Rattle.board.proofs.parting.take_post.Goals as goal

pub returns-clause-kept : goal.returns-clause-kept
returns-clause-kept c = λ i post at. kept_there c.args.posts.now.items c.in-Some.place i post (subst (λ (posts : List PostView). slice_get posts i ≡ Some post) c.remove.ensures.items at)

pub returns-clause-others : goal.returns-clause-others
returns-clause-others c = λ p ne has.
    let its = c.in-Some.ensures.some in
    subst (λ (posts : List PostView). HasPost posts p) (sym c.remove.ensures.items) (others_there c.args.posts.now.items c.in-Some.place its.0 p (ap (λ (posts : List PostView). slice_get posts c.in-Some.place) (sym c.as_slice.ensures.value) ∙ its.1) (λ same. ne (same ∙ its.2)) has)
