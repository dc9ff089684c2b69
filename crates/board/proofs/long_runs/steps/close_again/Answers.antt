use Rattle.std.proofs.Common.{◌∙◌, ◌∷◌, [], ℕ, get_or, refl, subst}
use Rattle.chart.specs.declared.history.Occurrence.TheVariants.{Close}
use Rattle.board.specs.Views.{Makes}
use Rattle.board.proofs.Meetings.{at_within}
use Rattle.board.proofs.LongRunsLemmas.CarryingOn.{has_post, indexed, now_one, ahead, closes_on, closed_on}
use Rattle.board.proofs.long_runs.steps.close_again.Goals as goal

pub unreachable-requires : goal.unreachable-requires
unreachable-requires c =
    let (n, k, h, old, go) = c.requires.may in
    let (i, y, at, its) = has_post n k h old c.args.posts.now go.on c.args.lane.sender go.legal.0.0.0 go.legal.0.0.1 in
    c.in_default.ensures.none i y at its

pub bounds-posts-place : goal.bounds-posts-place
bounds-posts-place c = let (x, at, number) = c.in-Some.ensures.some in at_within c.args.posts.now c.in-Some.place x at

pub unreachable-requires-in_default-close : goal.unreachable-requires-in_default-close
unreachable-requires-in_default-close c =
    let (n, k, h, old, go) = c.requires.may in
    let (x, at, number) = c.in-Some.ensures.some in
    let (there, its_number) = indexed c.args.posts.now c.in-Some.place c.index-posts-place.result x c.args.lane.sender at number in
    closes_on n k h c.args.lane.sender c.args.lane.receiver old c.args.posts.now go c.in-Some.place _ there its_number c.in_default-close.field-0 c.in_default-close.ensures.answer.1

pub meet_at-requires-clause-board : goal.meet_at-requires-clause-board
meet_at-requires-clause-board c =
    let (n, k, h, old, go) = c.requires.may in
    let its = c.in-Ok.ensures.answer in
    let (x, at, number) = c.in-Some.ensures.some in
    let (there, its_number) = indexed c.args.posts.now c.in-Some.place c.index-posts-place.result x c.args.lane.sender at number in
    let made = subst (λ (p : ℕ). Makes (get_or c.args.posts.now c.in-Some.place c.index-posts-place.result) its.makes.0 (Close p c.args.lane.receiver ∷ []) c.close.new.self) (c.in-Ok.ensures.sound.same.number ∙ its_number) its.makes.1 in
    now_one n k h _ c.args.lane.sender old c.args.posts.now _ c.args.posts.now go.on c.in-Some.place _ c.close.new.self there its_number its.makes.0 c.in-Ok.ensures.sound made refl refl

pub meet_at-requires-clause-ahead : goal.meet_at-requires-clause-ahead
meet_at-requires-clause-ahead c =
    let (n, k, h, old, go) = c.requires.may in
    let its = c.in-Ok.ensures.answer in
    let (x, at, number) = c.in-Some.ensures.some in
    let (there, its_number) = indexed c.args.posts.now c.in-Some.place c.index-posts-place.result x c.args.lane.sender at number in
    let made = subst (λ (p : ℕ). Makes (get_or c.args.posts.now c.in-Some.place c.index-posts-place.result) its.makes.0 (Close p c.args.lane.receiver ∷ []) c.close.new.self) (c.in-Ok.ensures.sound.same.number ∙ its_number) its.makes.1 in
    ahead n k h _ c.args.lane.sender old c.args.posts.now _ c.args.posts.now go.on c.in-Some.place _ c.close.new.self there its_number its.makes.0 c.in-Ok.ensures.sound made refl refl

pub returns : goal.returns
returns c = λ n k h old go.
    let its = c.in-Ok.ensures.answer in
    let (x, at, number) = c.in-Some.ensures.some in
    let (there, its_number) = indexed c.args.posts.now c.in-Some.place c.index-posts-place.result x c.args.lane.sender at number in
    let made = subst (λ (p : ℕ). Makes (get_or c.args.posts.now c.in-Some.place c.index-posts-place.result) its.makes.0 (Close p c.args.lane.receiver ∷ []) c.close.new.self) (c.in-Ok.ensures.sound.same.number ∙ its_number) its.makes.1 in
    closed_on n k h c.args.lane.sender c.args.lane.receiver old c.args.posts.now go c.in-Some.place _ there its_number _ c.meet_at.new.posts c.close.new.self its.makes.0 c.in-Ok.ensures.sound made its.room refl c.meet_at.ensures.met
