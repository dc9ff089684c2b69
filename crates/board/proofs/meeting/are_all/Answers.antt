use Rattle.std.proofs.Common.{rules, ◌≢◌, ◌<◌, ◌+◌, length, sym, ap, ◌∙◌, arith}
use Rattle.std.specs.Prelude.{Some}
use Rattle.std.proofs.lemmas.Bool.{eqb-false}
use Rattle.std.proofs.lemmas.Option.{slice_get-get_or}
use Rattle.board.specs.Views.{PostView}
use Rattle.board.specs.Meeting.{HasPost, HasNoPost}
use Rattle.board.proofs.Meetings.{are_all, not_all, has_one_more}
use Rattle.board.proofs.meeting.are_all.Goals as goal

pub returns-then-is_none-clause-no : goal.returns-then-is_none-clause-no
returns-then-is_none-clause-no c = λ _.
    let some : length c.args.posts.now ≢ 0 = eqb-false _ _ (sym c.if-is_empty.ensures) in
    let lt : 0 < length c.args.posts.now = omega (arith, some) in
    let at = slice_get-get_or c.args.posts.now 0 c.index-posts-0.result lt ∙ ap (λ (post : PostView). Some post) (sym c.index-posts-0.is) in
    let none : HasNoPost c.args.posts.now (c.loop-place.place + 1) = search rules in
    not_all c.args.posts.now _ at (c.loop-place.place + 1) (omega arith) (omega (arith, c.board_size-place-end.ensures.value)) none

pub loop-place-preserved : goal.loop-place-preserved
loop-place-preserved c =
    let its : HasPost c.args.posts.now (c.loop-place.place + 1) = search rules in
    has_one_more c.args.posts.now c.loop-place.place c.loop-place.invariant its

pub returns-clause-yes : goal.returns-clause-yes
returns-clause-yes c = λ _.
    let some : length c.args.posts.now ≢ 0 = eqb-false _ _ (sym c.if-is_empty.ensures) in
    let lt : 0 < length c.args.posts.now = omega (arith, some) in
    let at = slice_get-get_or c.args.posts.now 0 c.index-posts-0.result lt ∙ ap (λ (post : PostView). Some post) (sym c.index-posts-0.is) in
    are_all c.args.posts.now _ at (λ p low high. c.loop-place.invariant p low (omega (arith, high, c.board_size-place-end.ensures.value)))
