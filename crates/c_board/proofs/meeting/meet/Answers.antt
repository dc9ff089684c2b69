use Rattle.std.proofs.Common.{length, sym, ap, subst, arith}
use Rattle.std.specs.Prelude.{Result, Err}
use Rattle.board.specs.declared.error.GatherCause.{GatherCause}
use Rattle.board.specs.Parked.{AreAtBoard}
use Rattle.c_board.specs.declared.meeting.MeetRefusal.{MeetRefusal}
use Rattle.c_board.specs.Opening.{kept_by}
use Rattle.c_board.specs.Chairs.{seats_with, KeepPosts}
use Rattle.c_board.specs.Meeting.{Meets, MeetsParked}
use Rattle.c_board.proofs.KeptLists.{length-kept_by}
use Rattle.c_board.proofs.ChairLemmas.{length-seats, one_board, at_first, first_there}
use Rattle.c_board.proofs.MeetLemmas.{fit-met, met_again, met_not, meet_refused, seats_kept}
use Rattle.c_board.proofs.meeting.meet.Goals as goal

pub returns-in_err-chairs : goal.returns-in_err-chairs
returns-in_err-chairs c = meet_refused (kept_by c.args.handles.now) (kept_by c.take_posts.new.handles) c.from_residual.result c.in_err-chairs.field-0.0 c.from_residual.ensures.1 c.in_err-chairs.ensures

pub meet_parked-posts-requires-clause-at : goal.meet_parked-posts-requires-clause-at
meet_parked-posts-requires-clause-at c =
    let taken = c.in_ok-chairs.ensures.0 in
    let chairs = c.in_ok-chairs.field-0.chairs.items in
    let posts = c.in_ok-chairs.field-0.posts.items in
    let olds = kept_by c.args.handles.now in
    let there = first_there olds chairs posts c.index.result.now c.in_ok-chairs.ensures.1 taken.seats taken.fit c.index.ensures in
    subst (λ table. AreAtBoard table.shared.key table.shared.table_id posts) (sym c.deref.ensures) (at_first chairs posts c.index.result.now there taken.fit (one_board olds chairs posts c.requires c.in_ok-chairs.ensures.2 taken.seats taken.fit))

pub meet_parked-posts-requires-clause-board : goal.meet_parked-posts-requires-clause-board
meet_parked-posts-requires-clause-board c =
    let taken = c.in_ok-chairs.ensures.0 in
    one_board (kept_by c.args.handles.now) c.in_ok-chairs.field-0.chairs.items c.in_ok-chairs.field-0.posts.items c.requires c.in_ok-chairs.ensures.2 taken.seats taken.fit

pub put_posts-requires-clause-fit : goal.put_posts-requires-clause-fit
put_posts-requires-clause-fit c = fit-met c.in_ok-chairs.field-0.chairs.items c.in_ok-chairs.field-0.posts.items c.meet_parked-posts.result.posts.items c.meet_parked-posts.result.answer c.in_ok-chairs.ensures.0.fit c.meet_parked-posts.ensures

pub put_posts-requires-clause-as_many : goal.put_posts-requires-clause-as_many
put_posts-requires-clause-as_many c =
    let taken = c.in_ok-chairs.ensures.0 in
    omega (arith, length-seats c.in_ok-chairs.field-0.chairs.items c.in_ok-chairs.field-0.posts.items taken.fit, ap length taken.seats, length-kept_by c.args.handles.now, c.take_posts.auto.handles)

pub returns-in-Ok : goal.returns-in-Ok
returns-in-Ok c =
    let taken = c.in_ok-chairs.ensures.0 in
    let chairs = c.in_ok-chairs.field-0.chairs.items in
    let posts = c.in_ok-chairs.field-0.posts.items in
    let after = c.meet_parked-posts.result.posts.items in
    met_again chairs posts after (kept_by c.args.handles.now) (kept_by c.put_posts.new.handles) taken.fit taken.seats c.in_ok-chairs.ensures.2
    (subst (λ (answer : Result (Unit {0}) GatherCause). MeetsParked posts answer after) c.in-Ok.is c.meet_parked-posts.ensures) c.put_posts.ensures

pub returns-in-Err : goal.returns-in-Err
returns-in-Err c =
    let taken = c.in_ok-chairs.ensures.0 in
    let chairs = c.in_ok-chairs.field-0.chairs.items in
    let posts = c.in_ok-chairs.field-0.posts.items in
    let after = c.meet_parked-posts.result.posts.items in
    subst (λ (refusal : MeetRefusal). Meets (kept_by c.args.handles.now) (Err refusal) (kept_by c.put_posts.new.handles)) (sym c.from.ensures)
    (met_not c.in-Err.cause chairs posts after (kept_by c.args.handles.now) (kept_by c.put_posts.new.handles) taken.fit taken.seats
    (subst KeepPosts (sym taken.seats) (seats_kept (seats_with chairs posts))) c.in_ok-chairs.ensures.1 c.in_ok-chairs.ensures.2
    (subst (λ (answer : Result (Unit {0}) GatherCause). MeetsParked posts answer after) c.in-Err.is c.meet_parked-posts.ensures) c.put_posts.ensures)
