use Rattle.std.proofs.Common.{List, length, ap, subst, arith}
use Rattle.std.specs.Prelude.{Result, Ok, Err}
use Rattle.board.specs.Views.{PostView}
use Rattle.c_board.specs.declared.carrying.Misfit.{Misfit}
use Rattle.c_board.specs.Opening.{kept_by}
use Rattle.c_board.specs.Carrying.{ChecksFit}
use Rattle.c_board.proofs.KeptLists.{length-kept_by}
use Rattle.c_board.proofs.ChairLemmas.{length-seats}
use Rattle.c_board.proofs.CarryLemmas.{fit_refused, unfit}
use Rattle.c_board.proofs.carrying.take_fit_posts.Goals as goal

pub returns-in_err-taken : goal.returns-in_err-taken
returns-in_err-taken c = fit_refused c.args.instances c.args.capacity (kept_by c.args.handles.now) c.from_residual.result c.in_err-taken.field-0.0 (kept_by c.take_posts.new.handles) c.from_residual.ensures.1 c.in_err-taken.ensures

pub returns-in-Ok : goal.returns-in-Ok
returns-in-Ok c = (
  c.in_ok-taken.ensures,
  subst (λ (ps : List PostView). ChecksFit c.args.instances c.args.capacity ps (Ok tt)) c.as_slice.ensures.value
      (subst (λ (answer : Result (Unit {0}) Misfit). ChecksFit c.args.instances c.args.capacity c.as_slice.result.now answer) c.in-Ok.is c.check_fit.ensures),
)

pub put_posts-requires-clause-as_many : goal.put_posts-requires-clause-as_many
put_posts-requires-clause-as_many c =
    let taken = c.in_ok-taken.ensures.0 in
    omega (arith, length-seats c.in_ok-taken.taken.chairs.items c.in_ok-taken.taken.posts.items taken.fit, ap length taken.seats, length-kept_by c.args.handles.now, c.take_posts.auto.handles)

pub returns-in-Err : goal.returns-in-Err
returns-in-Err c =
    let taken = c.in_ok-taken.ensures.0 in
    let chairs = c.in_ok-taken.taken.chairs.items in
    let posts = c.in_ok-taken.taken.posts.items in
    unfit c.args.instances c.args.capacity c.in-Err.misfit chairs posts (kept_by c.args.handles.now) (kept_by c.put_posts.new.handles) taken.fit taken.seats c.in_ok-taken.ensures.2
    (subst (λ (ps : List PostView). ChecksFit c.args.instances c.args.capacity ps (Err c.in-Err.misfit)) c.as_slice.ensures.value
    (subst (λ (answer : Result (Unit {0}) Misfit). ChecksFit c.args.instances c.args.capacity c.as_slice.result.now answer) c.in-Err.is c.check_fit.ensures)) c.put_posts.ensures
