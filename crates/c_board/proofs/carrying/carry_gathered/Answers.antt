use Rattle.std.proofs.Common.{◌∙◌, ℕ, List, length, map, sym, ap, subst, arith}
use Rattle.std.specs.Prelude.{Some, Ok, Err}
use Rattle.std.specs.Global.{Vec}
use Rattle.board.specs.declared.gathering.ClosedLane.{ClosedLane}
use Rattle.board.specs.declared.gathering.Left.{Left}
use Rattle.board.specs.Gathering.{left_view, closed_view}
use Rattle.board.specs.Parked.{AreAtBoard}
use Rattle.board.specs.LongRuns.CarryingOver.{MayAllCarry}
use Rattle.c_board.specs.declared.carrying.CarryRefusal.{CarryRefusal}
use Rattle.c_board.specs.declared.kept.Kept.TheVariants.{Board}
use Rattle.c_board.specs.Opening.{kept_by}
use Rattle.c_board.specs.Carrying.{Carries, ChecksFit, TakesFit}
use Rattle.c_board.specs.Copying.{put_over}
use Rattle.c_board.proofs.KeptLists.{length-kept_by}
use Rattle.c_board.proofs.ChairLemmas.{length-seats, one_board, at_first, first_there}
use Rattle.c_board.proofs.CarryLemmas.{borne-fit, borne_at, all_carried, none_carried, carry_refused, may_carry}
use Rattle.c_board.proofs.carrying.carry_gathered.Goals as goal

pub returns-in_err-chairs : goal.returns-in_err-chairs
returns-in_err-chairs c =
    carry_refused (record { gathered = c.args.it.now; capacity = c.args.capacity }) (kept_by c.args.handles.now) c.args.sends.now c.from_residual.result c.in_err-chairs.field-0.0 (kept_by c.take_fit_posts.new.handles) c.from_residual.ensures.1
    (subst (λ (n : ℕ). TakesFit n c.args.capacity (kept_by c.args.handles.now) (Err c.in_err-chairs.field-0.0) (kept_by c.take_fit_posts.new.handles)) (ap length c.lines-instances.ensures.value) c.in_err-chairs.ensures)

pub bear-posts-requires-clause-at : goal.bear-posts-requires-clause-at
bear-posts-requires-clause-at c =
    let took = c.in_ok-chairs.ensures.0 in
    let taken = took.0 in
    let chairs = c.in_ok-chairs.field-0.chairs.items in
    let posts = c.in_ok-chairs.field-0.posts.items in
    let olds = kept_by c.args.handles.now in
    let there = first_there olds chairs posts c.index.result.now took.1 taken.seats taken.fit c.index.ensures in
    subst (λ table. AreAtBoard table.shared.key table.shared.table_id posts) (sym c.deref.ensures) (at_first chairs posts c.index.result.now there taken.fit (one_board olds chairs posts c.requires.apart took.2 taken.seats taken.fit))

pub bear-posts-requires-clause-board : goal.bear-posts-requires-clause-board
bear-posts-requires-clause-board c =
    let took = c.in_ok-chairs.ensures.0 in
    let taken = took.0 in
    one_board (kept_by c.args.handles.now) c.in_ok-chairs.field-0.chairs.items c.in_ok-chairs.field-0.posts.items c.requires.apart took.2 taken.seats taken.fit

pub bear-posts-requires-clause-may : goal.bear-posts-requires-clause-may
bear-posts-requires-clause-may c =
    let it = c.args.it.now in
    let posts = c.in_ok-chairs.field-0.posts.items in
    let fit = subst (λ (n : ℕ). ChecksFit n c.args.capacity posts (Ok tt)) (ap length c.lines-instances.ensures.value) c.in_ok-chairs.ensures.1 in
    subst (λ (ls : List Left). MayAllCarry (map left_view ls) (map closed_view c.as_slice-closed.result.now) posts) (sym (ap (λ (v : Vec Left). v.items) c.replace-left.ensures.value))
    (subst (λ (cs : List ClosedLane). MayAllCarry (map left_view it.left.items) (map closed_view cs) posts) (sym c.as_slice-closed.ensures.value)
    (may_carry (length it.chart) c.args.capacity (map left_view it.left.items) (map closed_view it.closed.items) posts c.requires.left fit))

pub put_posts-requires-clause-fit : goal.put_posts-requires-clause-fit
put_posts-requires-clause-fit c = borne-fit c.in_ok-chairs.field-0.chairs.items c.replace-left.result.items c.as_slice-closed.result.now c.in_ok-chairs.field-0.posts.items c.bear-posts.result.posts.items c.bear-posts.result.answer c.in_ok-chairs.ensures.0.0.fit c.bear-posts.ensures

pub put_posts-requires-clause-as_many : goal.put_posts-requires-clause-as_many
put_posts-requires-clause-as_many c =
    let taken = c.in_ok-chairs.ensures.0.0 in
    omega (arith, length-seats c.in_ok-chairs.field-0.chairs.items c.in_ok-chairs.field-0.posts.items taken.fit, ap length taken.seats, length-kept_by c.args.handles.now, c.take_fit_posts.auto.handles)

pub returns-in-Ok : goal.returns-in-Ok
returns-in-Ok c =
    let took = c.in_ok-chairs.ensures.0 in
    let taken = took.0 in
    let it = c.args.it.now in
    let chairs = c.in_ok-chairs.field-0.chairs.items in
    let posts = c.in_ok-chairs.field-0.posts.items in
    let after = c.bear-posts.result.posts.items in
    let fit = subst (λ (n : ℕ). ChecksFit n c.args.capacity posts (Ok tt)) (ap length c.lines-instances.ensures.value) c.in_ok-chairs.ensures.1 in
    let its = borne_at c.replace-left.result.items it.left.items c.as_slice-closed.result.now it.closed.items posts c.bear-posts.result.answer (Ok c.in-Ok.carried) after (ap (λ (v : Vec Left). v.items) c.replace-left.ensures.value) c.as_slice-closed.ensures.value c.in-Ok.is c.bear-posts.ensures in
    all_carried (record { gathered = it; capacity = c.args.capacity }) c.replace-left.new.dest c.new-in-Ok.result chairs posts after (kept_by c.args.handles.now) (kept_by c.put_posts.new.handles) c.in-Ok.carried c.args.sends.now c.copy_counts.new.out c.copy_counts.result taken.fit taken.seats took.2 fit its c.put_posts.ensures
    (c.copy_counts.ensures.all ∙ ap length c.as_slice.ensures.value) (c.copy_counts.ensures.copied ∙ ap (λ (xs : List ℕ). put_over xs c.args.sends.now) c.as_slice.ensures.value)
    (ap (λ (v : Vec Left). v.items) c.replace-left.ensures.after ∙ c.new.ensures.items) c.new-in-Ok.ensures.items

pub returns-in-Err : goal.returns-in-Err
returns-in-Err c =
    let took = c.in_ok-chairs.ensures.0 in
    let taken = took.0 in
    let it = c.args.it.now in
    let chairs = c.in_ok-chairs.field-0.chairs.items in
    let posts = c.in_ok-chairs.field-0.posts.items in
    let after = c.bear-posts.result.posts.items in
    let fit = subst (λ (n : ℕ). ChecksFit n c.args.capacity posts (Ok tt)) (ap length c.lines-instances.ensures.value) c.in_ok-chairs.ensures.1 in
    let its = borne_at c.replace-left.result.items it.left.items c.as_slice-closed.result.now it.closed.items posts c.bear-posts.result.answer (Err c.in-Err.error) after (ap (λ (v : Vec Left). v.items) c.replace-left.ensures.value) c.as_slice-closed.ensures.value c.in-Err.is c.bear-posts.ensures in
    subst (λ (refusal : CarryRefusal). Carries (Some (Board (record { gathered = it; capacity = c.args.capacity }))) (kept_by c.args.handles.now) c.args.sends.now (Err refusal) (Some (Board (record { gathered = record it { left = c.in-Err.error.left }; capacity = c.args.capacity }))) (kept_by c.put_posts.new.handles) c.args.sends.now) (sym c.from.ensures)
    (none_carried c.in-Err.error.cause (record { gathered = it; capacity = c.args.capacity }) c.in-Err.error.left chairs posts after (kept_by c.args.handles.now) (kept_by c.put_posts.new.handles) c.args.sends.now taken.fit taken.seats took.2 fit its.1 c.put_posts.ensures its.0)
