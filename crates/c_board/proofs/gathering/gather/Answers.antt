use Rattle.std.proofs.Common.{◌≡◌, ◌∙◌, ℕ, length, List, sym, ap, subst, arith}
use Rattle.std.specs.Prelude.{slice_get, Some, Err}
use Rattle.board.specs.Views.{PostView}
use Rattle.board.specs.Gathering.{IsWhole}
use Rattle.board.specs.Parked.{AreAtBoard}
use Rattle.c_board.specs.declared.gathering.GatherRefusal.{GatherRefusal}
use Rattle.c_board.specs.declared.kept.Kept.{Kept}
use Rattle.c_board.specs.declared.kept.Kept.TheVariants.{Board}
use Rattle.c_board.specs.Opening.{kept_by}
use Rattle.c_board.specs.Chairs.{seats_with, kept_seats}
use Rattle.c_board.specs.Gathering.{Gathers}
use Rattle.c_board.specs.Wholes.{WholeView}
use Rattle.c_board.proofs.KeptLists.{length-kept_by}
use Rattle.c_board.proofs.ChairLemmas.{length-seats, posts-same, one_board, at_first, first_there}
use Rattle.c_board.proofs.GatherLemmas.{back_again, gather_refused, some_posts, slots_same, whole_left}
use Rattle.c_board.proofs.gathering.gather.Goals as goal

pub returns-in_err-chairs : goal.returns-in_err-chairs
returns-in_err-chairs c = gather_refused (kept_by c.args.handles.now) (kept_by c.take_posts.new.handles) c.args.board.now.slot.value c.from_residual.result c.in_err-chairs.field-0.0 c.from_residual.ensures.1 (c.is_empty.ensures.yes c.if-not-is_empty.false) c.in_err-chairs.ensures

pub capacity_of-capacity-requires : goal.capacity_of-capacity-requires
capacity_of-capacity-requires c =
    let taken = c.in_ok-chairs.ensures.0 in
    λ none. some_posts (kept_by c.args.handles.now) c.in_ok-chairs.field-0.chairs.items c.in_ok-chairs.field-0.posts.items c.in_ok-chairs.ensures.1 taken.seats taken.fit (sym (ap length c.as_slice.ensures.value) ∙ none)

pub gather_parked-requires-clause-at : goal.gather_parked-requires-clause-at
gather_parked-requires-clause-at c =
    let taken = c.in_ok-chairs.ensures.0 in
    let chairs = c.in_ok-chairs.field-0.chairs.items in
    let posts = c.in_ok-chairs.field-0.posts.items in
    let olds = kept_by c.args.handles.now in
    let there = first_there olds chairs posts c.index.result.now c.in_ok-chairs.ensures.1 taken.seats taken.fit c.index.ensures in
    subst (λ table. AreAtBoard table.shared.key table.shared.table_id posts) (sym c.deref.ensures) (at_first chairs posts c.index.result.now there taken.fit (one_board olds chairs posts c.requires c.in_ok-chairs.ensures.2 taken.seats taken.fit))

pub gather_parked-requires-clause-board : goal.gather_parked-requires-clause-board
gather_parked-requires-clause-board c =
    let taken = c.in_ok-chairs.ensures.0 in
    one_board (kept_by c.args.handles.now) c.in_ok-chairs.field-0.chairs.items c.in_ok-chairs.field-0.posts.items c.requires c.in_ok-chairs.ensures.2 taken.seats taken.fit

pub of-requires : goal.of-requires
of-requires c =
    let taken = c.in_ok-chairs.ensures.0 in
    let chairs = c.in_ok-chairs.field-0.chairs.items in
    let posts = c.in_ok-chairs.field-0.posts.items in
    let olds = kept_by c.args.handles.now in
    let slots = subst (λ (ps : List PostView). (post : PostView) → slice_get ps 0 ≡ Some post → post.board.capacity ≡ c.capacity_of-capacity.result) c.as_slice.ensures.value c.capacity_of-capacity.ensures in
    whole_left posts c.in-Ok-gather_parked.gathered c.capacity_of-capacity.result c.in-Ok-gather_parked.ensures
    (slots_same posts c.capacity_of-capacity.result (one_board olds chairs posts c.requires c.in_ok-chairs.ensures.2 taken.seats taken.fit) (some_posts olds chairs posts c.in_ok-chairs.ensures.1 taken.seats taken.fit) slots)

pub put_posts-requires-clause-as_many : goal.put_posts-requires-clause-as_many
put_posts-requires-clause-as_many c =
    let taken = c.in_ok-chairs.ensures.0 in
    omega (arith, length-seats c.in_ok-chairs.field-0.chairs.items c.in_ok-chairs.field-0.posts.items taken.fit, ap length taken.seats, length-kept_by c.args.handles.now, c.take_posts.auto.handles)

pub returns-in-Ok-gather_parked : goal.returns-in-Ok-gather_parked
returns-in-Ok-gather_parked c =
    let taken = c.in_ok-chairs.ensures.0 in
    let chairs = c.in_ok-chairs.field-0.chairs.items in
    let posts = c.in_ok-chairs.field-0.posts.items in
    let olds = kept_by c.args.handles.now in
    let k = c.capacity_of-capacity.result in
    let slots = subst (λ (ps : List PostView). (post : PostView) → slice_get ps 0 ≡ Some post → post.board.capacity ≡ k) c.as_slice.ensures.value c.capacity_of-capacity.ensures in (
      record {
        vacant = c.is_empty.ensures.yes c.if-not-is_empty.false;
        seats = seats_with chairs posts;
        kept = taken.seats;
        it = record { gathered = c.in-Ok-gather_parked.gathered; capacity = k };
        whole = subst (λ (ps : List PostView). IsWhole ps c.in-Ok-gather_parked.gathered) (sym (posts-same chairs posts taken.fit)) c.in-Ok-gather_parked.ensures;
        slots = subst (λ (ps : List PostView). (i : ℕ) (post : PostView) → slice_get ps i ≡ Some post → post.board.capacity ≡ k) (sym (posts-same chairs posts taken.fit))
            (slots_same posts k (one_board olds chairs posts c.requires c.in_ok-chairs.ensures.2 taken.seats taken.fit) (some_posts olds chairs posts c.in_ok-chairs.ensures.1 taken.seats taken.fit) slots);
        empty = taken.empty;
        made_is = c.put.ensures ∙ ap (λ (kept : Kept). Some kept) c.board_in.ensures ∙ ap (λ (whole : WholeView). Some (Board whole)) c.of.ensures;
      },
      c.in_ok-chairs.ensures.2,
    )

pub returns-in-Err-gather_parked : goal.returns-in-Err-gather_parked
returns-in-Err-gather_parked c =
    let taken = c.in_ok-chairs.ensures.0 in
    let chairs = c.in_ok-chairs.field-0.chairs.items in
    let posts = c.in_ok-chairs.field-0.posts.items in
    let back = c.in-Err-gather_parked.ensures in
    subst (λ (refusal : GatherRefusal). Gathers (kept_by c.args.handles.now) c.args.board.now.slot.value (Err refusal) (kept_by c.put_posts.new.handles) c.args.board.now.slot.value) (sym c.from.ensures)
    (back_again c.in-Err-gather_parked.back.cause (kept_by c.args.handles.now) (kept_by c.put_posts.new.handles) c.args.board.now.slot.value (seats_with chairs posts) posts taken.seats (posts-same chairs posts taken.fit) c.in_ok-chairs.ensures.2 back.1
    (c.put_posts.ensures ∙ ap (λ (ps : List PostView). kept_seats (seats_with chairs ps)) back.0 ∙ sym taken.seats) (c.is_empty.ensures.yes c.if-not-is_empty.false))
