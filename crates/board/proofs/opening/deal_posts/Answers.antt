use Rattle.std.proofs.Common.{◌≡◌, ◌+◌, ℕ, suc, List, refl, sym, ap, ◌∙◌, subst, arith}
use Rattle.atomic_table.specs.Seated.{TableId}
use Rattle.board_table.specs.Knowing.{Mine}
use Rattle.board_table.specs.declared.held.Held.{Held}
use Rattle.board.specs.Views.{BoardView, PostView}
use Rattle.board.specs.Boards.{FirstPosts, AreLeft, new_post}
use Rattle.board.proofs.Openings.{deal_next, first_next, first_none, new_seat_is, board_of}
use Rattle.board.proofs.opening.deal_posts.Goals as goal

pub loop-place-init : goal.loop-place-init
loop-place-init c =
    let board : BoardView = record { table = c.args.words.now.table_id; size = c.args.shape.instances; capacity = c.args.shape.capacity } in
    record {
      posts = subst (λ (xs : List PostView). FirstPosts 0 board xs) (sym c.in_ok-posts.ensures.items) (first_none board);
      seated = c.requires.seat.same;
      left = record { left = c.args.shape.instances; as_many = omega arith; seats = c.requires.seat.whole };
    }

pub deal-chair-requires-clause-table : goal.deal-chair-requires-clause-table
deal-chair-requires-clause-table c = c.loop-place.invariant.seated

pub deal-chair-requires-clause-board : goal.deal-chair-requires-clause-board
deal-chair-requires-clause-board c =
    let its = deal_next _ _ c.loop-place.place (suc c.loop-place.place) c.loop-place.seat.me c.loop-place.invariant.left (omega arith) refl in
    board_of _ _ _ _ _ c.loop-place.seat.me its.1 c.requires.board

pub deal-chair-requires-clause-size : goal.deal-chair-requires-clause-size
deal-chair-requires-clause-size c =
    let its = deal_next _ _ c.loop-place.place (suc c.loop-place.place) c.loop-place.seat.me c.loop-place.invariant.left (omega arith) refl in
    omega (arith, ap (λ (e : Held). e.instances) its.1, c.requires.sized.several)

pub deal-chair-requires-clause-some : goal.deal-chair-requires-clause-some
deal-chair-requires-clause-some c =
    let its = deal_next _ _ c.loop-place.place (suc c.loop-place.place) c.loop-place.seat.me c.loop-place.invariant.left (omega arith) refl in
    its.0

pub make_post-requires-clause-seat : goal.make_post-requires-clause-seat
make_post-requires-clause-seat c =
    let its = deal_next _ _ c.loop-place.place (suc c.loop-place.place) c.loop-place.seat.me c.loop-place.invariant.left (omega arith) refl in
    new_seat_is c.args.shape.instances c.args.shape.capacity (suc c.loop-place.place) c.at_place-number.result c.loop-place.seat.me c.deal-chair.result.me its.1 c.at_place-number.ensures c.deal-chair.ensures.first

pub loop-place-preserved : goal.loop-place-preserved
loop-place-preserved c =
    let place = c.loop-place.place in
    let board : BoardView = record { table = c.args.words.now.table_id; size = c.args.shape.instances; capacity = c.args.shape.capacity } in
    let onward : suc place ≡ place + 1 = omega arith in
    let its = deal_next c.args.shape.instances c.args.shape.capacity place (place + 1) c.loop-place.seat.me c.loop-place.invariant.left (omega arith) onward in
    record {
      posts = subst (λ (xs : List PostView). FirstPosts (place + 1) board xs) (sym c.in_ok-push.ensures.items)
          (first_next place (place + 1) board c.loop-place.posts.items c.in_ok-post.post c.loop-place.invariant.posts (c.in_ok-post.ensures ∙ ap (λ (t : TableId). new_post (record board { table = t }) c.at_place-number.result) (c.deal-chair.ensures.table.2 ∙ c.loop-place.invariant.seated) ∙ ap (λ (i : ℕ). new_post board i) c.at_place-number.ensures) onward);
      seated = c.deal-chair.ensures.table.0 ∙ c.loop-place.invariant.seated;
      left = subst (λ (m : Mine). AreLeft c.args.shape.instances c.args.shape.capacity (place + 1) m) (sym c.deal-chair.ensures.others) its.2;
    }

pub returns : goal.returns
returns c =
    let board : BoardView = record { table = c.args.words.now.table_id; size = c.args.shape.instances; capacity = c.args.shape.capacity } in
    let all : c.loop-place.place ≡ c.args.shape.instances = omega arith in
    subst (λ (z : ℕ). FirstPosts z board c.loop-place.posts.items) all c.loop-place.invariant.posts
