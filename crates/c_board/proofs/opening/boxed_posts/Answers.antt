use Rattle.std.proofs.Common.{◌≡◌, ◌++◌, length, List, suc, ap, ◌∙◌, subst, arith, rules}
use Rattle.std.specs.Prelude.{slice_get, Some}
use Rattle.std.specs.Vec.Iter.{into_iter_items}
use Rattle.std.specs.declared.alloc.Global.{Global}
use Rattle.std_alloc.specs.declared.boxed.Box.{Box}
use Rattle.board.specs.Views.{PostView}
use Rattle.c_board.specs.declared.kept.Kept.{Kept}
use Rattle.c_board.specs.Opening.{values_of, seats_of}
use Rattle.c_board.proofs.KeptLists.{all_next}
use Rattle.c_board.proofs.opening.boxed_posts.Goals as goal

pub loop-post-init : goal.loop-post-init
loop-post-init c =
    let gives = c.into_iter-post-iterator.ensures.into_iter_gives in
    record {
      all = ap (λ (boxes : List (Box Kept Global)). values_of boxes ++ seats_of c.args.board_number (into_iter_items c.into_iter-post-iterator.result)) c.in_ok-boxes.ensures.items;
      at = λ i post there. c.requires i post (subst (λ (xs : List PostView). slice_get xs i ≡ Some post) gives.0 there);
      rest = search rules;
      room = search rules;
    }

pub boxed_post-requires : goal.boxed_post-requires
boxed_post-requires c = c.loop-post.invariant.at 0 c.in-Some.post (ap (λ (xs : List PostView). slice_get xs 0) c.in-Some.ensures.steps.0)

pub loop-post-preserved : goal.loop-post-preserved
loop-post-preserved c =
    let its = c.loop-post.invariant in
    let steps = c.in-Some.ensures.steps in
    let rest = into_iter_items c.next.new.self in
    let was = its.all in
    record {
      all = ap (λ (boxes : List (Box Kept Global)). values_of boxes ++ seats_of c.args.board_number rest) c.push_reserved.ensures.items
          ∙ all_next c.args.board_number c.loop-post.boxes.items c.in_ok-boxed_post.field-0 c.in-Some.post rest (seats_of c.args.board_number (into_iter_items c.into_iter-post-iterator.result))
          (subst (λ (xs : List PostView). values_of c.loop-post.boxes.items ++ seats_of c.args.board_number xs ≡ seats_of c.args.board_number (into_iter_items c.into_iter-post-iterator.result)) steps.0 was) c.in_ok-boxed_post.ensures;
      at = λ i post there. its.at (suc i) post (ap (λ (xs : List PostView). slice_get xs (suc i)) steps.0 ∙ there);
      rest = omega (arith, steps.1, its.rest, ap length steps.0);
      room = search rules;
    }
