use Rattle.std.proofs.Common.{◌≡◌, ◌<◌, ◌++◌, ◌∷◌, List, length, take, drop, set, get_or, sym, ap, ◌∙◌, subst, arith}
use Rattle.std.specs.Prelude.{slice_get, Option, Some}
use Rattle.std.specs.Vec.Iter.{into_iter_items}
use Rattle.std.proofs.lemmas.List.{map-set, drop-map}
use Rattle.std.specs.declared.alloc.Global.{Global}
use Rattle.std_alloc.specs.declared.boxed.Box.{Box}
use Rattle.c_board.specs.declared.handle.Handle.{Handle}
use Rattle.c_board.specs.declared.kept.Kept.{Kept}
use Rattle.c_board.specs.Opening.{kept_by, all_of, values_of}
use Rattle.c_board.proofs.Lists.{put_next, drop_next, drop_less, mid_at}
use Rattle.c_board.proofs.KeptLists.{kept_at, length-kept_by, length-values}
use Rattle.c_board.proofs.opening.put_all.Goals as goal

pub put-requires : goal.put-requires
put-requires c =
    let its = c.loop-kept.invariant in
    let boxes = into_iter_items c.into_iter-kept-iterator.result in
    let olds = kept_by c.args.handles.now in
    let place = c.loop-kept.place in
    let left : drop place boxes ≡ c.in-Some.kept ∷ into_iter_items c.next.new.self = sym its.left ∙ c.in-Some.ensures.steps.0 in
    let few : place < length boxes = drop_less boxes place _ _ left in
    let less : place < length c.args.handles.now = omega (arith, few, ap length c.into_iter-kept-iterator.ensures.into_iter_gives.0, c.requires.as_many) in
    let one = (get_or c.loop-kept.handles place c.index-handles-place.result).slot.value in
    let here : slice_get (kept_by c.loop-kept.handles) place ≡ Some one = kept_at c.loop-kept.handles place c.index-handles-place.result (omega (arith, less, c.loop-kept.auto.handles)) in
    c.requires.empty place one (sym (mid_at (all_of (values_of boxes)) olds place (omega (arith, few, length-values boxes)) (omega (arith, less, length-kept_by c.args.handles.now)))
    ∙ subst (λ (xs : List (Option Kept)). slice_get xs place ≡ Some one) its.put here)

pub loop-kept-preserved : goal.loop-kept-preserved
loop-kept-preserved c =
    let its = c.loop-kept.invariant in
    let steps = c.in-Some.ensures.steps in
    let boxes = into_iter_items c.into_iter-kept-iterator.result in
    let olds = kept_by c.args.handles.now in
    let place = c.loop-kept.place in
    let left : drop place boxes ≡ c.in-Some.kept ∷ into_iter_items c.next.new.self = sym its.left ∙ steps.0 in
    let few : place < length boxes = drop_less boxes place _ _ left in
    let less : place < length olds = omega (arith, few, ap length c.into_iter-kept-iterator.ensures.into_iter_gives.0, c.requires.as_many, length-kept_by c.args.handles.now) in
    let all = all_of (values_of boxes) in
    let next : drop place all ≡ Some c.in-Some.kept.value ∷ all_of (values_of (into_iter_items c.next.new.self)) =
    drop-map (λ (kept : Kept). Some kept) place (values_of boxes) ∙ ap all_of (drop-map (λ (box : Box Kept Global). box.value) place boxes) ∙ ap (λ (xs : List (Box Kept Global)). all_of (values_of xs)) left in
    record {
      put = map-set (λ (handle : Handle). handle.slot.value) c.loop-kept.handles place c.put.new.self
          ∙ ap (λ (xs : List (Option Kept)). set xs place c.put.new.self.slot.value) its.put
          ∙ ap (λ (one : Option Kept). set (take place all ++ drop place olds) place one) c.put.ensures
          ∙ put_next all olds place (Some c.in-Some.kept.value) _ less next;
      left = sym (drop_next boxes place _ _ left);
      rest = omega (arith, steps.1, its.rest, ap length steps.0);
    }
