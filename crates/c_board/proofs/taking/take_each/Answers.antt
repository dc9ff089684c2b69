use Rattle.std.proofs.Common.{◌≡◌, ◌<◌, ◌∙◌, ◌∷◌, ◌++◌, [], length, take, drop, set, get_or, List, sym, ap, subst, arith, rules, length-append}
use Rattle.std.specs.Prelude.{slice_get, Option, None, Some, true}
use Rattle.std.proofs.lemmas.List.{map-set}
use Rattle.c_board.specs.declared.handle.Handle.{Handle}
use Rattle.c_board.specs.declared.kept.Kept.{Kept}
use Rattle.c_board.specs.declared.kept.Kept.TheVariants.{Post}
use Rattle.c_board.specs.Opening.{kept_by}
use Rattle.c_board.specs.Chairs.{is_post, seat_with}
use Rattle.c_board.proofs.KeptLists.{kept_at, length-kept_by}
use Rattle.c_board.proofs.Lists.{mid_at, put_next}
use Rattle.c_board.proofs.ChairLemmas.{nones, length-nones, none_at, drop_at, seats_more, fit_more, all_taken, never_post}
use Rattle.c_board.proofs.taking.take_each.Goals as goal

pub unreachable-requires : goal.unreachable-requires
unreachable-requires c =
    let its = c.loop-place.invariant in
    let olds = kept_by c.args.handles.now in
    let place = c.loop-place.place in
    let one = (get_or c.loop-place.handles place c.index-handles-place.result).slot.value in
    let less : place < length olds = omega (arith, c.loop-place-test.true, length-kept_by c.args.handles.now) in
    let here : slice_get (kept_by c.loop-place.handles) place ≡ Some one = kept_at c.loop-place.handles place c.index-handles-place.result (omega (arith, c.loop-place-test.true, c.loop-place.auto.handles)) in
    let was : slice_get olds place ≡ Some one = sym (mid_at (nones olds) olds place (omega (arith, less, length-nones olds)) less) ∙ subst (λ (xs : List (Option Kept)). slice_get xs place ≡ Some one) its.put here in
    never_post one c.in_default.ensures.none (c.requires.posts place one was)

pub of-chair-requires : goal.of-chair-requires
of-chair-requires c =
    let its = c.loop-place.invariant in
    let olds = kept_by c.args.handles.now in
    let place = c.loop-place.place in
    let one = (get_or c.loop-place.handles place c.index-handles-place.result).slot.value in
    let less : place < length olds = omega (arith, c.loop-place-test.true, length-kept_by c.args.handles.now) in
    let here : slice_get (kept_by c.loop-place.handles) place ≡ Some one = kept_at c.loop-place.handles place c.index-handles-place.result (omega (arith, c.loop-place-test.true, c.loop-place.auto.handles)) in
    let was : slice_get olds place ≡ Some one = sym (mid_at (nones olds) olds place (omega (arith, less, length-nones olds)) less) ∙ subst (λ (xs : List (Option Kept)). slice_get xs place ≡ Some one) its.put here in
    subst (λ (it : Option Kept). is_post it ≡ true) c.in-Some.ensures.some (c.requires.posts place one was)

pub loop-place-preserved : goal.loop-place-preserved
loop-place-preserved c =
    let its = c.loop-place.invariant in
    let olds = kept_by c.args.handles.now in
    let place = c.loop-place.place in
    let one = (get_or c.loop-place.handles place c.index-handles-place.result).slot.value in
    let chair = c.of-chair.result.0 in
    let post = c.of-chair.result.1 in
    let less : place < length olds = omega (arith, c.loop-place-test.true, length-kept_by c.args.handles.now) in
    let here : slice_get (kept_by c.loop-place.handles) place ≡ Some one = kept_at c.loop-place.handles place c.index-handles-place.result (omega (arith, c.loop-place-test.true, c.loop-place.auto.handles)) in
    let was : slice_get olds place ≡ Some one = sym (mid_at (nones olds) olds place (omega (arith, less, length-nones olds)) less) ∙ subst (λ (xs : List (Option Kept)). slice_get xs place ≡ Some one) its.put here in
    let state : slice_get olds place ≡ Some (Some (Post (seat_with chair post))) = was ∙ ap (λ (it : Option Kept). Some it) (c.in-Some.ensures.some ∙ ap (λ (it : Kept). Some it) c.of-chair.ensures.same) in
    record {
      put = map-set (λ (handle : Handle). handle.slot.value) c.loop-place.handles place c.take.new.self
          ∙ ap (λ (xs : List (Option Kept)). set xs place c.take.new.self.slot.value) its.put
          ∙ ap (λ (it : Option Kept). set (take place (nones olds) ++ drop place olds) place it) c.take.ensures.empty
          ∙ put_next (nones olds) olds place None _ less (drop_at (nones olds) place None (none_at olds place less));
      seats = seats_more olds c.loop-place.chairs.items _ c.loop-place.posts.items _ chair post place its.fit its.seats state c.push_reserved.ensures.items c.push_reserved-in-loop-place.ensures.items;
      fit = fit_more c.loop-place.chairs.items _ c.loop-place.posts.items _ chair post its.fit c.of-chair.ensures.fits c.push_reserved.ensures.items c.push_reserved-in-loop-place.ensures.items;
      chairs = omega (arith, ap length c.push_reserved.ensures.items, length-append c.loop-place.chairs.items (chair ∷ []), its.chairs);
      posts = omega (arith, ap length c.push_reserved-in-loop-place.ensures.items, length-append c.loop-place.posts.items (post ∷ []), its.posts);
      room_chairs = search rules;
      room_posts = search rules;
    }

pub returns : goal.returns
returns c =
    let its = c.loop-place.invariant in
    all_taken (kept_by c.args.handles.now) _ c.loop-place.chairs.items c.loop-place.posts.items c.loop-place.place
    (omega (arith, c.loop-place-test.false, c.loop-place.auto.place-end, length-kept_by c.args.handles.now)) its.fit its.seats its.put
