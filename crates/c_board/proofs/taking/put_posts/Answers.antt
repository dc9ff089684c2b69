use Rattle.std.proofs.Common.{◌≡◌, ◌<◌, ◌∙◌, ◌∷◌, ◌++◌, ⊎_elim, length, take, drop, set, get_or, List, sym, ap, subst, arith}
use Rattle.std.specs.Prelude.{slice_get, Option, Some}
use Rattle.std.specs.Vec.Iter.{into_iter_items}
use Rattle.std.specs.Iterator.Adapters.{zip_first, zip_second}
use Rattle.std.proofs.lemmas.List.{map-set}
use Rattle.board.specs.Views.{PostView}
use Rattle.c_board.specs.declared.chair.Chair.{Chair}
use Rattle.c_board.specs.declared.handle.Handle.{Handle}
use Rattle.c_board.specs.declared.kept.Kept.{Kept}
use Rattle.c_board.specs.declared.kept.Kept.TheVariants.{Post}
use Rattle.c_board.specs.Opening.{kept_by}
use Rattle.c_board.specs.Chairs.{AreFit, seat_with, seats_with, kept_seats}
use Rattle.c_board.proofs.KeptLists.{kept_at, length-kept_by}
use Rattle.c_board.proofs.Lists.{mid_at, put_next, drop_next, drop_less}
use Rattle.c_board.proofs.ChairLemmas.{length-seats, length-fit, fits_next, seats_left, all_put, fit-drop}
use Rattle.c_board.proofs.taking.put_posts.Goals as goal

pub state-requires : goal.state-requires
state-requires c =
    let its = c.loop-chair.invariant in
    let steps = c.in-Some.ensures.steps in
    let chairs = into_iter_items (zip_first c.into_iter-chair-iterator.result) in
    let posts = into_iter_items (zip_second c.into_iter-chair-iterator.result) in
    let are_chairs : chairs ≡ c.args.chairs.items = ap (λ z. into_iter_items (zip_first z)) c.into_iter-chair-iterator.ensures.into_iter_gives ∙ ap into_iter_items c.zip-chair-items.ensures.first ∙ c.into_iter.ensures.rest in
    let are_posts : posts ≡ c.args.posts.items = ap (λ z. into_iter_items (zip_second z)) c.into_iter-chair-iterator.ensures.into_iter_gives ∙ c.zip-chair-items.ensures.second.0 in
    let fit : AreFit chairs posts = subst (λ (cs : List Chair). AreFit cs posts) (sym are_chairs) (subst (λ (ps : List PostView). AreFit c.args.chairs.items ps) (sym are_posts) c.requires.fit) in
    fits_next chairs (into_iter_items (zip_first c.next.new.self)) posts (into_iter_items (zip_second c.next.new.self)) c.in-Some.chair c.in-Some.post c.loop-chair.place fit (sym its.first ∙ steps.0.0) (sym its.second ∙ steps.1.0)

pub put-requires : goal.put-requires
put-requires c =
    let its = c.loop-chair.invariant in
    let steps = c.in-Some.ensures.steps in
    let place = c.loop-chair.place in
    let olds = kept_by c.args.handles.now in
    let chairs = into_iter_items (zip_first c.into_iter-chair-iterator.result) in
    let posts = into_iter_items (zip_second c.into_iter-chair-iterator.result) in
    let are_chairs : chairs ≡ c.args.chairs.items = ap (λ z. into_iter_items (zip_first z)) c.into_iter-chair-iterator.ensures.into_iter_gives ∙ ap into_iter_items c.zip-chair-items.ensures.first ∙ c.into_iter.ensures.rest in
    let are_posts : posts ≡ c.args.posts.items = ap (λ z. into_iter_items (zip_second z)) c.into_iter-chair-iterator.ensures.into_iter_gives ∙ c.zip-chair-items.ensures.second.0 in
    let fit : AreFit chairs posts = subst (λ (cs : List Chair). AreFit cs posts) (sym are_chairs) (subst (λ (ps : List PostView). AreFit c.args.chairs.items ps) (sym are_posts) c.requires.fit) in
    let all = kept_seats (seats_with chairs posts) in
    let few : place < length chairs = drop_less chairs place c.in-Some.chair (into_iter_items (zip_first c.next.new.self)) (sym its.first ∙ steps.0.0) in
    let less : place < length olds = omega (arith, few, ap length are_chairs, c.requires.as_many, length-kept_by c.args.handles.now) in
    let one = (get_or c.loop-chair.handles place c.index-handles-place.result).slot.value in
    let here : slice_get (kept_by c.loop-chair.handles) place ≡ Some one = kept_at c.loop-chair.handles place c.index-handles-place.result (omega (arith, less, c.loop-chair.auto.handles, length-kept_by c.args.handles.now)) in
    c.requires.empty place one (sym (mid_at all olds place (omega (arith, few, length-seats chairs posts fit)) less) ∙ subst (λ (xs : List (Option Kept)). slice_get xs place ≡ Some one) its.put here)

pub loop-chair-preserved : goal.loop-chair-preserved
loop-chair-preserved c =
    let its = c.loop-chair.invariant in
    let steps = c.in-Some.ensures.steps in
    let place = c.loop-chair.place in
    let olds = kept_by c.args.handles.now in
    let chairs = into_iter_items (zip_first c.into_iter-chair-iterator.result) in
    let posts = into_iter_items (zip_second c.into_iter-chair-iterator.result) in
    let rest = into_iter_items (zip_first c.next.new.self) in
    let more = into_iter_items (zip_second c.next.new.self) in
    let are_chairs : chairs ≡ c.args.chairs.items = ap (λ z. into_iter_items (zip_first z)) c.into_iter-chair-iterator.ensures.into_iter_gives ∙ ap into_iter_items c.zip-chair-items.ensures.first ∙ c.into_iter.ensures.rest in
    let are_posts : posts ≡ c.args.posts.items = ap (λ z. into_iter_items (zip_second z)) c.into_iter-chair-iterator.ensures.into_iter_gives ∙ c.zip-chair-items.ensures.second.0 in
    let fit : AreFit chairs posts = subst (λ (cs : List Chair). AreFit cs posts) (sym are_chairs) (subst (λ (ps : List PostView). AreFit c.args.chairs.items ps) (sym are_posts) c.requires.fit) in
    let all = kept_seats (seats_with chairs posts) in
    let first : drop place chairs ≡ c.in-Some.chair ∷ rest = sym its.first ∙ steps.0.0 in
    let second : drop place posts ≡ c.in-Some.post ∷ more = sym its.second ∙ steps.1.0 in
    let few : place < length chairs = drop_less chairs place c.in-Some.chair rest first in
    let less : place < length olds = omega (arith, few, ap length are_chairs, c.requires.as_many, length-kept_by c.args.handles.now) in
    record {
      put = map-set (λ (handle : Handle). handle.slot.value) c.loop-chair.handles place c.put.new.self
          ∙ ap (λ (xs : List (Option Kept)). set xs place c.put.new.self.slot.value) its.put
          ∙ ap (λ (one : Option Kept). set (take place all ++ drop place olds) place one) (c.put.ensures ∙ ap (λ (kept : Kept). Some kept) c.state.ensures)
          ∙ put_next all olds place (Some (Post (seat_with c.in-Some.chair c.in-Some.post))) _ less (seats_left chairs rest posts more c.in-Some.chair c.in-Some.post place fit first second);
      first = sym (drop_next chairs place _ _ first);
      second = sym (drop_next posts place _ _ second);
      chairs = omega (arith, steps.0.1, its.chairs, ap length steps.0.0);
      posts = omega (arith, steps.1.1, its.posts, ap length steps.1.0);
    }

pub returns : goal.returns
returns c =
    let its = c.loop-chair.invariant in
    let place = c.loop-chair.place in
    let olds = kept_by c.args.handles.now in
    let chairs = into_iter_items (zip_first c.into_iter-chair-iterator.result) in
    let posts = into_iter_items (zip_second c.into_iter-chair-iterator.result) in
    let are_chairs : chairs ≡ c.args.chairs.items = ap (λ z. into_iter_items (zip_first z)) c.into_iter-chair-iterator.ensures.into_iter_gives ∙ ap into_iter_items c.zip-chair-items.ensures.first ∙ c.into_iter.ensures.rest in
    let are_posts : posts ≡ c.args.posts.items = ap (λ z. into_iter_items (zip_second z)) c.into_iter-chair-iterator.ensures.into_iter_gives ∙ c.zip-chair-items.ensures.second.0 in
    let fit : AreFit chairs posts = subst (λ (cs : List Chair). AreFit cs posts) (sym are_chairs) (subst (λ (ps : List PostView). AreFit c.args.chairs.items ps) (sym are_posts) c.requires.fit) in
    let first_len : length (into_iter_items (zip_first c.loop-chair.chair-iterator)) ≡ length (drop place chairs) = ap length its.first in
    let second_len : length (into_iter_items (zip_second c.loop-chair.chair-iterator)) ≡ length (drop place posts) = ap length its.second in
    let none : length (drop place chairs) ≡ 0 = ⊎_elim (λ h. omega (arith, h.1.0, its.chairs, first_len)) (λ h. sym (length-fit (drop place chairs) (drop place posts) (fit-drop chairs posts place fit)) ∙ omega (arith, h.1.0, its.posts, second_len)) c.in-None.ensures.steps in
    all_put olds chairs posts place none fit (omega (arith, ap length are_chairs, c.requires.as_many, length-kept_by c.args.handles.now)) its.put
    ∙ ap (λ (cs : List Chair). kept_seats (seats_with cs posts)) are_chairs ∙ ap (λ (ps : List PostView). kept_seats (seats_with c.args.chairs.items ps)) are_posts
