use Rattle.std.proofs.Common.{◌≡◌, ◌∷◌, [], ◌++◌, List, length, map, get_or, refl, sym, ap, ap₂, ◌∙◌, subst, append_assoc, append-nil, length-append, arith}
use Rattle.std.specs.Prelude.{All}
use Rattle.std.specs.Vec.Iter.{into_iter_items}
use Rattle.std.proofs.lemmas.List.{map_push}
use Rattle.board.specs.declared.parting.Leaver.{Leaver}
use Rattle.board.specs.declared.parting.Room.{Room}
use Rattle.board.specs.Gathering.{left_view, left_on}
use Rattle.board.specs.Parting.{room_lane, IsLaneRoom, AreReady}
use Rattle.board.proofs.DrainedLanes.{is_first, ready_next, now_of, left_is}
use Rattle.board.proofs.parting.take_lanes.Goals as goal

nothing_left : {X : Type 0} (xs : List X) → length xs ≡ 0 → xs ≡ []
nothing_left [] e = refl
nothing_left (x ∷ xs) e = absurd (omega (arith, e))

pub take_all-requires-clause-table : goal.take_all-requires-clause-table
take_all-requires-clause-table c =
    let its = c.requires.ready in
    let room = c.in-Some.room in
    let gives = c.into_iter-room-iterator.ensures.into_iter_gives.0 in
    let so = c.loop-room.invariant.drained its.0 its.1 its.2 (subst (λ (rs : List Room). AreReady its.0 its.1 c.args.words.now.table_id its.2 (map room_lane rs) c.args.leavers.now) (sym gives) its.3) (subst (λ (rs : List Room). All (IsLaneRoom its.2 its.0 its.1) rs) (sym gives) its.4) in
    let now = now_of its.0 its.1 c.args.words.now.table_id its.2 (into_iter_items c.loop-room.room-iterator) room (into_iter_items c.next.new.self) c.loop-room.leavers c.place.result c.index-leavers-place.result so.0 so.1 c.in-Some.ensures.steps.0 c.place.ensures.value in
    now.ready.seated c.place.result _ now.at

pub take_all-requires-clause-first : goal.take_all-requires-clause-first
take_all-requires-clause-first c =
    let its = c.requires.ready in
    let room = c.in-Some.room in
    let gives = c.into_iter-room-iterator.ensures.into_iter_gives.0 in
    let table = c.args.words.now.table_id in
    let rooms = into_iter_items c.next.new.self in
    let leaver : Leaver = get_or c.loop-room.leavers c.place.result c.index-leavers-place.result in
    let so = c.loop-room.invariant.drained its.0 its.1 its.2 (subst (λ (rs : List Room). AreReady its.0 its.1 table its.2 (map room_lane rs) c.args.leavers.now) (sym gives) its.3) (subst (λ (rs : List Room). All (IsLaneRoom its.2 its.0 its.1) rs) (sym gives) its.4) in
    let now = now_of its.0 its.1 table its.2 (into_iter_items c.loop-room.room-iterator) room rooms c.loop-room.leavers c.place.result c.index-leavers-place.result so.0 so.1 c.in-Some.ensures.steps.0 c.place.ensures.value in
    let first = is_first its.0 its.1 table its.2 room (map room_lane rooms) c.loop-room.leavers now.ready now.its c.place.result c.place.ensures.value leaver now.at in
    (first.packets, first.others, first.come, first.many)

pub loop-room-preserved : goal.loop-room-preserved
loop-room-preserved c =
    let at = c.loop-room in
    let inv = at.invariant in
    let room = c.in-Some.room in
    let rooms = into_iter_items c.next.new.self in
    let table = c.args.words.now.table_id in
    let j = c.place.result in
    let leaver : Leaver = get_or at.leavers j c.index-leavers-place.result in
    let steps : into_iter_items at.room-iterator ≡ room ∷ rooms = c.in-Some.ensures.steps.0 in
    let pushed : c.push_reserved.new.self.items ≡ at.left.items ++ c.take_all.result ∷ [] = c.push_reserved.ensures.items in
    record {
      all = append_assoc at.yielded (room ∷ []) _ ∙ rw (← steps) inv.all;
      rest =
          let was = inv.rest in
          let gone = c.in-Some.ensures.steps.1 in
          let short = ap length steps in
          omega (arith, was, gone, short);
      enough = omega (arith, inv.enough, c.push_reserved.ensures.capacity);
      many = omega (arith, ap length pushed, length-append at.left.items (c.take_all.result ∷ []), length-append at.yielded (room ∷ []), inv.many);
      drained = λ n k h begun all.
          let so = inv.drained n k h begun all in
          let now = now_of n k table h (into_iter_items at.room-iterator) room rooms at.leavers j c.index-leavers-place.result so.0 so.1 steps c.place.ensures.value in
          let first = is_first n k table h room (map room_lane rooms) at.leavers now.ready now.its j c.place.ensures.value leaver now.at in
          let its = c.take_all.ensures.drained first.packets first.others first.come first.many in (
            ready_next n k table h room (map room_lane rooms) at.leavers now.ready now.its j c.place.ensures.value leaver now.at (record leaver { seat = c.take_all.new.seat }) c.take_all.ensures.table its.1.0 its.1.1,
            now.others,
            ap (map left_view) pushed ∙ map_push left_view at.left.items c.take_all.result
                ∙ ap₂ (λ xs x. xs ++ x ∷ []) so.2 (left_is h room c.take_all.result c.take_all.ensures.sender c.take_all.ensures.receiver (its.0 ∙ first.stated))
                ∙ sym (map_push (left_on h) (map room_lane at.yielded) (room_lane room)) ∙ ap (map (left_on h)) (sym (map_push room_lane at.yielded room)),
          );
    }

pub returns : goal.returns
returns c = λ n k h begun all.
    let at = c.loop-room in
    let none = c.in-None.ensures.steps in
    let gives = c.into_iter-room-iterator.ensures.into_iter_gives.0 in
    let empty : into_iter_items at.room-iterator ≡ [] = nothing_left _ (sym at.invariant.rest ∙ none.0) in
    let whole : at.yielded ≡ c.args.rooms.items = sym (append-nil at.yielded) ∙ rw empty at at.invariant.all ∙ gives in
    let so = at.invariant.drained n k h (subst (λ (rs : List Room). AreReady n k c.args.words.now.table_id h (map room_lane rs) c.args.leavers.now) (sym gives) begun) (subst (λ (rs : List Room). All (IsLaneRoom h n k) rs) (sym gives) all) in
    so.2 ∙ ap (λ (rs : List Room). map (left_on h) (map room_lane rs)) whole
