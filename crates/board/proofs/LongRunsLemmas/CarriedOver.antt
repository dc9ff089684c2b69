-- Carrying over as a whole: from posts that made nothing yet to posts that have seen exactly the carried history.
use Rattle.std.proofs.Common.{◌≡◌, ℕ, zero, suc, ◌+◌, ◌<◌, ◌≤◌, List, [], ◌∷◌, ◌++◌, length, map, get_or, refl, sym, ap, ◌∙◌, subst, arith, append-nil}
use Rattle.std.specs.Prelude.{slice_get, None, Some}
use Rattle.std.specs.List.{range_with_len}
use Rattle.std.proofs.lemmas.List.{length-map}
use Rattle.std.proofs.lemmas.Option.{slice_get-get_or}
use Rattle.chart.specs.declared.history.Occurrence.{Occurrence}
use Rattle.chart.specs.declared.line.TheConstants.{MAX_EVENTS}
use Rattle.chart.specs.Histories.{own, received, chart_of, IsLegal, Begins}
use Rattle.chart.proofs.Alone.{nothing_more}
use Rattle.chart.proofs.Histories.{begins_same}
use Rattle.board.specs.declared.gathering.Gathered.{Gathered}
use Rattle.board.specs.Views.{BoardView, PostView}
use Rattle.board.specs.Boards.{AreNewPosts}
use Rattle.board.specs.Meeting.{AreOfOneBoard, HasPost, AreAll, HaveMet}
use Rattle.board.specs.Gathering.{LaneEnds, LeftView, left_on, left_view, closed_view, waiting_lanes, all_lanes, size_of, IsWhole}
use Rattle.board.proofs.Closes.{line_short}
use Rattle.board.proofs.Meetings.{at_within, one_ahead}
use Rattle.board.specs.LongRuns.CarriedHistories.{all_again, closes_again, carried_history, sent_again_by, IsLeftBy, WereLeft, HaveSameLanes}
use Rattle.board.specs.LongRuns.CarryingOver.{MayAllCarry, HasCarried, HaveCarried, HaveMoreRoom, KeepLanes}
use Rattle.board.specs.LongRuns.CarryingSteps.{AreAllOf, AreOn, HaveRoom, MayGoOn, HasReserved, HaveReserved}
use Rattle.board.proofs.LongRunsLemmas.CarriedLanes.{again_few, carried-legal, carried-received, carried-line, same-lanes, nothing-waits, nothing-closed}
use Rattle.board.proofs.LongRunsLemmas.CarryingOn.{map_there}
use Rattle.board.proofs.LongRunsLemmas.CarryingLoops.{may_next}

none_there : {X : Type 0} (x : X) → None ≡ Some x → ⊥
none_there x never = cc

some_one : {X : Type 0} (x y : X) → Some x ≡ Some y → x ≡ y
some_one x y same = cc

-- What was left.

pub were_legal : (n k : ℕ) (left : List LeftView) (closed : List LaneEnds) → WereLeft n k left closed → IsLegal n k (carried_history left closed)
were_legal n k left closed were =
    let h = were.history in
    subst (λ ls. IsLegal n k (carried_history ls closed)) (sym were.left_by.waited)
    (subst (λ cs. IsLegal n k (carried_history (map (left_on h) (waiting_lanes n h)) cs)) (sym were.left_by.shut)
    (carried-legal n were.slots k h were.legal were.within (line_short n were.slots h were.legal)))

were_received : (n k : ℕ) (left : List LeftView) (closed : List LaneEnds) → WereLeft n k left closed → (q p : ℕ) → received (carried_history left closed) q p ≡ 0
were_received n k left closed were q p =
    let h = were.history in
    subst (λ ls. received (carried_history ls closed) q p ≡ 0) (sym were.left_by.waited)
    (subst (λ cs. received (carried_history (map (left_on h) (waiting_lanes n h)) cs) q p ≡ 0) (sym were.left_by.shut)
    (carried-received n were.slots k h were.legal were.within (line_short n were.slots h were.legal) q p))

were_line : (n k : ℕ) (left : List LeftView) (closed : List LaneEnds) → WereLeft n k left closed → (p : ℕ) → length (chart_of (carried_history left closed) p) ≡ sent_again_by p left
were_line n k left closed were p =
    let h = were.history in
    subst (λ ls. length (chart_of (carried_history ls closed) p) ≡ sent_again_by p ls) (sym were.left_by.waited)
    (subst (λ cs. length (chart_of (carried_history (map (left_on h) (waiting_lanes n h)) cs) p) ≡ sent_again_by p (map (left_on h) (waiting_lanes n h))) (sym were.left_by.shut)
    (carried-line n were.slots k h were.legal were.within (line_short n were.slots h were.legal) p))

pub were_few : (n k : ℕ) (left : List LeftView) (closed : List LaneEnds) → WereLeft n k left closed → (p : ℕ) → sent_again_by p left ≤ MAX_EVENTS
were_few n k left closed were p =
    let h = were.history in
    subst (λ ls. sent_again_by p ls ≤ MAX_EVENTS) (sym were.left_by.waited) (again_few n were.slots k h were.legal were.within (line_short n were.slots h were.legal) p)

-- The laws.

pub lanes_as_left : (n k : ℕ) (h : List Occurrence) (left : List LeftView) (closed : List LaneEnds) → IsLegal n k h → IsLeftBy n h left closed → HaveSameLanes h (carried_history left closed)
lanes_as_left n k h left closed legal by =
    let le : k ≤ k = omega arith in
    subst (λ ls. HaveSameLanes h (carried_history ls closed)) (sym by.waited)
    (subst (λ cs. HaveSameLanes h (carried_history (map (left_on h) (waiting_lanes n h)) cs)) (sym by.shut)
    (same-lanes n k k h legal le (line_short n k h legal)))

pub first_left : (n k : ℕ) → WereLeft n k [] []
first_left n k = record {
  slots = k;
  within = omega arith;
  history = [];
  legal = tt;
  left_by = record { waited = ap (map (left_on [])) (sym (nothing-waits (all_lanes n))); shut = sym (nothing-closed (all_lanes n)) };
}

pub gathered_left : (posts : List PostView) (it : Gathered) (k : ℕ) → IsWhole posts it → ((i : ℕ) (post : PostView) → slice_get posts i ≡ Some post → post.board.capacity ≤ k)
    → WereLeft (size_of posts) k (map left_view it.left.items) (map closed_view it.closed.items)
gathered_left [] it k whole slots = absurd whole.all
gathered_left (x ∷ posts) it k whole slots = record {
  slots = x.board.capacity;
  within = slots 0 x refl;
  history = whole.history;
  legal = (whole.joint 0 x refl).legal;
  left_by = record { waited = whole.gathered.left; shut = whole.gathered.closed };
}

pub new_posts_may : (board : BoardView) (posts : List PostView) (left : List LeftView) (closed : List LaneEnds) → AreNewPosts board posts → WereLeft board.size board.capacity left closed → MayAllCarry left closed posts
new_posts_may board posts left closed new were i post at =
    let same = new.each i post at in
    record {
      untouched = record { made = ap (λ (x : PostView). x.made) same; region = ap (λ (x : PostView). x.region) same };
      were = subst (λ (b : BoardView). WereLeft b.size b.capacity left closed) (sym (ap (λ (x : PostView). x.board) same)) were;
    }

pub may_again : (left : List LeftView) (closed : List LaneEnds) (old new : List PostView) → MayAllCarry left closed old → HaveMoreRoom old new → MayAllCarry left closed new
may_again left closed old new may more i y at_y =
    let within : i < length old = let lt = at_within new i y at_y in omega (arith, lt, more.as_many) in
    let x : PostView = get_or old i y in
    let at_x : slice_get old i ≡ Some x = slice_get-get_or old i y within in
    let rest = (more.each i x y at_x at_y).rest in
    let its = may i x at_x in
    record {
      untouched = record { made = ap (λ (post : PostView). post.made) rest ∙ its.untouched.made; region = ap (λ (post : PostView). post.region) rest ∙ its.untouched.region };
      were = subst (λ (b : BoardView). WereLeft b.size b.capacity left closed) (sym (ap (λ (post : PostView). post.board) rest)) its.were;
    }

-- the number of sends that the list has for an instance
pub at_number : (f : ℕ → ℕ) (a n i many : ℕ) → slice_get (map f (range_with_len a n)) i ≡ Some many → many ≡ f (a + i)
at_number f a zero i many at = absurd (none_there many at)
at_number f a (suc n) zero many at = let same : a ≡ a + 0 = omega arith in sym (some_one (f a) many at) ∙ ap f same
at_number f a (suc n) (suc i) many at = let same : a + 1 + i ≡ a + suc i = omega arith in at_number f (a + 1) n i many at ∙ ap f same

all_there : (posts : List PostView) (x : PostView) → slice_get posts 0 ≡ Some x → AreAll posts → (number : ℕ) → 1 ≤ number → number ≤ x.board.size → HasPost posts number
all_there [] x at all number low high = absurd all
all_there (y ∷ posts) x at all number low high = all number low (subst (λ (z : PostView). number ≤ z.board.size) (sym (some_one y x at)) high)

-- What is carried over: the posts as they came (old), with room for their sends (now), after they had met (met), and at
-- the end (new).
module _ (old now met new : List PostView) (x : PostView) (left : List LeftView) (closed : List LaneEnds) (sends : List ℕ)
    (at : slice_get old 0 ≡ Some x) (one : AreOfOneBoard old) (all : AreAll old) (may : MayAllCarry left closed old)
    (counted : sends ≡ map (λ p. sent_again_by p left) (range_with_len 1 x.board.size)) (reserved : HaveReserved sends old now) where
  abbrev n : ℕ
  n = x.board.size

  abbrev k : ℕ
  k = x.board.capacity

  abbrev g : List Occurrence
  g = carried_history left closed

  were : WereLeft n k left closed
  were = (may 0 x at).were

  -- where a post came from
  record HasOrigin (i : ℕ) (z : PostView) : Type 0 where
    from : PostView
    there : slice_get old i ≡ Some from
    its : HasReserved sends from z

  origin : (i : ℕ) (z : PostView) → slice_get now i ≡ Some z → HasOrigin i z
  origin i z at_z =
      let within : i < length old = let its = at_within now i z at_z in omega (arith, its, reserved.as_many) in
      let y : PostView = get_or old i z in
      let there : slice_get old i ≡ Some y = slice_get-get_or old i z within in
      record { from = y; there = there; its = reserved.each i y z there at_z }

  same_board : (i : ℕ) (z : PostView) → slice_get now i ≡ Some z → z.board ≡ x.board
  same_board i z at_z =
      let o = origin i z at_z in
      ap (λ (post : PostView). post.board) o.its.rest ∙ sym (one 0 i x o.from at o.there)

  pub now_one : AreOfOneBoard now
  now_one i j a b at_a at_b = same_board i a at_a ∙ sym (same_board j b at_b)

  are : AreAllOf n k now
  are = record {
    one = now_one;
    size = λ i z at_z. let same = same_board i z at_z in (ap (λ (b : BoardView). b.size) same, ap (λ (b : BoardView). b.capacity) same);
    all = λ number low high.
        let (i, y, there, its) = all_there old x at all number low high in
        let within : i < length now = let lt = at_within old i y there in omega (arith, lt, reserved.as_many) in
        let z : PostView = get_or now i y in
        let at_z : slice_get now i ≡ Some z = slice_get-get_or now i y within in
        (i, z, at_z, ap (λ (post : PostView). post.number) (reserved.each i y z there at_z).rest ∙ its);
  }

  -- each post has room for its sends
  place_room : HaveRoom g now
  place_room i z at_z =
      let o = origin i z at_z in
      let number : z.number ≡ o.from.number = ap (λ (post : PostView). post.number) o.its.rest in
      let many : o.its.many ≡ sent_again_by (1 + o.its.place) left = at_number (λ p. sent_again_by p left) 1 n o.its.place o.its.many (ap (λ xs. slice_get xs o.its.place) (sym counted) ∙ o.its.at) in
      let place : 1 + o.its.place ≡ z.number = omega (arith, number, o.its.number) in
      let line = were_line n k left closed were z.number in
      omega (arith, line, many, ap (λ p. sent_again_by p left) place, o.its.room)

  module _ (meeting : HaveMet now met) where
    abbrev h : List Occurrence
    h = meeting.history

    made : (number : ℕ) → 1 ≤ number → number ≤ n → own h number ≡ []
    made number low high =
        let (i, z, at_z, its) = are.all number low high in
        let o = origin i z at_z in
        ap (own h) (sym its) ∙ (meeting.joint i z at_z).own ∙ ap (λ (post : PostView). post.made) o.its.rest ∙ (may i o.from o.there).untouched.made

    -- nothing was made before
    nothing : h ≡ []
    nothing =
        let within : 0 < length now = let lt = at_within old 0 x at in omega (arith, lt, reserved.as_many) in
        let z : PostView = get_or now 0 x in
        let at_z : slice_get now 0 ≡ Some z = slice_get-get_or now 0 x within in
        let same = same_board 0 z at_z in
        let legal : IsLegal n k h = subst (λ (b : BoardView). IsLegal b.size b.capacity h) same (meeting.joint 0 z at_z).legal in
        nothing_more n k [] h legal (h, sym (append-nil h)) made

    at_first : AreOn n k [] now met
    at_first = record {
      are = are;
      unreceived = λ q p. refl;
      as_many = ap length meeting.seen ∙ length-map now (λ (post : PostView). record post { seen = h });
      each = λ i z y at_z at_y.
          let (w, there, is) = map_there (λ (post : PostView). record post { seen = h }) now i y (ap (λ xs. slice_get xs i) (sym meeting.seen) ∙ at_y) in
          let same : w ≡ z = one_ahead now i w z there at_z in
          let o = origin i z at_z in
          let untouched = (may i o.from o.there).untouched in
          subst (λ (y : PostView). HasCarried [] (length (chart_of [] y.number)) z y) is
          (subst (λ (w : PostView). HasCarried [] (length (chart_of [] w.number)) z (record w { seen = h })) (sym same) (record {
            same = record { board = refl; number = refl };
            seen = nothing;
            made = ap (λ (post : PostView). post.made) o.its.rest ∙ untouched.made;
            region = ap (λ (post : PostView). post.region) o.its.rest ∙ untouched.region;
            looks = omega arith;
            room = omega arith;
          }));
    }

    begun : Begins g g
    begun = begins_same g

    go : MayGoOn n k [] g now met
    go = record { on = at_first; legal = were_legal n k left closed were; room = place_room }

    whole_left : all_again left ++ [] ≡ all_again left
    whole_left = append-nil (all_again left)

    pub may_send : MayGoOn n k [] (all_again left ++ []) now met
    may_send = subst (λ f. MayGoOn n k [] f now met) (sym whole_left) (may_next n k [] [] (all_again left) g now met met go at_first (closes_again closed, refl))

    pub may_close : (sent : List PostView) → AreOn n k (all_again left ++ []) now sent → MayGoOn n k (all_again left) g now sent
    may_close sent on = may_next n k [] (all_again left) g g now met sent go (subst (λ f. AreOn n k f now sent) whole_left on) begun

    pub have_carried : AreOn n k g now new → HaveCarried left closed old new
    have_carried on = record {
      as_many = on.as_many ∙ reserved.as_many;
      each = λ i y w at_y at_w.
          let within : i < length now = let lt = at_within old i y at_y in omega (arith, lt, reserved.as_many) in
          let z : PostView = get_or now i y in
          let at_z : slice_get now i ≡ Some z = slice_get-get_or now i y within in
          let its = reserved.each i y z at_y at_z in
          let carried = on.each i z w at_z at_w in
          let number : z.number ≡ y.number = ap (λ (post : PostView). post.number) its.rest in
          let many : its.many ≡ sent_again_by (1 + its.place) left = at_number (λ p. sent_again_by p left) 1 n its.place its.many (ap (λ xs. slice_get xs its.place) (sym counted) ∙ its.at) in
          let place : 1 + its.place ≡ w.number = omega (arith, number, its.number, carried.same.number) in
          let line = were_line n k left closed were w.number in
          record {
            same = record { board = carried.same.board ∙ ap (λ (post : PostView). post.board) its.rest; number = carried.same.number ∙ number };
            seen = carried.seen;
            made = carried.made;
            region = carried.region;
            looks = omega (arith, carried.looks, ap (λ (post : PostView). post.looks) its.rest);
            room = omega (arith, carried.room, its.room, many, ap (λ p. sent_again_by p left) place, line);
          };
    }

    pub keep_lanes : AreOn n k g now new → KeepLanes left closed new
    keep_lanes on m slots f legal by i y at_y =
        let within : i < length old = let lt = at_within new i y at_y in omega (arith, lt, on.as_many, reserved.as_many) in
        let z : PostView = get_or old i y in
        let at_z : slice_get old i ≡ Some z = slice_get-get_or old i y within in
        let carried = (have_carried on).each i z y at_z at_y in
        subst (λ e. HaveSameLanes f e) (sym carried.seen) (lanes_as_left m slots f left closed legal by)
