-- A whole board: what holds when all of its posts have met, and when all have left.
use Rattle.std.proofs.Common.{◌≡◌, ℕ, zero, suc, ◌<◌, ◌≤◌, List, [], ◌∷◌, ◌++◌, length, take, drop, map, get_or, refl, sym, ap, ◌∙◌, subst, arith}
use Rattle.std.specs.Prelude.{slice_get, None, Some}
use Rattle.std.proofs.lemmas.List.{length-map, take_at, drop_all}
use Rattle.std.proofs.lemmas.Option.{slice_get-get_or}
use Rattle.atomic_table.specs.Seated.{TableId}
use Rattle.chart.specs.declared.history.Occurrence.{Occurrence}
use Rattle.chart.specs.Histories.{chart_of, IsLegal}
use Rattle.chart.specs.HistoryLines.{history_lines}
use Rattle.chart.specs.Charts.{LineView}
use Rattle.chart.specs.Reports.{ReportView, AreReportsOf, AreReports}
use Rattle.chart.proofs.HistoryLines.{chart-is}
use Rattle.board.specs.declared.gathering.Provision.{Provision}
use Rattle.board.specs.declared.parting.Leaver.{Leaver}
use Rattle.board.specs.Views.{PostView}
use Rattle.board.specs.Meeting.{AreOfOneBoard, HaveMet, HasPost, AreAll}
use Rattle.board.specs.Gathering.{LaneEnds, AreJoint, size_of, all_lanes, waiting_lanes, closed_lanes, closed_view}
use Rattle.board.specs.Parting.{AreOf, HaveRooms, AreClosed, HaveSeen, HaveParted, AreReady, AreForLines, room_lane}
use Rattle.board.specs.Provisions.{IsProvision}
use Rattle.board.proofs.DrainedLanes.{next_first}
use Rattle.board.proofs.Meetings.{at_within}
use Rattle.board.proofs.RoomsMade.{joint_legal}

none_there : (y : PostView) → None ≡ Some y → ⊥
none_there y never = cc

some_one : (x y : PostView) → Some x ≡ Some y → x ≡ y
some_one x y same = cc

pub some_posts : (posts : List PostView) → AreAll posts → 0 < length posts
some_posts [] all = absurd all
some_posts (x ∷ posts) all = omega arith

-- a list that is wholly overwritten becomes the new list
pub written_over : {X : Type 0} (len : ℕ) (old new : List X) → length new ≡ length old → len ≡ length old → take len (new ++ drop (length new) old) ≡ new
written_over {X} len old new many long = ap (λ xs. take len (new ++ xs)) (drop_all (length new) old (omega (arith, many))) ∙ take_at new [] len (many ∙ sym long)

map_back : (f : PostView → PostView) (posts : List PostView) (i : ℕ) (y : PostView) → slice_get (map f posts) i ≡ Some y → (x : PostView) × (slice_get posts i ≡ Some x) × (f x ≡ y)
map_back f [] i y at = absurd (none_there y at)
map_back f (x ∷ posts) zero y at = (x, refl, some_one (f x) y at)
map_back f (x ∷ posts) (suc i) y at = map_back f posts i y at

map_there : (f : PostView → PostView) (posts : List PostView) (i : ℕ) (x : PostView) → slice_get posts i ≡ Some x → slice_get (map f posts) i ≡ Some (f x)
map_there f [] i x at = absurd (none_there x at)
map_there f (y ∷ posts) zero x at = ap (λ (z : PostView). Some (f z)) (some_one y x at)
map_there f (y ∷ posts) (suc i) x at = map_there f posts i x at

pub size_is : (posts : List PostView) (x : PostView) → slice_get posts 0 ≡ Some x → size_of posts ≡ x.board.size
size_is [] x at = absurd (none_there x at)
size_is (y ∷ posts) x at = ap (λ (z : PostView). z.board.size) (some_one y x at)

each_there : (posts : List PostView) (x : PostView) → slice_get posts 0 ≡ Some x → AreAll posts → (number : ℕ) → 1 ≤ number → number ≤ x.board.size → HasPost posts number
each_there [] x at all number low high = absurd all
each_there (y ∷ posts) x at all number low high = all number low (subst (λ (z : PostView). number ≤ z.board.size) (sym (some_one y x at)) high)

module _ (posts : List PostView) (x : PostView) (at : slice_get posts 0 ≡ Some x) (one : AreOfOneBoard posts) (all : AreAll posts) (n : ℕ) (size : n ≡ x.board.size) where
  pub are_of : AreOf n x.board.capacity posts
  are_of = record {
    size = λ i post there. let same = one i 0 post x there at in (ap (λ b. b.size) same ∙ sym size, ap (λ b. b.capacity) same);
    same_board = one;
    all = λ number low high. each_there posts x at all number low (omega (arith, high, size));
  }

  pub have_seen : (new : List PostView) (met : HaveMet posts new) → HaveSeen n x.board.capacity x.board.table met.history 0 new
  have_seen new met = subst (λ (ps : List PostView). HaveSeen n x.board.capacity x.board.table met.history 0 ps) (sym met.seen) (record {
    each = λ i post there.
        let was = map_back (λ (post : PostView). record post { seen = met.history }) posts i post there in
        record {
          board = ap (λ (z : PostView). z.board) (sym was.2) ∙ one i 0 was.0 x was.1 at ∙ ap (λ (m : ℕ). record { table = x.board.table; size = m; capacity = x.board.capacity }) (sym size);
          seen = ap (λ (z : PostView). z.seen) (sym was.2);
        };
    all = λ number low high.
        let has = each_there posts x at all number low (omega (arith, high, size)) in
        (has.0, record has.1 { seen = met.history }, map_there (λ (post : PostView). record post { seen = met.history }) posts has.0 has.1 has.2, has.3);
  })

  pub whole_legal : (h : List Occurrence) → AreJoint h posts → 1 ≤ n → IsLegal n x.board.capacity h
  whole_legal h joint some = joint_legal n x.board.capacity posts are_of 1 (omega arith) some h joint

module _ (n k : ℕ) (table : TableId) (h : List Occurrence) (lines : List LineView) (leavers : List Leaver) (parted : HaveParted (record { table = table; size = n; capacity = k }) h n lines leavers) where
  pub all_ready : AreReady n k table h (waiting_lanes n h) leavers
  all_ready = record {
    as_many = parted.as_many;
    seated = parted.seated;
    next = λ i leaver at.
        let within = at_within leavers i leaver at in
        next_first n k (suc i) h (omega arith) (omega (arith, within, parted.as_many)) 1 n leaver.seat.me.1 (parted.left i leaver at);
  }

pub all_reports : (n k : ℕ) (h : List Occurrence) (reports : List ReportView) → IsLegal n k h → AreReportsOf (chart_of h) (history_lines n h) reports → AreReports (history_lines n h) reports
all_reports n k h reports legal its = record { are = subst (λ c. AreReportsOf c (history_lines n h) reports) (chart-is n k h legal) its }

-- posts that have met, of which `left` are still there
pub record IsGoing (posts left : List PostView) (n k : ℕ) (table : TableId) (h : List Occurrence) : Type 0 where
  pub are : AreOf n k posts
  pub joint : AreJoint h posts
  pub legal : IsLegal n k h
  pub seen : HaveSeen n k table h 0 left
  pub size : n ≡ size_of posts

pub going : (posts front new : List PostView) (len : ℕ) (x : PostView) (n : ℕ) → AreAll posts → AreOfOneBoard posts → x ≡ get_or posts 0 x → front ≡ posts → length front ≡ len → HaveMet front new → n ≡ x.board.size → 2 ≤ n
    → (h : List Occurrence) × IsGoing posts (take len (new ++ drop (length new) posts)) n x.board.capacity x.board.table h
going posts front new len x n all one first same long met size several =
    let at : slice_get posts 0 ≡ Some x = slice_get-get_or posts 0 x (some_posts posts all) ∙ ap (λ (post : PostView). Some post) (sym first) in
    let its : HaveMet posts new = subst (λ (ps : List PostView). HaveMet ps new) same met in
    let many : length new ≡ length posts = ap length its.seen ∙ length-map posts (λ (post : PostView). record post { seen = its.history }) in
    let back = written_over len posts new many (sym long ∙ ap length same) in (
      its.history,
      record {
        are = are_of posts x at one all n size;
        joint = its.joint;
        legal = whole_legal posts x at one all n size its.history its.joint (omega (arith, several));
        seen = subst (λ (ps : List PostView). HaveSeen n x.board.capacity x.board.table its.history 0 ps) (sym back) (have_seen posts x at one all n size new its);
        size = size ∙ sym (size_is posts x at);
      },
    )

module _ (posts left : List PostView) (n k : ℕ) (table : TableId) (h : List Occurrence) (g : IsGoing posts left n k table h) (it : Provision) (provision : IsProvision (size_of posts) posts it) where
  pub its_reports : AreReportsOf (chart_of h) (history_lines n h) it.reports.items
  its_reports = subst (λ (m : ℕ). AreReportsOf (chart_of h) (history_lines m h) it.reports.items) (sym g.size) (provision.reports h g.joint)

  pub its_own_events : AreForLines h n it.own_events.items
  its_own_events = subst (λ (m : ℕ). AreForLines h m it.own_events.items) (sym g.size) (provision.own_events h g.joint)

  pub its_rooms : HaveRooms n k posts (all_lanes n) it.rooms.items
  its_rooms = subst (λ (m : ℕ). HaveRooms m k posts (all_lanes m) it.rooms.items) (sym g.size) (provision.rooms k (subst (λ (m : ℕ). AreOf m k posts) g.size g.are))

  pub its_lanes : map room_lane it.rooms.items ≡ waiting_lanes n h
  its_lanes = its_rooms.live h g.joint

  pub its_closed : map closed_view it.closed.items ≡ closed_lanes n h
  its_closed = (subst (λ (m : ℕ). AreClosed posts (all_lanes m) it.closed.items) (sym g.size) (provision.closed k (subst (λ (m : ℕ). AreOf m k posts) g.size g.are))) h g.joint

  pub its_ready : (lines : List LineView) (leavers front : List Leaver) (words : TableId) → HaveParted (record { table = table; size = n; capacity = k }) h n lines leavers → front ≡ leavers → words ≡ table → AreReady n k words h (map room_lane it.rooms.items) front
  its_ready lines leavers front words parted same seated =
      subst (λ (ls : List Leaver). AreReady n k words h (map room_lane it.rooms.items) ls) (sym same)
      (subst (λ (lanes : List LaneEnds). AreReady n k words h lanes leavers) (sym its_lanes)
      (subst (λ (t : TableId). AreReady n k t h (waiting_lanes n h) leavers) (sym seated)
      (all_ready n k table h lines leavers parted)))
