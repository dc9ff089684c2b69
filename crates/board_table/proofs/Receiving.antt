-- The steps of a lane's receiver keep the rule, and guarantee what they state.
use Rattle.std.proofs.Common.{◌≡◌, ◌≢◌, ℕ, zero, suc, ◌+◌, ◌-◌, ◌*◌, ◌<◌, ◌≤◌, ⊎_elim, false, List, [], ◌∷◌, ◌++◌, length, take, drop, get_or, set, refl, sym, ap, ap₂, ◌∙◌, subst, lt_of_not-le, arith, append-nil, append_assoc, length-drop, length-take}
use Rattle.std.specs.Prelude.{slice_index, Option}
use Rattle.std.proofs.lemmas.List.{set-get_or, get_or-set_same, get_or-set_other, length-set, drop-drop, take-append-drop}
use mathlib.Core.Option.{some}
use native.Mathlib.Decide.{dec_le}
use native.Mathlib.Nat.{add-mod_right}
use lib.ListN.{get_elem?}
use Rattle.atomic_table.specs.Table.{State, Allows, homes_after, carried_after, keeps}
use Rattle.chart.specs.declared.history.Occurrence.{Occurrence}
use Rattle.chart.specs.declared.history.Occurrence.TheVariants.{Receive}
use Rattle.chart.specs.declared.line.TheConstants.{MAX_EVENTS}
use Rattle.chart.specs.Events.{MayHaveRegion}
use Rattle.chart.specs.Histories.{own, is_lane, sent, received, is_closed, chart_of, AreTwo}
use Rattle.chart.proofs.Histories.{same_received, begins_same}
use Rattle.board_core.specs.Parcels.{Parcel, goods}
use Rattle.board_core.specs.Differences.{zeros}
use Rattle.board_core.proofs.GoodsLemmas.{goods_many, goods_grow}
use Rattle.board_core.proofs.OwnEvents.{same_line}
use Rattle.board_core.proofs.Standing.{other_receiver}
use Rattle.board_table.specs.declared.packet.Packet.{Packet}
use Rattle.board_table.specs.declared.held.Hold.TheVariants.{Nothing, Emptying}
use Rattle.board_table.specs.declared.held.Held.{Held}
use Rattle.board_table.specs.Layout.{LaneView, board_lane, put_word, taken_word, slot_of, slot_count}
use Rattle.board_table.specs.Carrying.{AreCarried, last_clock, with_received, vacant_slots, full_slots, packets_in, vacant_in}
use Rattle.board_table.specs.Knowing.{Mine, held, many_out, IsPost, IsEmptying, Moves, at_rest}
use Rattle.board_table.specs.Rule.{closed_bit, LaneNow, IsLane, Fits, Kept}
use Rattle.board_table.specs.Plays.{Finds, LooksAt, Makes, Frees, PutsBack}
use Rattle.board_table.proofs.Carried.{carried_many, carried_append, carried_split, at_append, at_drop, at_within}
use Rattle.board_table.proofs.Growth.{are_received}
use Rattle.board_table.proofs.Homes.{takes_all, gives_all, taken_out, put_in, Apart, Apart-append, takes_all-carried, takes_all-homes, gives_all-carried, gives_all-homes, gives_all-valid, taken_out-else, put_in-else, taken_out-length, put_in-length, put_in-append}
use Rattle.board_table.proofs.Keeping.{lane_now}
use Rattle.board_table.proofs.OutSlots.{emptying_slots, emptying_packets, emptying_vacant, emptying_many}
use Rattle.board_table.proofs.Places.{taken_within, taken_apart, put_taken, slot_beside}
use Rattle.board_table.proofs.Stepping.{Stepped, OnlyEmpties, rests_emptying, only_emptying, kept_by_receiver}
use Rattle.board_table.proofs.Windows.{Homes, apart_full, apart_vacant, behind_window, put_full, put_vacant, valid_full}

-- without the last receives, the history is what it was before them
pub drop_received : (p q c many : ℕ) (h : List Occurrence) → drop many (with_received p q c many h) ≡ h
drop_received p q c zero h = refl
drop_received p q c (suc many) h =
    let g = with_received p q c many (Receive p q c ∷ h) in
    ap (λ i. drop i g) (let same : suc many ≡ many + 1 = omega arith in same) ∙ sym (drop-drop 1 many g) ∙ ap (drop 1) (drop_received p q c many (Receive p q c ∷ h))

-- a seat with such slots is emptying
pub is_emptying : (l : LaneView) (e : Held) (many : ℕ) (xs : List Packet) → IsPost l.instances l.capacity l.receiver (e ∷ [], []) → e.hold ≡ Emptying l.sender (many + length xs)
    → let m : ℕ = received e.seen l.sender l.receiver in let gs : List Parcel = goods l.instances e.seen l.sender l.receiver in m + many + length xs ≡ length (sent e.seen l.sender l.receiver) → AreCarried (last_clock (zeros l.instances) (take (m + many) gs)) xs (drop (m + many) gs)
    → IsEmptying l (e ∷ [], emptying_slots l.instances l.capacity l.sender l.receiver m many xs)
is_emptying l e many xs post hold waiting carried =
    let n = l.instances in let k = l.capacity in let q = l.sender in let p = l.receiver in
    let m : ℕ = received e.seen q p in
    let gs = goods n e.seen q p in
    let packets = emptying_packets n k q p m many xs in
    let vacant = emptying_vacant n k q p m many xs in
    let same : ◌≡◌ {A = List Packet × ℕ} (xs, many) (packets_in (emptying_slots n k q p m many xs), vacant_in (emptying_slots n k q p m many xs)) = λ t. (sym packets t, sym vacant t) in
    record {
      post = record { alone = refl; instances = post.instances; capacity = post.capacity; number = post.number };
      hold = hold ∙ ap (λ i. Emptying q i) (sym (emptying_many n k q p m many xs));
      slots = ap (λ (z : List Packet × ℕ). emptying_slots n k q p m z.1 z.0) same;
      waiting = subst (λ (z : List Packet × ℕ). m + z.1 + length z.0 ≡ length (sent e.seen q p)) same waiting;
      carried = subst (λ (z : List Packet × ℕ). AreCarried (last_clock (zeros n) (take (m + z.1) gs)) z.0 (drop (m + z.1) gs)) same carried;
    }

module _ (n k q p : ℕ) (two : AreTwo n q p) (some_place : 0 < k) where
  -- one ring further is the same slot
  slot_turn : (d : ℕ) → slot_of n k q p (d + k) ≡ slot_of n k q p d
  slot_turn d = ap (λ (i : ℕ). ((q - 1) * n + (p - 1)) * k + i) (add-mod_right d k)

  -- the slots of other lanes are none of these
  apart_beside : (m many : ℕ) (xs : List Packet) (a b c : ℕ) → AreTwo n a b → is_lane q p a b ≡ false → Apart (slot_of n k a b c) (emptying_slots n k q p m many xs)
  apart_beside m many xs a b c these other =
      let away : (e : ℕ) → slot_of n k a b c ≢ slot_of n k q p e = λ e. slot_beside n k a b q p c e these two some_place (other_receiver q p a b other) in
      Apart-append (slot_of n k a b c) (full_slots n k q p (m + many) xs) (vacant_slots n k q p m many) (apart_full n k q p xs (m + many) (slot_of n k a b c) (λ e low high. away e)) (apart_vacant n k q p many m (slot_of n k a b c) (λ e low high. away e))

  -- what a receiver knows from the rule
  pub record Standing (s : State (Option Packet) (List Held)) (r : Kept n k s) (id : ℕ) (e : Held) (many : ℕ) : Type 0 where
    pub fits : Fits n k r.log r.seats id 0 e
    pub lane : IsLane (board_lane n k q p) r.log (lane_now (r.packets q p) (r.seats.filling q p) (r.seats.emptying q p)) s.words s.homes
    pub emptying : r.seats.emptying q p ≡ many
    pub made : own r.log p ≡ e.made
    pub own : own e.seen p ≡ e.made
    pub count : length (r.packets q p) ≡ length (sent r.log q p)

  pub standing : (s : State (Option Packet) (List Held)) (r : Kept n k s) (id : ℕ) (e : Held) (many : ℕ) → get_elem? s.views id ≡ some (e ∷ []) → e.number ≡ p → OnlyEmpties q many e.hold → Standing s r id e many
  standing s r id e many at number only =
      let fits = r.entries id 0 (e ∷ []) e at refl in
      let seated = fits.seated (subst (λ x. 1 ≤ x) (sym number) two.2) (subst (λ x. x ≤ n) (sym number) two.3) in
      let lane = r.lanes q p two in
      record {
        fits = fits;
        lane = lane;
        emptying = ap (r.seats.emptying q) (sym number) ∙ seated.empties q ∙ only.here;
        made = ap (own r.log) (sym number) ∙ fits.made;
        own = ap (own e.seen) (sym number) ∙ fits.own;
        count = carried_many (zeros n) (r.packets q p) (goods n r.log q p) lane.carried ∙ goods_many n r.log q p;
      }

  -- a lane's packets after the first ones carry the goods after those
  behind_first : (packets : List Packet) (gs : List Parcel) (m : ℕ) → m ≤ length gs → AreCarried (zeros n) packets gs → AreCarried (last_clock (zeros n) (take m gs)) (drop m packets) (drop m gs)
  behind_first packets gs m few are =
      let split = carried_split (zeros n) packets (take m gs) (drop m gs) (subst (λ ys. AreCarried (zeros n) packets ys) (sym (take-append-drop m gs)) are) in
      subst (λ i. AreCarried (last_clock (zeros n) (take m gs)) (drop i packets) (drop m gs)) (let long : length (take m gs) ≡ m = omega (arith, length-take m gs) in long) split.1

  pub looks_at : (slots id i : ℕ) (e : Held) → e.instances ≡ n → e.capacity ≡ k → e.number ≡ p → many_out e.hold ≡ 0 → i ≡ put_word n q p → Allows (Kept n k) slots id (e ∷ [], []) i (λ x. x) (λ x w. LooksAt (board_lane n k q p) (e ∷ [], []) x w)
  looks_at slots id i e instances capacity number none word s r size at bound =
      let only = rests_emptying e.hold q none in
      let st = standing s r id e 0 at number only in
      let log = r.log in
      let f : Held = record e { seen = log; looks = e.looks + 1 } in
      let now : LaneNow = lane_now (r.packets q p) (r.seats.filling q p) (r.seats.emptying q p) in
      let step : Stepped n k q p s r p id e f log now s.words s.homes = record {
        two = two;
        at = at;
        low = two.2;
        high = two.3;
        was = number;
        same = number;
        instances = refl;
        capacity = refl;
        wide = refl;
        long = refl;
        legal = r.legal;
        begins = begins_same log;
        others = λ b ne. refl;
        seen = begins_same log;
        seen_legal = r.legal;
        made = st.made;
        own = st.made;
        here = st.lane;
        there = λ a b these other. record { goods = refl; received = refl; closed = refl; put = refl; taken = refl; slots = λ c. refl };
      } in
      let kept = kept_by_receiver n k q p s r id e f log now s.words s.homes 0 0 step only only st.emptying refl in
      let stated : LooksAt (board_lane n k q p) (e ∷ [], []) (slice_index s.words i) (f ∷ [], []) = record {
        sees = record { same = record { instances = refl; capacity = refl; number = refl }; later = st.fits.seen; legal = r.legal; made = refl; own = st.fits.made };
        rests = record { post = record { alone = refl; instances = instances; capacity = capacity; number = number }; hold = none; slots = refl };
        found = ap (slice_index s.words) word ∙ st.lane.put_is ∙ ap (λ (many : ℕ). 2 * many + closed_bit (is_closed log q p)) st.count;
        looks = refl;
      } in (
        f ∷ [],
        keeps,
        tt,
        subst (λ (ws : List ℕ). Kept n k record { words = ws; homes = s.homes; views = set s.views id (f ∷ []) }) (sym (set-get_or s.words i 0)) kept,
        stated,
      )

  pub finds : (slots id i : ℕ) (e : Held) (looks : ℕ) (stated : ℕ → Mine → Type 0) → e.instances ≡ n → e.capacity ≡ k → e.number ≡ p → many_out e.hold ≡ 0
      → ((s : State (Option Packet) (List Held)) (r : Kept n k s) (w : Mine) → Finds (board_lane n k q p) (e ∷ [], []) w → (held w).seen ≡ r.log → (held w).looks ≡ looks → stated (slice_index s.words i) w)
      → Allows (Kept n k) slots id (e ∷ [], []) i (λ x. x) stated
  finds slots id i e looks stated instances capacity number none states s r size at bound =
      let st = standing s r id e 0 at number (rests_emptying e.hold q none) in
      let lane = st.lane in
      let log = r.log in
      let m : ℕ = received log q p in
      let packets = r.packets q p in
      let xs : List Packet = drop m packets in
      let many : length xs ≡ length packets - m = length-drop m packets in
      let enough : m ≤ length packets = omega (arith, lane.behind) in
      let few : length xs ≤ k = omega (arith, many, lane.room) in
      let out : List (ℕ × Option Packet) = full_slots n k q p m xs in
      let whole : out ≡ emptying_slots n k q p m 0 xs = ap (λ c. full_slots n k q p c xs) (let z : m ≡ m + 0 = omega arith in z) ∙ sym (append-nil (full_slots n k q p (m + 0) xs)) in
      let f : Held = record e { seen = log; looks = looks; hold = Emptying q (0 + length xs) } in
      let homes : Homes = taken_out s.homes out in
      let now : LaneNow = lane_now packets (r.seats.filling q p) (0 + length xs) in
      let step : Stepped n k q p s r p id e f log now s.words homes = record {
        two = two;
        at = at;
        low = two.2;
        high = two.3;
        was = number;
        same = number;
        instances = refl;
        capacity = refl;
        wide = refl;
        long = taken_out-length s.homes out;
        legal = r.legal;
        begins = begins_same log;
        others = λ b ne. refl;
        seen = begins_same log;
        seen_legal = r.legal;
        made = st.made;
        own = st.made;
        here = record {
          carried = lane.carried;
          put_is = lane.put_is;
          taken_is = lane.taken_is;
          behind = omega (arith, many, enough);
          room = lane.room;
          full = λ c x low there. let within = at_within packets c x there in absurd (omega (arith, low, within, many, enough));
          empty = λ c low high. taken_out-else s.homes out (slot_of n k q p c) (apart_full n k q p xs m (slot_of n k q p c) (behind_window n k q p two some_place m c (length xs) (omega (arith, low, many, enough)) high)) ∙ lane.empty c low high;
        };
        there = λ a b these other. record {
          goods = refl;
          received = refl;
          closed = refl;
          put = refl;
          taken = refl;
          slots = λ c. taken_out-else s.homes out (slot_of n k a b c) (apart_full n k q p xs m (slot_of n k a b c) (λ d low high. slot_beside n k a b q p c d these two some_place (other_receiver q p a b other)));
        };
      } in
      let kept = kept_by_receiver n k q p s r id e f log now s.words homes 0 (0 + length xs) step (rests_emptying e.hold q none) (only_emptying q (0 + length xs)) refl refl in
      let same : ◌≡◌ {A = List ℕ × Homes} (s.words, homes) (set s.words i (get_or s.words i 0), homes_after s.homes [] (takes_all out)) = λ t. (sym (set-get_or s.words i 0) t, sym (takes_all-homes s.homes [] out) t) in
      let seat : Mine = (f ∷ [], emptying_slots n k q p m 0 xs) in
      let gs = goods n log q p in
      let all : m + 0 + length xs ≡ length (sent log q p) = omega (arith, many, enough, st.count) in
      let carries : AreCarried (last_clock (zeros n) (take (m + 0) gs)) xs (drop (m + 0) gs) = subst (λ i. AreCarried (last_clock (zeros n) (take i gs)) xs (drop i gs)) (let z : m ≡ m + 0 = omega arith in z) (behind_first packets gs m (omega (arith, enough, goods_many n log q p, st.count)) lane.carried) in
      let stated_finds : Finds (board_lane n k q p) (e ∷ [], []) seat = record {
        sees = record { same = record { instances = refl; capacity = refl; number = refl }; later = st.fits.seen; legal = r.legal; made = refl; own = st.fits.made };
        emptying = is_emptying (board_lane n k q p) f 0 xs (record { alone = refl; instances = instances; capacity = capacity; number = number }) refl all carries;
        nothing_emptied = emptying_vacant n k q p m 0 xs;
        all_waiting = ap (λ (ys : List Packet). m + length ys) (emptying_packets n k q p m 0 xs) ∙ omega (arith, all);
      } in (
        f ∷ [],
        takes_all out,
        valid_full n k q p two some_place xs s.homes m few (λ j d x same is. lane.full d x (omega (arith, st.emptying, same)) (ap (get_elem? packets) same ∙ sym (at_drop m packets j) ∙ is)),
        subst (λ z. Kept n k record { words = z.0; homes = z.1; views = set s.views id (f ∷ []) }) same kept,
        subst (λ z. stated (slice_index s.words i) (f ∷ [], z)) (sym whole ∙ sym (takes_all-carried out)) (states s r seat stated_finds refl refl),
      )

  -- the packets of the lane, with these after the first ones
  abbrev replaced : List Packet → List Parcel → List Parcel → List Packet → List Packet
  replaced packets first waiting xs = take (length first) packets ++ (xs ++ drop (length waiting) (drop (length first) packets))

  -- the lane after its receiver has given back its slots, some of which it has emptied
  record Given (s : State (Option Packet) (List Held)) (r : Kept n k s) (seen g : List Occurrence) (m j : ℕ) (xs : List Packet) (words : List ℕ) : Type 0 where
    pub lane : IsLane (board_lane n k q p) r.log (lane_now (r.packets q p) (r.seats.filling q p) (r.seats.emptying q p)) s.words s.homes
    pub emptying : r.seats.emptying q p ≡ j + length xs
    pub before : received r.log q p ≡ m
    pub waiting : m + j + length xs ≡ length (goods n seen q p)
    pub begins : (more : List Parcel) × (goods n r.log q p ≡ goods n seen q p ++ more)
    pub carried : AreCarried (last_clock (zeros n) (take (m + j) (goods n seen q p))) xs (drop (m + j) (goods n seen q p))
    pub same_goods : goods n g q p ≡ goods n r.log q p
    pub heard : received g q p ≡ m + j
    pub closed : is_closed g q p ≡ is_closed r.log q p
    pub put_is : slice_index words (put_word n q p) ≡ slice_index s.words (put_word n q p)
    pub taken_is : slice_index words (taken_word n q p) ≡ m + j

  given_lane : (s : State (Option Packet) (List Held)) (r : Kept n k s) (seen g : List Occurrence) (m j : ℕ) (xs : List Packet) (words : List ℕ) → Given s r seen g m j xs words
      → let gs : List Parcel = goods n seen q p in IsLane (board_lane n k q p) g (lane_now (replaced (r.packets q p) (take (m + j) gs) (drop (m + j) gs) xs) (r.seats.filling q p) 0) words (put_in s.homes (emptying_slots n k q p m j xs))
  given_lane s r seen g m j xs words given =
      let lane = given.lane in
      let log = r.log in
      let packets = r.packets q p in
      let gs = goods n seen q p in
      let first = take (m + j) gs in
      let rest = drop (m + j) gs in
      let more = given.begins.0 in
      let long_first : length first ≡ m + j = omega (arith, length-take (m + j) gs, given.waiting) in
      let long_rest : length xs ≡ length rest = carried_many (last_clock (zeros n) first) xs rest given.carried in
      let whole : goods n log q p ≡ first ++ (rest ++ more) = given.begins.1 ∙ ap (λ ys. ys ++ more) (sym (take-append-drop (m + j) gs)) ∙ append_assoc first rest more in
      let one = carried_split (zeros n) packets first (rest ++ more) (subst (λ ys. AreCarried (zeros n) packets ys) whole lane.carried) in
      let two' = carried_split (last_clock (zeros n) first) (drop (length first) packets) rest more one.1 in
      let new = replaced packets first rest xs in
      let carries : AreCarried (zeros n) new (first ++ (rest ++ more)) = carried_append (zeros n) (take (length first) packets) first (xs ++ drop (length rest) (drop (length first) packets)) (rest ++ more) one.0
      (carried_append (last_clock (zeros n) first) xs rest (drop (length rest) (drop (length first) packets)) more given.carried two'.1) in
      let on_log : AreCarried (zeros n) new (goods n log q p) = subst (λ ys. AreCarried (zeros n) new ys) (sym whole) carries in
      let many : length new ≡ length packets = carried_many (zeros n) new (goods n log q p) on_log ∙ sym (carried_many (zeros n) packets (goods n log q p) lane.carried) in
      let front_many : length (take (length first) packets) ≡ m + j = carried_many (zeros n) (take (length first) packets) first one.0 ∙ long_first in
      let enough : m + (j + length xs) ≤ length packets = omega (arith, lane.behind, given.emptying, given.before) in
      let fit : length packets ≤ m + k = omega (arith, lane.room, given.before) in
      let filled : List (ℕ × Option Packet) = full_slots n k q p (m + j) xs in
      let empties : List (ℕ × Option Packet) = vacant_slots n k q p m j in
      let put_first : Homes = put_in s.homes filled in
      let sized : length put_first ≡ slot_count n k = put_in-length s.homes filled ∙ r.slots_are in
      let away : (d : ℕ) → m + j + length xs ≤ d → d < m + k → get_elem? (put_in s.homes (filled ++ empties)) (slot_of n k q p d) ≡ get_elem? s.homes (slot_of n k q p d) =
      λ d low high. put_in-else s.homes (filled ++ empties) (slot_of n k q p d) (Apart-append (slot_of n k q p d) filled empties
      (apart_full n k q p xs (m + j) (slot_of n k q p d) (behind_window n k q p two some_place (m + j) d (length xs) low (omega (arith, high))))
      (apart_vacant n k q p j m (slot_of n k q p d) (behind_window n k q p two some_place m d j (omega (arith, low)) high))) in
      record {
        carried = subst (λ ys. AreCarried (zeros n) new ys) (sym given.same_goods) on_log;
        put_is = given.put_is ∙ lane.put_is ∙ ap₂ (λ (i : ℕ) b. 2 * i + closed_bit b) (sym many) (sym given.closed);
        taken_is = given.taken_is ∙ sym given.heard;
        behind = omega (arith, given.heard, many, enough);
        room = omega (arith, given.heard, many, lane.room, given.before);
        full = λ c x low at. ⊎_elim
            (λ front. absurd (omega (arith, front.0, front_many, low, given.heard)))
            (λ back. ⊎_elim
            (λ mine. let same : c ≡ m + j + back.0 = omega (arith, back.1, front_many) in
            ap (λ hs. get_elem? hs (slot_of n k q p c)) (put_in-append s.homes filled empties)
            ∙ put_in-else put_first empties (slot_of n k q p c) (apart_vacant n k q p j m (slot_of n k q p c) (behind_window n k q p two some_place m c j (omega (arith, same)) (omega (arith, same, mine.0, enough, fit))))
            ∙ put_full n k q p two some_place xs s.homes (m + j) back.0 c x r.slots_are (omega (arith, enough, fit)) same mine.1)
            (λ later. let same : c ≡ length first + (length rest + later.0) = omega (arith, back.1, front_many, later.1, long_first, long_rest) in
            let there : get_elem? packets c ≡ some x = ap (get_elem? packets) same ∙ sym (at_drop (length first) packets (length rest + later.0)) ∙ sym (at_drop (length rest) (drop (length first) packets) later.0) ∙ later.2 in
            away c (omega (arith, same, long_first, long_rest)) (omega (arith, at_within packets c x there, fit)) ∙ lane.full c x (omega (arith, same, long_first, long_rest, given.before, given.emptying)) there)
            (at_append xs (drop (length rest) (drop (length first) packets)) back.0 x back.2))
            (at_append (take (length first) packets) (xs ++ drop (length rest) (drop (length first) packets)) c x at);
        empty = λ c low high. elim (dec_le (m + k) c) [
          | yes behind ↦
              (let d : ℕ = c - k in
              let same : c ≡ d + k = omega (arith, behind) in
              ap (get_elem? (put_in s.homes (filled ++ empties))) (ap (slot_of n k q p) same ∙ slot_turn d)
              ∙ ap (λ hs. get_elem? hs (slot_of n k q p d)) (put_in-append s.homes filled empties)
              ∙ put_vacant n k q p two some_place j put_first m d sized (omega (arith, enough, fit)) (omega (arith, behind, same)) (omega (arith, high, given.heard, same)))
          | no before ↦ (let less : c < m + k = lt_of_not-le before in away c (omega (arith, low, many, enough)) less ∙ lane.empty c (omega (arith, low, many)) (omega (arith, less, given.before)))
        ];
      }

  -- a seat whose slots were given back
  pub settled : (f : Held) (xs : List (ℕ × Option Packet)) → ◌≡◌ {A = Mine} (f ∷ [], []) (f ∷ [], carried_after xs (gives_all xs))
  settled f xs = λ t. (f ∷ [], sym (gives_all-carried xs) t)

  pub frees : (slots id count region : ℕ) (e : Held) (j : ℕ) (xs : List Packet) → e.instances ≡ n → e.capacity ≡ k → e.number ≡ p → e.hold ≡ Emptying q (j + length xs) → count ≡ received e.seen q p + j → length (chart_of e.seen p) + j ≤ MAX_EVENTS → MayHaveRegion (chart_of e.seen p) region
      → received e.seen q p + j + length xs ≡ length (sent e.seen q p) → AreCarried (last_clock (zeros n) (take (received e.seen q p + j) (goods n e.seen q p))) xs (drop (received e.seen q p + j) (goods n e.seen q p))
      → let me : Mine = (e ∷ [], emptying_slots n k q p (received e.seen q p) j xs) in Allows (Kept n k) slots id me (taken_word n q p) (λ x. count) (λ x w. Frees (board_lane n k q p) region me w)
  frees slots id count region e j xs instances capacity number hold counted short may waiting carried s r size at bound =
      let only : OnlyEmpties q (j + length xs) e.hold = subst (λ h. OnlyEmpties q (j + length xs) h) (sym hold) (only_emptying q (j + length xs)) in
      let st = standing s r id e (j + length xs) at number only in
      let lane = st.lane in
      let log = r.log in
      let m : ℕ = received e.seen q p in
      let same_own : own log p ≡ own e.seen p = st.made ∙ sym st.own in
      let heard : received log q p ≡ m = same_received e.seen log q p same_own in
      let line : chart_of log p ≡ chart_of e.seen p = same_line n e.seen log st.fits.seen p same_own in
      let gs = goods n e.seen q p in
      let done = are_received n k q p region j log two r.legal (subst (λ l. MayHaveRegion l region) (sym line) may) (omega (arith, lane.behind, st.emptying, st.count)) (omega (arith, short, ap length line)) in
      let g = with_received p q region j log in
      let f : Held = record e { seen = g; made = with_received p q region j e.made; hold = Nothing } in
      let out = emptying_slots n k q p m j xs in
      let words : List ℕ = set s.words (taken_word n q p) count in
      let within = taken_within n q p two in
      let homes : Homes = put_in s.homes out in
      let now : LaneNow = lane_now (replaced (r.packets q p) (take (m + j) gs) (drop (m + j) gs) xs) (r.seats.filling q p) 0 in
      let made : own g p ≡ with_received p q region j e.made = done.made ∙ ap (with_received p q region j) st.made in
      let step : Stepped n k q p s r p id e f g now words homes = record {
        two = two;
        at = at;
        low = two.2;
        high = two.3;
        was = number;
        same = number;
        instances = refl;
        capacity = refl;
        wide = length-set s.words (taken_word n q p) count;
        long = put_in-length s.homes out;
        legal = done.legal;
        begins = done.begins;
        others = done.others;
        seen = begins_same g;
        seen_legal = done.legal;
        made = made;
        own = made;
        here = given_lane s r e.seen g m j xs words (record {
          lane = lane;
          emptying = st.emptying;
          before = heard;
          waiting = waiting ∙ sym (goods_many n e.seen q p);
          begins = goods_grow n e.seen log st.fits.seen q p;
          carried = carried;
          same_goods = done.goods q p;
          heard = done.here ∙ ap (λ (i : ℕ). i + j) heard;
          closed = done.closed q p;
          put_is = get_or-set_other s.words (taken_word n q p) (put_word n q p) count 0 (λ same. put_taken n q p q p two two same);
          taken_is = get_or-set_same s.words (taken_word n q p) count 0 (omega (arith, within, r.words_are)) ∙ counted;
        });
        there = λ a b these other. record {
          goods = done.goods a b;
          received = done.there a b other;
          closed = done.closed a b;
          put = get_or-set_other s.words (taken_word n q p) (put_word n a b) count 0 (λ same. put_taken n a b q p these two same);
          taken = get_or-set_other s.words (taken_word n q p) (taken_word n a b) count 0 (λ same. let apart = taken_apart n a b q p these two same in other_receiver q p a b other apart.0 apart.1);
          slots = λ c. put_in-else s.homes out (slot_of n k a b c) (apart_beside m j xs a b c these other);
        };
      } in
      let kept = kept_by_receiver n k q p s r id e f g now words homes (j + length xs) 0 step only (rests_emptying Nothing q refl) refl refl in
      let same : ◌≡◌ {A = Homes} homes (homes_after s.homes out (gives_all out)) = sym (gives_all-homes s.homes out) in
      let makes : Makes (board_lane n k q p) p j (with_received p q region j) (e ∷ [], out) (f ∷ [], []) = record {
        rests = record { post = record { alone = refl; instances = instances; capacity = capacity; number = number }; hold = refl; slots = refl };
        moves = subst (λ h. Moves n k e f h (with_received p q region j)) (sym (drop_received p q region j log)) (record {
          same = record { instances = refl; capacity = refl; number = refl };
          later = st.fits.seen;
          legal_before = r.legal;
          own_before = st.fits.made;
          seen = refl;
          legal = done.legal;
          made = refl;
          own = ap (own g) number ∙ made;
          looks = refl;
        });
      } in (
        f ∷ [],
        gives_all out,
        gives_all-valid s.homes out,
        subst (λ hs. Kept n k record { words = words; homes = hs; views = set s.views id (f ∷ []) }) same kept,
        subst (λ w. Frees (board_lane n k q p) region (e ∷ [], out) w) (settled f out) (subst (λ i. Makes (board_lane n k q p) p i (with_received p q region i) (e ∷ [], out) (f ∷ [], [])) (sym (emptying_vacant n k q p m j xs)) makes),
      )

  pub puts_back : (slots id i : ℕ) (e : Held) (xs : List Packet) → e.number ≡ p → e.hold ≡ Emptying q (0 + length xs)
      → received e.seen q p + 0 + length xs ≡ length (sent e.seen q p) → AreCarried (last_clock (zeros n) (take (received e.seen q p + 0) (goods n e.seen q p))) xs (drop (received e.seen q p + 0) (goods n e.seen q p))
      → let me : Mine = (e ∷ [], emptying_slots n k q p (received e.seen q p) 0 xs) in Allows (Kept n k) slots id me i (λ x. x) (λ x w. PutsBack me w)
  puts_back slots id i e xs number hold waiting carried s r size at bound =
      let only : OnlyEmpties q (0 + length xs) e.hold = subst (λ h. OnlyEmpties q (0 + length xs) h) (sym hold) (only_emptying q (0 + length xs)) in
      let st = standing s r id e (0 + length xs) at number only in
      let lane = st.lane in
      let log = r.log in
      let m : ℕ = received e.seen q p in
      let heard : received log q p ≡ m = same_received e.seen log q p (st.made ∙ sym st.own) in
      let still : received log q p ≡ m + 0 = omega (arith, heard) in
      let gs = goods n e.seen q p in
      let f : Held = at_rest e in
      let out = emptying_slots n k q p m 0 xs in
      let homes : Homes = put_in s.homes out in
      let now : LaneNow = lane_now (replaced (r.packets q p) (take (m + 0) gs) (drop (m + 0) gs) xs) (r.seats.filling q p) 0 in
      let step : Stepped n k q p s r p id e f log now s.words homes = record {
        two = two;
        at = at;
        low = two.2;
        high = two.3;
        was = number;
        same = number;
        instances = refl;
        capacity = refl;
        wide = refl;
        long = put_in-length s.homes out;
        legal = r.legal;
        begins = begins_same log;
        others = λ b ne. refl;
        seen = st.fits.seen;
        seen_legal = st.fits.legal;
        made = st.made;
        own = st.own;
        here = given_lane s r e.seen log m 0 xs s.words (record {
          lane = lane;
          emptying = st.emptying;
          before = heard;
          waiting = waiting ∙ sym (goods_many n e.seen q p);
          begins = goods_grow n e.seen log st.fits.seen q p;
          carried = carried;
          same_goods = refl;
          heard = still;
          closed = refl;
          put_is = refl;
          taken_is = lane.taken_is ∙ still;
        });
        there = λ a b these other. record { goods = refl; received = refl; closed = refl; put = refl; taken = refl; slots = λ c. put_in-else s.homes out (slot_of n k a b c) (apart_beside m 0 xs a b c these other) };
      } in
      let kept = kept_by_receiver n k q p s r id e f log now s.words homes (0 + length xs) 0 step only (rests_emptying Nothing q refl) refl refl in
      let same : ◌≡◌ {A = List ℕ × Homes} (s.words, homes) (set s.words i (get_or s.words i 0), homes_after s.homes out (gives_all out)) = λ t. (sym (set-get_or s.words i 0) t, sym (gives_all-homes s.homes out) t) in (
        f ∷ [],
        gives_all out,
        gives_all-valid s.homes out,
        subst (λ z. Kept n k record { words = z.0; homes = z.1; views = set s.views id (f ∷ []) }) same kept,
        sym (settled f out),
      )
