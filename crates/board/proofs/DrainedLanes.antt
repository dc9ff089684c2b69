-- The messages of all lanes, drawn one lane after another from the slots that left with each post.
use Rattle.std.proofs.Common.{◌≡◌, ◌≢◌, ℕ, zero, suc, ◌+◌, ◌<◌, ◌≤◌, ◌⊎◌, inl, inr, ⊎_elim, Bool, true, false, cond, ◌==◌, List, [], ◌∷◌, ◌++◌, length, map, get_or, set, refl, sym, ap, ◌∙◌, subst, arith, append_assoc}
use Rattle.std.specs.Prelude.{filter, slice_get, Some, All}
use Rattle.std.specs.List.{range_with_len, flat_map}
use Rattle.std.proofs.lemmas.Bool.{eq-eqb, ne_eqb}
use Rattle.std.proofs.lemmas.Bool.Decides.{leb_tells}
use Rattle.std.proofs.lemmas.List.{length-map, length-set, map-append}
use Rattle.std.proofs.lemmas.List.Elements.{filter-append}
use Rattle.std.proofs.lemmas.Option.{slice_get-get_or}
use native.Mathlib.Decide.{ℕ_discrete as dec_eq}
use Rattle.atomic_table.specs.Seated.{TableId}
use Rattle.chart.specs.declared.history.Occurrence.{Occurrence}
use Rattle.chart.specs.Histories.{received, waiting}
use Rattle.board_table.specs.declared.packet.Packet.{Packet}
use Rattle.board_table.specs.Carrying.{full_slots}
use Rattle.board_table.specs.Leaving.{ComeFirst, HaveLeft}
use Rattle.board.specs.declared.gathering.Left.{Left}
use Rattle.board.specs.declared.parting.Leaver.{Leaver}
use Rattle.board.specs.declared.parting.Room.{Room}
use Rattle.board.specs.Gathering.{LaneEnds, lane_to, lanes_of, is_waiting, left_view, left_on}
use Rattle.board.specs.Parting.{Slots, messages_in, room_lane, IsLaneRoom, senders_to, AreNext, AreReady}
use Rattle.board.proofs.PostLemmas.{at_set}

senders_here : (p : ℕ) (lane : LaneEnds) (lanes : List LaneEnds) → lane.receiver ≡ p → senders_to p (lane ∷ lanes) ≡ lane.sender ∷ senders_to p lanes
senders_here p lane lanes same = ap (λ b. map (λ (x : LaneEnds). x.sender) (cond b (lane ∷ filter (λ (x : LaneEnds). x.receiver == p) lanes) (filter (λ (x : LaneEnds). x.receiver == p) lanes))) (eq-eqb lane.receiver p same)

senders_there : (p : ℕ) (lane : LaneEnds) (lanes : List LaneEnds) → lane.receiver ≢ p → senders_to p (lane ∷ lanes) ≡ senders_to p lanes
senders_there p lane lanes ne = ap (λ b. map (λ (x : LaneEnds). x.sender) (cond b (lane ∷ filter (λ (x : LaneEnds). x.receiver == p) lanes) (filter (λ (x : LaneEnds). x.receiver == p) lanes))) (ne_eqb lane.receiver p ne)

senders_append : (p : ℕ) (lanes more : List LaneEnds) → senders_to p (lanes ++ more) ≡ senders_to p lanes ++ senders_to p more
senders_append p lanes more =
    ap (map (λ (x : LaneEnds). x.sender)) (filter-append (λ (x : LaneEnds). x.receiver == p) lanes more)
    ∙ map-append (λ (x : LaneEnds). x.sender) (filter (λ (x : LaneEnds). x.receiver == p) lanes) (filter (λ (x : LaneEnds). x.receiver == p) more)

-- more slots at the end change nothing
next_more : (n k p : ℕ) (h : List Occurrence) (qs : List ℕ) (slots more : Slots) → AreNext n k p h qs slots → AreNext n k p h qs (slots ++ more)
next_more n k p h [] slots more next = tt
next_more n k p h (q ∷ qs) slots more (packets, others, come, stated, later) =
    (packets, others ++ more, record { are = ap (λ zs. zs ++ more) come.are ∙ append_assoc (full_slots n k q p (received h q p) packets) others more }, stated, next_more n k p h qs others more later)

-- At first all that left is ready.

-- none of a sender's lanes leads to p, or exactly one does
module _ (h : List Occurrence) (q p : ℕ) where
  abbrev block : ℕ → ℕ → List LaneEnds
  block a many = filter (is_waiting h) (map (lane_to q) (range_with_len a many))

  past_one : (a : ℕ) (lanes : List LaneEnds) → a ≢ p → (b : Bool) → senders_to p (cond b (lane_to q a ∷ lanes) lanes) ≡ senders_to p lanes
  past_one a lanes ne true = senders_there p (lane_to q a) lanes ne
  past_one a lanes ne false = refl

  block_out : (a many : ℕ) → (p < a) ⊎ (a + many ≤ p) → senders_to p (block a many) ≡ []
  block_out a zero out = refl
  block_out a (suc many) out =
      let ne : a ≢ p = λ same. ⊎_elim (λ low. absurd (omega (arith, same, low))) (λ high. absurd (omega (arith, same, high))) out in
      past_one a (block (a + 1) many) ne (is_waiting h (lane_to q a))
      ∙ block_out (a + 1) many (⊎_elim (λ low. inl (omega (arith, low))) (λ high. inr (omega (arith, high))) out)

  block_in : (a many : ℕ) → a ≤ p → p < a + many → senders_to p (block a many) ≡ cond (is_waiting h (lane_to q p)) (q ∷ []) []
  block_in a zero low high = absurd (omega arith)
  block_in a (suc many) low high = go (dec_eq a p) (λ more near. block_in (a + 1) many more near)
    where
      here : (b : Bool) → senders_to p (block (p + 1) many) ≡ [] → senders_to p (cond b (lane_to q p ∷ block (p + 1) many) (block (p + 1) many)) ≡ cond b (q ∷ []) []
      here true none = senders_here p (lane_to q p) (block (p + 1) many) refl ∙ ap (λ qs. q ∷ qs) none
      here false none = none

      go : Dec (a ≡ p) → (a + 1 ≤ p → p < a + 1 + many → senders_to p (block (a + 1) many) ≡ cond (is_waiting h (lane_to q p)) (q ∷ []) []) → senders_to p (block a (suc many)) ≡ cond (is_waiting h (lane_to q p)) (q ∷ []) []
      go (yes same) later = subst (λ (i : ℕ). senders_to p (block i (suc many)) ≡ cond (is_waiting h (lane_to q p)) (q ∷ []) []) (sym same) (here (is_waiting h (lane_to q p)) (block_out (p + 1) many (inl (omega arith))))
      go (no ne) later = past_one a (block (a + 1) many) ne (is_waiting h (lane_to q a)) ∙ later (omega (arith, low, ne)) (omega (arith, high))

nothing_waits : (h : List Occurrence) (q p : ℕ) → is_waiting h (lane_to q p) ≡ false → length (waiting h q p) ≡ 0
nothing_waits h q p none = ⊎_elim (λ its. absurd (true_false (sym its.0 ∙ none))) (λ its. omega (arith, its.1)) (leb_tells 1 (length (waiting h q p)))
  where
    true_false : true ≡ false → ⊥
    true_false never = cc

no_packets : (packets : List Packet) → length (messages_in packets) ≡ 0 → packets ≡ []
no_packets [] none = refl
no_packets (x ∷ packets) none = absurd (omega (arith, none))

pub next_first : (n k p : ℕ) (h : List Occurrence) → 1 ≤ p → p ≤ n → (q many : ℕ) (slots : Slots) → HaveLeft n k p h q many slots → AreNext n k p h (senders_to p (filter (is_waiting h) (flat_map (lanes_of n) (range_with_len q many)))) slots
next_first n k p h low high q zero slots left = tt
next_first n k p h low high q (suc many) slots (packets, others, come, stated, later) =
    let same : suc q ≡ q + 1 = omega arith in
    subst (λ qs. AreNext n k p h qs slots) (sym cut) (go (is_waiting h (lane_to q p)) refl (next_first n k p h low high (q + 1) many others (subst (λ (i : ℕ). HaveLeft n k p h i many others) same later)))
  where
    cut : senders_to p (filter (is_waiting h) (flat_map (lanes_of n) (range_with_len q (suc many)))) ≡ cond (is_waiting h (lane_to q p)) (q ∷ []) [] ++ senders_to p (filter (is_waiting h) (flat_map (lanes_of n) (range_with_len (q + 1) many)))
    cut = ap (senders_to p) (filter-append (is_waiting h) (lanes_of n q) (flat_map (lanes_of n) (range_with_len (q + 1) many)))
        ∙ senders_append p (filter (is_waiting h) (lanes_of n q)) (filter (is_waiting h) (flat_map (lanes_of n) (range_with_len (q + 1) many)))
        ∙ ap (λ qs. qs ++ senders_to p (filter (is_waiting h) (flat_map (lanes_of n) (range_with_len (q + 1) many)))) (block_in h q p 1 n low (omega (arith, high)))

    go : (b : Bool) → is_waiting h (lane_to q p) ≡ b → AreNext n k p h (senders_to p (filter (is_waiting h) (flat_map (lanes_of n) (range_with_len (q + 1) many)))) others
        → AreNext n k p h (cond b (q ∷ []) [] ++ senders_to p (filter (is_waiting h) (flat_map (lanes_of n) (range_with_len (q + 1) many)))) slots
    go true some onward = (packets, others, come, stated, onward)
    go false none onward =
        let empty = no_packets packets (ap length stated ∙ nothing_waits h q p none) in
        subst (λ zs. AreNext n k p h (senders_to p (filter (is_waiting h) (flat_map (lanes_of n) (range_with_len (q + 1) many)))) zs) (sym (come.are ∙ ap (λ xs. full_slots n k q p (received h q p) xs ++ others) empty)) onward

-- Then lane by lane.
module _ (n k : ℕ) (table : TableId) (h : List Occurrence) (room : Room) (lanes : List LaneEnds) (leavers : List Leaver) (ready : AreReady n k table h (room_lane room ∷ lanes) leavers) (its : IsLaneRoom h n k room) (j : ℕ) (place : room.receiver ≡ suc j) (leaver : Leaver) (at : slice_get leavers j ≡ Some leaver) where
  -- what is drawn next
  pub record IsFirst : Type 0 where
    pub packets : List Packet
    pub others : Slots
    pub come : ComeFirst room.lane room.taken packets leaver.seat.me.1 others
    pub many : length packets ≡ room.many
    pub stated : messages_in packets ≡ waiting h room.sender room.receiver
    pub later : AreNext n k (suc j) h (senders_to (suc j) lanes) others

  pub is_first : IsFirst
  is_first = go (subst (λ qs. AreNext n k (suc j) h qs leaver.seat.me.1) (senders_here (suc j) (room_lane room) lanes place) (ready.next j leaver at))
    where
      go : AreNext n k (suc j) h (room.sender ∷ senders_to (suc j) lanes) leaver.seat.me.1 → IsFirst
      go (packets, others, come, stated, later) =
          let messages = subst (λ (p : ℕ). messages_in packets ≡ waiting h room.sender p) (sym place) stated in
          record {
            packets = packets;
            others = others;
            come = record {
              are = come.are ∙ ap (λ (c : ℕ). full_slots n k room.sender (suc j) c packets ++ others) (sym (its.taken ∙ ap (received h room.sender) place))
                  ∙ ap (λ (p : ℕ). full_slots n k room.sender p room.taken packets ++ others) (sym place)
                  ∙ ap (λ l. full_slots l.instances l.capacity l.sender l.receiver room.taken packets ++ others) (sym its.lane);
            };
            many = sym (length-map packets (λ (x : Packet). x.message)) ∙ ap length messages ∙ sym its.many;
            stated = messages;
            later = later;
          }

  pub ready_next : (after : Leaver) → after.seat.table_id ≡ leaver.seat.table_id → (more : Slots) → after.seat.me.1 ≡ is_first.others ++ more → AreReady n k table h lanes (set leavers j after)
  ready_next after seated more slots = record {
    as_many = length-set leavers j after ∙ ready.as_many;
    seated = λ i one there. ⊎_elim (λ here. subst (λ (x : Leaver). x.seat.table_id ≡ table) here.1 (seated ∙ ready.seated j leaver at)) (λ other. ready.seated i one other.1) (at_set leavers j i after one there);
    next = λ i one there. ⊎_elim
        (λ here. subst (λ (x : Leaver). AreNext n k (suc i) h (senders_to (suc i) lanes) x.seat.me.1) here.1
        (subst (λ (x : ℕ). AreNext n k (suc x) h (senders_to (suc x) lanes) after.seat.me.1) (sym here.0)
        (subst (λ zs. AreNext n k (suc j) h (senders_to (suc j) lanes) zs) (sym slots) (next_more n k (suc j) h (senders_to (suc j) lanes) is_first.others more is_first.later))))
        (λ other. subst (λ qs. AreNext n k (suc i) h qs one.seat.me.1) (senders_there (suc i) (room_lane room) lanes (λ same. other.0 (let one_place : i ≡ j = omega (arith, same, place) in one_place))) (ready.next i one other.1))
        (at_set leavers j i after one there);
  }

-- the first of these rooms, before all its messages are drawn
pub record IsNow (n k : ℕ) (table : TableId) (h : List Occurrence) (room : Room) (rooms : List Room) (leavers : List Leaver) (j : ℕ) (leaver : Leaver) : Type 0 where
  pub ready : AreReady n k table h (room_lane room ∷ map room_lane rooms) leavers
  pub its : IsLaneRoom h n k room
  pub others : All (IsLaneRoom h n k) rooms
  pub at : slice_get leavers j ≡ Some leaver

pub now_of : (n k : ℕ) (table : TableId) (h : List Occurrence) (items : List Room) (room : Room) (rooms : List Room) (leavers : List Leaver) (j : ℕ) (d : Leaver) → AreReady n k table h (map room_lane items) leavers → All (IsLaneRoom h n k) items → items ≡ room ∷ rooms → room.receiver ≡ suc j → IsNow n k table h room rooms leavers j (get_or leavers j d)
now_of n k table h items room rooms leavers j d ready all steps place =
    let these = subst (λ (rs : List Room). All (IsLaneRoom h n k) rs) steps all in
    let first : IsLaneRoom h n k room = these 0 room (omega arith) in
    record {
      ready = subst (λ (rs : List Room). AreReady n k table h (map room_lane rs) leavers) steps ready;
      its = first;
      others = λ i x lt. these (suc i) x (omega (arith, lt));
      at = slice_get-get_or leavers j d (omega (arith, ready.as_many, first.two.3, place));
    }

-- what was drawn is what is left on the lane
pub left_is : (h : List Occurrence) (room : Room) (left : Left) → left.sender ≡ room.sender → left.receiver ≡ room.receiver → left.messages.items ≡ waiting h room.sender room.receiver → left_view left ≡ left_on h (room_lane room)
left_is h room left from to stated t = record { lane = lane_to (from t) (to t); messages = stated t }
