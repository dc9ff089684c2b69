-- The steps of a lane's sender keep the rule, and guarantee what they state.
use Rattle.std.proofs.Common.{◌≡◌, ◌≢◌, ℕ, suc, ◌+◌, ◌-◌, ◌*◌, ◌<◌, ◌≤◌, ⊎_elim, false, List, [], ◌∷◌, ◌++◌, length, drop, get_or, set, refl, sym, ap, ◌∙◌, subst, lt_of_not-le, arith, append-nil, length-append}
use Rattle.std.specs.Prelude.{slice_index, Option}
use Rattle.std.proofs.lemmas.List.{set-get_or, get_or-set_same, get_or-set_other, length-set, drop-drop}
use mathlib.Core.Option.{some}
use native.Mathlib.Decide.{dec_le}
use lib.ListN.{get_elem?}
use Rattle.atomic_table.specs.Table.{State, Allows, homes_after, carried_after, keeps}
use Rattle.chart.specs.declared.history.Occurrence.{Occurrence}
use Rattle.chart.specs.declared.history.Occurrence.TheVariants.{Send, Close}
use Rattle.chart.specs.declared.line.TheConstants.{MAX_EVENTS}
use Rattle.chart.specs.Histories.{own, is_lane, sent, received, is_closed, chart_of, AreTwo, IsLegal}
use Rattle.chart.proofs.Histories.{same_sent, same_closed, begins_same, is_closed-close, is_closed-close_other}
use Rattle.line_recorder.specs.Carried.{knowledge_of}
use Rattle.board_core.specs.Parcels.{Parcel, goods}
use Rattle.board_core.specs.Differences.{zeros}
use Rattle.board_core.proofs.GoodsLemmas.{goods_many}
use Rattle.board_core.proofs.OwnEvents.{same_goods, same_line, same_knowledge}
use Rattle.board_core.proofs.Standing.{other_receiver}
use Rattle.board_table.specs.declared.packet.Packet.{Packet}
use Rattle.board_table.specs.declared.held.Hold.TheVariants.{Nothing, Filling}
use Rattle.board_table.specs.declared.held.Held.{Held}
use Rattle.board_table.specs.Layout.{board_lane, put_word, taken_word, slot_of, slot_count}
use Rattle.board_table.specs.Carrying.{AreCarried, AreNext, last_clock, sent_base, with_sent, vacant_slots, full_slots}
use Rattle.board_table.specs.Knowing.{Mine, held, many_out, Moves, at_rest}
use Rattle.board_table.specs.Rule.{closed_bit, LaneNow, IsLane, Fits, Kept}
use Rattle.board_table.specs.Plays.{Claims, Makes, Publishes, Closes, PutsBack}
use Rattle.board_table.proofs.Carried.{carried_many, carried_append, at_append, at_within}
use Rattle.board_table.proofs.Growth.{next_anywhere, are_sent, own_here, own_there, begins_event}
use Rattle.board_table.proofs.Homes.{takes_all, gives_all, taken_out, put_in, Apart, Apart-append, takes_all-carried, takes_all-homes, gives_all-carried, gives_all-homes, gives_all-valid, taken_out-else, put_in-else, taken_out-length, put_in-length, put_in-append}
use Rattle.board_table.proofs.Keeping.{lane_now}
use Rattle.board_table.proofs.OutSlots.{filling_slots, filling_packets, filling_vacant, is_filling}
use Rattle.board_table.proofs.Places.{put_within, put_apart, put_taken, slot_beside}
use Rattle.board_table.proofs.Stepping.{Stepped, OnlyFills, rests_filling, only_filling, kept_by_sender}
use Rattle.board_table.proofs.Windows.{Homes, apart_full, apart_vacant, before_window, behind_window, put_full, put_vacant, valid_vacant}

-- without the last sends, the history is what it was before them
pub drop_sent : (q p : ℕ) (xs : List Packet) (h : List Occurrence) → drop (length xs) (with_sent q p xs h) ≡ h
drop_sent q p [] h = refl
drop_sent q p (x ∷ xs) h =
    let g = with_sent q p xs (Send q p x.message ∷ h) in
    ap (λ i. drop i g) (let same : suc (length xs) ≡ length xs + 1 = omega arith in same) ∙ sym (drop-drop 1 (length xs) g) ∙ ap (drop 1) (drop_sent q p xs (Send q p x.message ∷ h))

module _ (n k q p : ℕ) (two : AreTwo n q p) (some_place : 0 < k) where
  -- the slots of other lanes are none of these
  apart_beside : (m many : ℕ) (xs : List Packet) (a b c : ℕ) → AreTwo n a b → is_lane q p a b ≡ false → Apart (slot_of n k a b c) (filling_slots n k q p m many xs)
  apart_beside m many xs a b c these other =
      let away : (e : ℕ) → slot_of n k a b c ≢ slot_of n k q p e = λ e. slot_beside n k a b q p c e these two some_place (other_receiver q p a b other) in
      Apart-append (slot_of n k a b c) (vacant_slots n k q p (m + length xs) many) (full_slots n k q p m xs) (apart_vacant n k q p many (m + length xs) (slot_of n k a b c) (λ e low high. away e)) (apart_full n k q p xs m (slot_of n k a b c) (λ e low high. away e))

  -- what a sender knows from the rule
  pub record Standing (s : State (Option Packet) (List Held)) (r : Kept n k s) (id : ℕ) (e : Held) (many : ℕ) : Type 0 where
    pub fits : Fits n k r.log r.seats id 0 e
    pub lane : IsLane (board_lane n k q p) r.log (lane_now (r.packets q p) (r.seats.filling q p) (r.seats.emptying q p)) s.words s.homes
    pub filling : r.seats.filling q p ≡ many
    pub made : own r.log q ≡ e.made
    pub own : own e.seen q ≡ e.made
    pub count : length (r.packets q p) ≡ length (sent r.log q p)

  pub standing : (s : State (Option Packet) (List Held)) (r : Kept n k s) (id : ℕ) (e : Held) (many : ℕ) → get_elem? s.views id ≡ some (e ∷ []) → e.number ≡ q → OnlyFills p many e.hold → Standing s r id e many
  standing s r id e many at number only =
      let fits = r.entries id 0 (e ∷ []) e at refl in
      let seated = fits.seated (subst (λ x. 1 ≤ x) (sym number) two.0) (subst (λ x. x ≤ n) (sym number) two.1) in
      let lane = r.lanes q p two in
      record {
        fits = fits;
        lane = lane;
        filling = ap (λ x. r.seats.filling x p) (sym number) ∙ seated.fills p ∙ only.here;
        made = ap (own r.log) (sym number) ∙ fits.made;
        own = ap (own e.seen) (sym number) ∙ fits.own;
        count = carried_many (zeros n) (r.packets q p) (goods n r.log q p) lane.carried ∙ goods_many n r.log q p;
      }

  pub claims : (slots id i : ℕ) (e : Held) (looks : ℕ) (stated : ℕ → Mine → Type 0) → e.instances ≡ n → e.capacity ≡ k → e.number ≡ q → many_out e.hold ≡ 0
      → ((s : State (Option Packet) (List Held)) (r : Kept n k s) (w : Mine) → Claims (board_lane n k q p) (e ∷ [], []) w → (held w).seen ≡ r.log → (held w).looks ≡ looks → stated (slice_index s.words i) w)
      → Allows (Kept n k) slots id (e ∷ [], []) i (λ x. x) stated
  claims slots id i e looks stated instances capacity number none states s r size at bound =
      let st = standing s r id e 0 at number (rests_filling e.hold p none) in
      let lane = st.lane in
      let log = r.log in
      let m : ℕ = length (sent log q p) in
      let free : ℕ = received log q p + k - m in
      let fit : m + free ≡ received log q p + k = omega (arith, lane.room, st.count) in
      let few : free ≤ k = omega (arith, lane.behind, st.count, fit) in
      let out : List (ℕ × Option Packet) = vacant_slots n k q p m free in
      let whole : out ≡ filling_slots n k q p m free [] = ap (λ c. vacant_slots n k q p c free) (let z : m ≡ m + 0 = omega arith in z) ∙ sym (append-nil (vacant_slots n k q p (m + 0) free)) in
      let f : Held = record e { seen = log; looks = looks; hold = Filling p (free + 0) } in
      let homes : Homes = taken_out s.homes out in
      let now : LaneNow = lane_now (r.packets q p) (free + 0) (r.seats.emptying q p) in
      let step : Stepped n k q p s r q id e f log now s.words homes = record {
        two = two;
        at = at;
        low = two.0;
        high = two.1;
        was = number;
        same = number;
        instances = refl;
        capacity = refl;
        wide = refl;
        long = taken_out-length s.homes out;
        legal = r.legal;
        begins = begins_same log;
        others = λ b ne. refl;
        seen = begins_same log;
        seen_legal = r.legal;
        made = st.made;
        own = st.made;
        here = record {
          carried = lane.carried;
          put_is = lane.put_is;
          taken_is = lane.taken_is;
          behind = lane.behind;
          room = omega (arith, fit, st.count);
          full = λ c x low there. let within = at_within (r.packets q p) c x there in
              taken_out-else s.homes out (slot_of n k q p c) (apart_vacant n k q p free m (slot_of n k q p c) (before_window n k q p two some_place m c free (omega (arith, within, st.count)) (omega (arith, fit, low)))) ∙ lane.full c x low there;
          empty = λ c low high. absurd (omega (arith, low, high, fit, st.count));
        };
        there = λ a b these other. record {
          goods = refl;
          received = refl;
          closed = refl;
          put = refl;
          taken = refl;
          slots = λ c. taken_out-else s.homes out (slot_of n k a b c) (apart_vacant n k q p free m (slot_of n k a b c) (λ d low high. slot_beside n k a b q p c d these two some_place (other_receiver q p a b other)));
        };
      } in
      let kept = kept_by_sender n k q p s r id e f log now s.words homes 0 (free + 0) step (rests_filling e.hold p none) (only_filling p (free + 0)) refl refl in
      let same : ◌≡◌ {A = List ℕ × Homes} (s.words, homes) (set s.words i (get_or s.words i 0), homes_after s.homes [] (takes_all out)) = λ t. (sym (set-get_or s.words i 0) t, sym (takes_all-homes s.homes [] out) t) in
      let seat : Mine = (f ∷ [], filling_slots n k q p m free []) in
      let stated_claims : Claims (board_lane n k q p) (e ∷ [], []) seat = record {
        sees = record { same = record { instances = refl; capacity = refl; number = refl }; later = st.fits.seen; legal = r.legal; made = refl; own = st.fits.made };
        filling = is_filling (board_lane n k q p) f free [] (record { alone = refl; instances = instances; capacity = capacity; number = number }) refl;
        nothing_filled = filling_packets n k q p m free [];
        all_free = omega (arith, filling_vacant n k q p m free [], fit);
      } in (
        f ∷ [],
        takes_all out,
        valid_vacant n k q p two some_place free s.homes m few (λ d low high. lane.empty d (omega (arith, st.count, st.filling)) (omega (arith, fit))),
        subst (λ z. Kept n k record { words = z.0; homes = z.1; views = set s.views id (f ∷ []) }) same kept,
        subst (λ z. stated (slice_index s.words i) (f ∷ [], z)) (sym whole ∙ sym (takes_all-carried out)) (states s r seat stated_claims refl refl),
      )

  -- the lane after its sender has given back its slots, some of which it has filled
  record Given (s : State (Option Packet) (List Held)) (r : Kept n k s) (g : List Occurrence) (v : ℕ) (xs : List Packet) (parcels : List Parcel) (words : List ℕ) : Type 0 where
    pub lane : IsLane (board_lane n k q p) r.log (lane_now (r.packets q p) (r.seats.filling q p) (r.seats.emptying q p)) s.words s.homes
    pub filling : r.seats.filling q p ≡ v + length xs
    pub put_on : goods n g q p ≡ goods n r.log q p ++ parcels
    pub carried : AreCarried (last_clock (zeros n) (goods n r.log q p)) xs parcels
    pub heard : received g q p ≡ received r.log q p
    pub put_is : slice_index words (put_word n q p) ≡ 2 * length (r.packets q p ++ xs) + closed_bit (is_closed g q p)
    pub taken_is : slice_index words (taken_word n q p) ≡ slice_index s.words (taken_word n q p)

  given_lane : (s : State (Option Packet) (List Held)) (r : Kept n k s) (g : List Occurrence) (v : ℕ) (xs : List Packet) (parcels : List Parcel) (words : List ℕ) (m : ℕ) → m ≡ length (r.packets q p) → Given s r g v xs parcels words
      → IsLane (board_lane n k q p) g (lane_now (r.packets q p ++ xs) 0 (r.seats.emptying q p)) words (put_in s.homes (filling_slots n k q p m v xs))
  given_lane s r g v xs parcels words m count given =
      let lane = given.lane in
      let log = r.log in
      let empties : List (ℕ × Option Packet) = vacant_slots n k q p (m + length xs) v in
      let filled : List (ℕ × Option Packet) = full_slots n k q p m xs in
      let many : length (r.packets q p ++ xs) ≡ length (r.packets q p) + length xs = length-append (r.packets q p) xs in
      let fit : m + length xs + v ≤ received log q p + k = omega (arith, lane.room, given.filling, count) in
      let least : received log q p ≤ m = omega (arith, lane.behind, count) in
      let first : Homes = put_in s.homes empties in
      let sized : length first ≡ slot_count n k = put_in-length s.homes empties ∙ r.slots_are in
      let away : (d : ℕ) → ((e : ℕ) → m + length xs ≤ e → e < m + length xs + v → slot_of n k q p d ≢ slot_of n k q p e) → ((e : ℕ) → m ≤ e → e < m + length xs → slot_of n k q p d ≢ slot_of n k q p e) → get_elem? (put_in s.homes (empties ++ filled)) (slot_of n k q p d) ≡ get_elem? s.homes (slot_of n k q p d) =
      λ d one two'. put_in-else s.homes (empties ++ filled) (slot_of n k q p d) (Apart-append (slot_of n k q p d) empties filled (apart_vacant n k q p v (m + length xs) (slot_of n k q p d) one) (apart_full n k q p xs m (slot_of n k q p d) two')) in
      record {
        carried = subst (λ ys. AreCarried (zeros n) (r.packets q p ++ xs) ys) (sym given.put_on) (carried_append (zeros n) (r.packets q p) (goods n log q p) xs parcels lane.carried given.carried);
        put_is = given.put_is;
        taken_is = given.taken_is ∙ lane.taken_is ∙ sym given.heard;
        behind = omega (arith, lane.behind, given.heard, many);
        room = omega (arith, given.heard, many, fit, count);
        full = λ c x low at. ⊎_elim
            (λ old. away c (before_window n k q p two some_place (m + length xs) c v (omega (arith, old.0, count)) (omega (arith, fit, low, given.heard))) (before_window n k q p two some_place m c (length xs) (omega (arith, old.0, count)) (omega (arith, fit, low, given.heard))) ∙ lane.full c x (omega (arith, low, given.heard)) old.1)
            (λ new. ap (λ hs. get_elem? hs (slot_of n k q p c)) (put_in-append s.homes empties filled) ∙ put_full n k q p two some_place xs first m new.0 c x sized (omega (arith, fit, least)) (omega (arith, new.1, count)) new.2)
            (at_append (r.packets q p) xs c x at);
        empty = λ c low high. elim (dec_le (m + length xs + v) c) [
          | yes behind ↦ away c (behind_window n k q p two some_place (m + length xs) c v behind (omega (arith, high, given.heard, least))) (behind_window n k q p two some_place m c (length xs) (omega (arith, behind)) (omega (arith, high, given.heard, least))) ∙ lane.empty c (omega (arith, behind, given.filling, count)) (omega (arith, high, given.heard))
          | no before ↦ ap (λ hs. get_elem? hs (slot_of n k q p c)) (put_in-append s.homes empties filled)
              ∙ put_in-else first filled (slot_of n k q p c) (apart_full n k q p xs m (slot_of n k q p c) (behind_window n k q p two some_place m c (length xs) (omega (arith, low, many, count)) (omega (arith, high, given.heard, least))))
              ∙ put_vacant n k q p two some_place v s.homes (m + length xs) c r.slots_are (omega (arith, fit, least)) (omega (arith, low, many, count)) (lt_of_not-le before)
        ];
      }

  -- what the sender knows of its own events holds for the whole history
  module _ (s : State (Option Packet) (List Held)) (r : Kept n k s) (id : ℕ) (e : Held) (many : ℕ) (st : Standing s r id e many) where
    same_own : own r.log q ≡ own e.seen q
    same_own = st.made ∙ sym st.own

    pub seen_sent : sent r.log q p ≡ sent e.seen q p
    seen_sent = same_sent e.seen r.log q p same_own

    pub seen_closed : is_closed r.log q p ≡ is_closed e.seen q p
    seen_closed = same_closed e.seen r.log q p same_own

    pub seen_goods : goods n r.log q p ≡ goods n e.seen q p
    seen_goods = same_goods n e.seen r.log st.fits.seen q p same_own

    pub seen_line : chart_of r.log q ≡ chart_of e.seen q
    seen_line = same_line n e.seen r.log st.fits.seen q same_own

    pub seen_knowledge : knowledge_of n r.log q ≡ knowledge_of n e.seen q
    seen_knowledge = same_knowledge n e.seen r.log st.fits.seen q same_own

  -- a seat whose slots were given back
  pub settled : (f : Held) (xs : List (ℕ × Option Packet)) → ◌≡◌ {A = Mine} (f ∷ [], []) (f ∷ [], carried_after xs (gives_all xs))
  settled f xs = λ t. (f ∷ [], sym (gives_all-carried xs) t)

  pub publishes : (slots id count : ℕ) (e : Held) (v : ℕ) (xs : List Packet) → e.instances ≡ n → e.capacity ≡ k → e.number ≡ q → e.hold ≡ Filling p (v + length xs) → count ≡ length (sent e.seen q p) + length xs → is_closed e.seen q p ≡ false → length (chart_of e.seen q) + length xs ≤ MAX_EVENTS → AreNext n (sent_base n e.seen q p) e.seen q p xs
      → let me : Mine = (e ∷ [], filling_slots n k q p (length (sent e.seen q p)) v xs) in Allows (Kept n k) slots id me (put_word n q p) (λ x. 2 * count) (λ x w. Publishes (board_lane n k q p) me w)
  publishes slots id count e v xs instances capacity number hold counted unclosed short next s r size at bound =
      let only : OnlyFills p (v + length xs) e.hold = subst (λ h. OnlyFills p (v + length xs) h) (sym hold) (only_filling p (v + length xs)) in
      let st = standing s r id e (v + length xs) at number only in
      let lane = st.lane in
      let log = r.log in
      let m : ℕ = length (sent e.seen q p) in
      let base = sent_base n log q p in
      let count_m : m ≡ length (r.packets q p) = sym (st.count ∙ ap length (seen_sent s r id e (v + length xs) st)) in
      let line = seen_line s r id e (v + length xs) st in
      let next_log : AreNext n base log q p xs = next_anywhere n q p xs base e.seen log line (seen_knowledge s r id e (v + length xs) st) (subst (λ c. AreNext n c e.seen q p xs) (ap (last_clock (zeros n)) (sym (seen_goods s r id e (v + length xs) st))) next) in
      let open_log : is_closed log q p ≡ false = seen_closed s r id e (v + length xs) st ∙ unclosed in
      let done = are_sent n k q p base xs log two r.legal open_log next_log (omega (arith, goods_many n log q p, st.count, lane.room, st.filling)) (omega (arith, short, ap length line)) in
      let g = with_sent q p xs log in
      let f : Held = record e { seen = g; made = with_sent q p xs e.made; hold = Nothing } in
      let out = filling_slots n k q p m v xs in
      let words : List ℕ = set s.words (put_word n q p) (2 * count) in
      let within = put_within n q p two in
      let homes : Homes = put_in s.homes out in
      let now : LaneNow = lane_now (r.packets q p ++ xs) 0 (r.seats.emptying q p) in
      let made : own g q ≡ with_sent q p xs e.made = done.made ∙ ap (with_sent q p xs) st.made in
      let step : Stepped n k q p s r q id e f g now words homes = record {
        two = two;
        at = at;
        low = two.0;
        high = two.1;
        was = number;
        same = number;
        instances = refl;
        capacity = refl;
        wide = length-set s.words (put_word n q p) (2 * count);
        long = put_in-length s.homes out;
        legal = done.legal;
        begins = done.begins;
        others = done.others;
        seen = begins_same g;
        seen_legal = done.legal;
        made = made;
        own = made;
        here = given_lane s r g v xs done.parcels words m count_m (record {
          lane = lane;
          filling = st.filling;
          put_on = done.here;
          carried = done.carried;
          heard = done.received q p;
          put_is = get_or-set_same s.words (put_word n q p) (2 * count) 0 (omega (arith, within, r.words_are)) ∙ (let z : 2 * count ≡ 2 * length (r.packets q p ++ xs) + 0 = omega (arith, counted, count_m, length-append (r.packets q p) xs) in z) ∙ ap (λ b. 2 * length (r.packets q p ++ xs) + closed_bit b) (sym (done.closed q p ∙ open_log));
          taken_is = get_or-set_other s.words (put_word n q p) (taken_word n q p) (2 * count) 0 (λ same. put_taken n q p q p two two (sym same));
        });
        there = λ a b these other. record {
          goods = done.there a b other;
          received = done.received a b;
          closed = done.closed a b;
          put = get_or-set_other s.words (put_word n q p) (put_word n a b) (2 * count) 0 (λ same. let apart = put_apart n a b q p these two same in other_receiver q p a b other apart.0 apart.1);
          taken = get_or-set_other s.words (put_word n q p) (taken_word n a b) (2 * count) 0 (λ same. put_taken n q p a b two these (sym same));
          slots = λ c. put_in-else s.homes out (slot_of n k a b c) (apart_beside m v xs a b c these other);
        };
      } in
      let kept = kept_by_sender n k q p s r id e f g now words homes (v + length xs) 0 step only (rests_filling Nothing p refl) refl refl in
      let same : ◌≡◌ {A = Homes} homes (homes_after s.homes out (gives_all out)) = sym (gives_all-homes s.homes out) in
      let makes : Makes (board_lane n k q p) q (length xs) (with_sent q p xs) (e ∷ [], out) (f ∷ [], []) = record {
        rests = record { post = record { alone = refl; instances = instances; capacity = capacity; number = number }; hold = refl; slots = refl };
        moves = subst (λ h. Moves n k e f h (with_sent q p xs)) (sym (drop_sent q p xs log)) (record {
          same = record { instances = refl; capacity = refl; number = refl };
          later = st.fits.seen;
          legal_before = r.legal;
          own_before = st.fits.made;
          seen = refl;
          legal = done.legal;
          made = refl;
          own = ap (own g) number ∙ made;
          looks = refl;
        });
      } in (
        f ∷ [],
        gives_all out,
        gives_all-valid s.homes out,
        subst (λ hs. Kept n k record { words = words; homes = hs; views = set s.views id (f ∷ []) }) same kept,
        subst (λ w. Publishes (board_lane n k q p) (e ∷ [], out) w) (settled f out) (subst (λ ys. Makes (board_lane n k q p) q (length ys) (with_sent q p ys) (e ∷ [], out) (f ∷ [], [])) (sym (filling_packets n k q p m v xs)) makes),
      )

  pub puts_back : (slots id i : ℕ) (e : Held) (v : ℕ) → e.number ≡ q → e.hold ≡ Filling p (v + 0)
      → let me : Mine = (e ∷ [], filling_slots n k q p (length (sent e.seen q p)) v []) in Allows (Kept n k) slots id me i (λ x. x) (λ x w. PutsBack me w)
  puts_back slots id i e v number hold s r size at bound =
      let only : OnlyFills p (v + 0) e.hold = subst (λ h. OnlyFills p (v + 0) h) (sym hold) (only_filling p (v + 0)) in
      let st = standing s r id e (v + 0) at number only in
      let lane = st.lane in
      let log = r.log in
      let m : ℕ = length (sent e.seen q p) in
      let count_m : m ≡ length (r.packets q p) = sym (st.count ∙ ap length (seen_sent s r id e (v + 0) st)) in
      let f : Held = at_rest e in
      let out = filling_slots n k q p m v [] in
      let homes : Homes = put_in s.homes out in
      let now : LaneNow = lane_now (r.packets q p ++ []) 0 (r.seats.emptying q p) in
      let step : Stepped n k q p s r q id e f log now s.words homes = record {
        two = two;
        at = at;
        low = two.0;
        high = two.1;
        was = number;
        same = number;
        instances = refl;
        capacity = refl;
        wide = refl;
        long = put_in-length s.homes out;
        legal = r.legal;
        begins = begins_same log;
        others = λ b ne. refl;
        seen = st.fits.seen;
        seen_legal = st.fits.legal;
        made = st.made;
        own = st.own;
        here = given_lane s r log v [] [] s.words m count_m (record {
          lane = lane;
          filling = st.filling;
          put_on = sym (append-nil (goods n log q p));
          carried = tt;
          heard = refl;
          put_is = lane.put_is ∙ ap (λ (xs : List Packet). 2 * length xs + closed_bit (is_closed log q p)) (sym (append-nil (r.packets q p)));
          taken_is = refl;
        });
        there = λ a b these other. record { goods = refl; received = refl; closed = refl; put = refl; taken = refl; slots = λ c. put_in-else s.homes out (slot_of n k a b c) (apart_beside m v [] a b c these other) };
      } in
      let kept = kept_by_sender n k q p s r id e f log now s.words homes (v + 0) 0 step only (rests_filling Nothing p refl) refl refl in
      let same : ◌≡◌ {A = List ℕ × Homes} (s.words, homes) (set s.words i (get_or s.words i 0), homes_after s.homes out (gives_all out)) = λ t. (sym (set-get_or s.words i 0) t, sym (gives_all-homes s.homes out) t) in (
        f ∷ [],
        gives_all out,
        gives_all-valid s.homes out,
        subst (λ z. Kept n k record { words = z.0; homes = z.1; views = set s.views id (f ∷ []) }) same kept,
        sym (settled f out),
      )

  pub closes : (slots id count : ℕ) (e : Held) → e.instances ≡ n → e.capacity ≡ k → e.number ≡ q → many_out e.hold ≡ 0 → count ≡ length (sent e.seen q p) → is_closed e.seen q p ≡ false
      → Allows (Kept n k) slots id (e ∷ [], []) (put_word n q p) (λ x. 2 * count + 1) (λ x w. Closes (board_lane n k q p) (e ∷ [], []) w)
  closes slots id count e instances capacity number none counted unclosed s r size at bound =
      let only = rests_filling e.hold p none in
      let st = standing s r id e 0 at number only in
      let lane = st.lane in
      let log = r.log in
      let close : Occurrence = Close q p in
      let count_m : count ≡ length (r.packets q p) = counted ∙ sym (st.count ∙ ap length (seen_sent s r id e 0 st)) in
      let legal : IsLegal n k (close ∷ log) = ((two, seen_closed s r id e 0 st ∙ unclosed), r.legal) in
      let f : Held = record e { seen = close ∷ log; made = close ∷ e.made } in
      let words : List ℕ = set s.words (put_word n q p) (2 * count + 1) in
      let within = put_within n q p two in
      let now : LaneNow = lane_now (r.packets q p) (r.seats.filling q p) (r.seats.emptying q p) in
      let made : own (close ∷ log) q ≡ close ∷ e.made = own_here close log ∙ ap (λ h. close ∷ h) st.made in
      let step : Stepped n k q p s r q id e f (close ∷ log) now words s.homes = record {
        two = two;
        at = at;
        low = two.0;
        high = two.1;
        was = number;
        same = number;
        instances = refl;
        capacity = refl;
        wide = length-set s.words (put_word n q p) (2 * count + 1);
        long = refl;
        legal = legal;
        begins = begins_event close log;
        others = λ b ne. own_there close log b ne;
        seen = begins_same (close ∷ log);
        seen_legal = legal;
        made = made;
        own = made;
        here = record {
          carried = lane.carried;
          put_is = get_or-set_same s.words (put_word n q p) (2 * count + 1) 0 (omega (arith, within, r.words_are)) ∙ ap (λ (x : ℕ). 2 * x + 1) count_m ∙ ap (λ b. 2 * length (r.packets q p) + closed_bit b) (sym (is_closed-close log q p));
          taken_is = get_or-set_other s.words (put_word n q p) (taken_word n q p) (2 * count + 1) 0 (λ same. put_taken n q p q p two two (sym same)) ∙ lane.taken_is;
          behind = lane.behind;
          room = lane.room;
          full = lane.full;
          empty = lane.empty;
        };
        there = λ a b these other. record {
          goods = refl;
          received = refl;
          closed = is_closed-close_other log q p a b other;
          put = get_or-set_other s.words (put_word n q p) (put_word n a b) (2 * count + 1) 0 (λ same. let apart = put_apart n a b q p these two same in other_receiver q p a b other apart.0 apart.1);
          taken = get_or-set_other s.words (put_word n q p) (taken_word n a b) (2 * count + 1) 0 (λ same. put_taken n q p a b two these (sym same));
          slots = λ c. refl;
        };
      } in
      let kept = kept_by_sender n k q p s r id e f (close ∷ log) now words s.homes 0 0 step only only st.filling refl in (
        f ∷ [],
        keeps,
        tt,
        kept,
        record {
          rests = record { post = record { alone = refl; instances = instances; capacity = capacity; number = number }; hold = none; slots = refl };
          moves = record {
            same = record { instances = refl; capacity = refl; number = refl };
            later = st.fits.seen;
            legal_before = r.legal;
            own_before = st.fits.made;
            seen = refl;
            legal = legal;
            made = refl;
            own = ap (own (close ∷ log)) number ∙ made;
            looks = refl;
          };
        },
      )
