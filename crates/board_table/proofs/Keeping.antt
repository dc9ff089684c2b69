-- The rule after a step of one post. The step changes one lane of this post, what the post knows, and maybe the
-- history.
use Rattle.std.proofs.Common.{◌≡◌, ◌≢◌, ℕ, zero, suc, ◌+◌, ◌*◌, ◌≤◌, true, false, ⊎_elim, List, [], ◌∷◌, length, set, refl, sym, ap, ◌∙◌, subst, arith}
use Rattle.std.specs.Prelude.{slice_index, Option}
use mathlib.Core.Option.{some, some-injective, some-ne-none}
use lib.ListN.{get_elem?}
use Rattle.atomic_table.specs.Table.{State}
use Rattle.atomic_table.proofs.Lists.{at_set}
use Rattle.chart.specs.declared.history.Occurrence.{Occurrence}
use Rattle.chart.specs.Histories.{own, is_lane, received, is_closed, AreTwo, IsLegal, Begins}
use Rattle.chart.proofs.Histories.{begins_onward}
use Rattle.board_core.specs.Parcels.{goods}
use Rattle.board_table.specs.declared.packet.Packet.{Packet}
use Rattle.board_table.specs.declared.held.Held.{Held}
use Rattle.board_table.specs.Layout.{board_lane, put_word, taken_word, slot_of}
use Rattle.board_table.specs.Rule.{closed_bit, LaneNow, IsLane, Seating, Fits, Kept}
use Rattle.board_table.proofs.Windows.{Homes}

-- What a step leaves of a lane: everything that the lane's record mentions.
pub record LeavesLane (n k : ℕ) (log g : List Occurrence) (a b : ℕ) (words new_words : List ℕ) (homes new_homes : Homes) : Type 0 where
  pub goods : goods n g a b ≡ goods n log a b
  pub received : received g a b ≡ received log a b
  pub closed : is_closed g a b ≡ is_closed log a b
  pub put : slice_index new_words (put_word n a b) ≡ slice_index words (put_word n a b)
  pub taken : slice_index new_words (taken_word n a b) ≡ slice_index words (taken_word n a b)
  pub slots : (c : ℕ) → get_elem? new_homes (slot_of n k a b c) ≡ get_elem? homes (slot_of n k a b c)

abbrev pub lane_now : List Packet → ℕ → ℕ → LaneNow
lane_now packets filling emptying = record { packets = packets; filling = filling; emptying = emptying }

abbrev pub seating : (ℕ → ℕ × ℕ) → (ℕ → ℕ → ℕ) → (ℕ → ℕ → ℕ) → Seating
seating seat filling emptying = record { seat = seat; filling = filling; emptying = emptying }

pub lane_left : (n k : ℕ) (log g : List Occurrence) (a b : ℕ) (packets : List Packet) (filling emptying filling' emptying' : ℕ) (words new_words : List ℕ) (homes new_homes : Homes) → LeavesLane n k log g a b words new_words homes new_homes → filling' ≡ filling → emptying' ≡ emptying
    → IsLane (board_lane n k a b) log (lane_now packets filling emptying) words homes → IsLane (board_lane n k a b) g (lane_now packets filling' emptying') new_words new_homes
lane_left n k log g a b packets filling emptying filling' emptying' words new_words homes new_homes left fills empties old = record {
  carried = rw left.goods old.carried;
  put_is = left.put ∙ old.put_is ∙ ap (λ c. 2 * length packets + closed_bit c) (sym left.closed);
  taken_is = left.taken ∙ old.taken_is ∙ sym left.received;
  behind = omega (arith, old.behind, left.received, empties);
  room = omega (arith, old.room, left.received, fills);
  full = λ c x low at. left.slots c ∙ old.full c x (omega (arith, left.received, empties, low)) at;
  empty = λ c low high. left.slots c ∙ old.empty c (omega (arith, low, fills)) (omega (arith, high, left.received));
}

-- The numbers of slots that are out, by lane, with a new number for one lane.
abbrev pub with_number : (ℕ → ℕ → ℕ) → ℕ → ℕ → ℕ → ℕ → ℕ → ℕ
with_number f q p m a b = elim (is_lane q p a b) [ true ↦ m | false ↦ f a b ]

-- a view with one entry
pub one_entry : (f e : Held) (place : ℕ) → get_elem? (f ∷ []) place ≡ some e → (place ≡ 0) × (f ≡ e)
one_entry f e zero at = (refl, some-injective f e at)
one_entry f e (suc place) at = absurd (some-ne-none e (sym at))

-- the entry of a post alone at its seat; after the step the history may be longer, but only by the post's own events
pub kept_step : (n k : ℕ) (s : State (Option Packet) (List Held)) (r : Kept n k s) (id : ℕ) (e f : Held) → get_elem? s.views id ≡ some (e ∷ []) → 1 ≤ e.number → e.number ≤ n → (g : List Occurrence) (packets : ℕ → ℕ → List Packet) (filling emptying : ℕ → ℕ → ℕ) (words : List ℕ) (homes : Homes)
    → length words ≡ length s.words → length homes ≡ length s.homes → IsLegal n k g → Begins r.log g → ((b : ℕ) → b ≢ e.number → own g b ≡ own r.log b)
    → ((a b : ℕ) → a ≢ e.number → filling a b ≡ r.seats.filling a b) → ((a b : ℕ) → b ≢ e.number → emptying a b ≡ r.seats.emptying a b)
    → ((a b : ℕ) → AreTwo n a b → IsLane (board_lane n k a b) g (lane_now (packets a b) (filling a b) (emptying a b)) words homes) → Fits n k g (seating r.seats.seat filling emptying) id 0 f
    → Kept n k record { words = words; homes = homes; views = set s.views id (f ∷ []) }
kept_step n k s r id e f at low high g packets filling emptying words homes wide long legal begins others fills empties lanes fits = record {
  log = g;
  seats = seating r.seats.seat filling emptying;
  packets = packets;
  legal = legal;
  words_are = wide ∙ r.words_are;
  slots_are = long ∙ r.slots_are;
  lanes = lanes;
  entries = λ j place v w there is. ⊎_elim (here j place v w is) (away j place v w is) (at_set s.views id j (f ∷ []) v there);
}
  where
    here : (j place : ℕ) (v : List Held) (w : Held) → get_elem? v place ≡ some w → (j ≡ id) × (f ∷ [] ≡ v) → Fits n k g (seating r.seats.seat filling emptying) j place w
    here j place v w is (same, view) =
        let one = one_entry f w place (ap (λ l. get_elem? l place) view ∙ is) in
        subst (λ x. Fits n k g (seating r.seats.seat filling emptying) x place w) (sym same) (subst (λ x. Fits n k g (seating r.seats.seat filling emptying) id x w) (sym one.0) (subst (λ x. Fits n k g (seating r.seats.seat filling emptying) id 0 x) one.1 fits))

    -- no other seat has an entry of this post's number
    other : (j place : ℕ) (v : List Held) (w : Held) → get_elem? s.views j ≡ some v → get_elem? v place ≡ some w → j ≢ id → w.number ≢ e.number
    other j place v w there is ne same =
        let mine = (r.entries id 0 (e ∷ []) e at refl).seated low high in
        let its = (r.entries j place v w there is).seated (subst (λ x. 1 ≤ x) (sym same) low) (subst (λ x. x ≤ n) (sym same) high) in
        ne (ap (λ (x : ℕ × ℕ). x.0) (sym its.here ∙ ap r.seats.seat same ∙ mine.here))

    away : (j place : ℕ) (v : List Held) (w : Held) → get_elem? v place ≡ some w → (j ≢ id) × (get_elem? s.views j ≡ some v) → Fits n k g (seating r.seats.seat filling emptying) j place w
    away j place v w is (ne, there) =
        let old = r.entries j place v w there is in
        let number = other j place v w there is ne in
        record {
          instances = old.instances;
          capacity = old.capacity;
          seen = begins_onward w.seen r.log g old.seen begins;
          legal = old.legal;
          made = others w.number number ∙ old.made;
          own = old.own;
          seated = λ first last. let its = old.seated first last in record {
            here = its.here;
            fills = λ p. fills w.number p number ∙ its.fills p;
            empties = λ q. empties q w.number number ∙ its.empties q;
          };
        }
