-- The rule after a step of a lane's sender or receiver, which changes only this lane.
use Rattle.std.proofs.Common.{◌≡◌, ◌≢◌, ℕ, ◌≤◌, Bool, true, false, cond, ◌==◌, List, [], ◌∷◌, length, set, refl, sym, ap, ◌∙◌, subst}
use Rattle.std.proofs.lemmas.Bool.{eqb-true, eq-eqb, ne_eqb, and_parts}
use mathlib.Core.Option.{some}
use native.Mathlib.Decide.{ℕ_discrete as dec_eq}
use lib.ListN.{get_elem?}
use Rattle.std.specs.Prelude.{Option}
use Rattle.atomic_table.specs.Table.{State}
use Rattle.chart.specs.declared.history.Occurrence.{Occurrence}
use Rattle.chart.specs.Histories.{own, is_lane, AreTwo, IsLegal, Begins}
use Rattle.chart.proofs.Histories.{is_lane-same, is_lane-from, is_lane-to}
use Rattle.board_table.specs.declared.packet.Packet.{Packet}
use Rattle.board_table.specs.declared.held.Hold.{Hold}
use Rattle.board_table.specs.declared.held.Hold.TheVariants.{Nothing, Filling, Emptying}
use Rattle.board_table.specs.declared.held.Held.{Held}
use Rattle.board_table.specs.Layout.{board_lane}
use Rattle.board_table.specs.Knowing.{many_out, filling_to, emptying_from}
use Rattle.board_table.specs.Rule.{LaneNow, IsLane, IsSeated, Fits, Kept}
use Rattle.board_table.proofs.Windows.{Homes}
use Rattle.board_table.proofs.Keeping.{LeavesLane, lane_now, lane_left, kept_step}

-- `many` slots of the lane to p are out, and nothing else
pub record OnlyFills (p many : ℕ) (h : Hold) : Type 0 where
  pub here : filling_to h p ≡ many
  pub there : (b : ℕ) → b ≢ p → filling_to h b ≡ 0
  pub none : (a : ℕ) → emptying_from h a ≡ 0

-- `many` slots of the lane from q are out, and nothing else
pub record OnlyEmpties (q many : ℕ) (h : Hold) : Type 0 where
  pub here : emptying_from h q ≡ many
  pub there : (a : ℕ) → a ≢ q → emptying_from h a ≡ 0
  pub none : (b : ℕ) → filling_to h b ≡ 0

pub none_filling : (h : Hold) (b : ℕ) → many_out h ≡ 0 → filling_to h b ≡ 0
none_filling Nothing b none = refl
none_filling (Filling to many) b none = go (to == b)
  where
    go : (its : Bool) → cond its many 0 ≡ 0
    go true = none
    go false = refl
none_filling (Emptying from many) b none = refl

pub none_emptying : (h : Hold) (a : ℕ) → many_out h ≡ 0 → emptying_from h a ≡ 0
none_emptying Nothing a none = refl
none_emptying (Filling to many) a none = refl
none_emptying (Emptying from many) a none = go (from == a)
  where
    go : (its : Bool) → cond its many 0 ≡ 0
    go true = none
    go false = refl

pub rests_filling : (h : Hold) (p : ℕ) → many_out h ≡ 0 → OnlyFills p 0 h
rests_filling h p none = record { here = none_filling h p none; there = λ b ne. none_filling h b none; none = λ a. none_emptying h a none }

pub rests_emptying : (h : Hold) (q : ℕ) → many_out h ≡ 0 → OnlyEmpties q 0 h
rests_emptying h q none = record { here = none_emptying h q none; there = λ a ne. none_emptying h a none; none = λ b. none_filling h b none }

pub only_filling : (p many : ℕ) → OnlyFills p many (Filling p many)
only_filling p many = record { here = rw (eq-eqb p p refl) refl; there = λ b ne. rw (ne_eqb p b (λ same. ne (sym same))) refl; none = λ a. refl }

pub only_emptying : (q many : ℕ) → OnlyEmpties q many (Emptying q many)
only_emptying q many = record { here = rw (eq-eqb q q refl) refl; there = λ a ne. rw (ne_eqb q a (λ same. ne (sym same))) refl; none = λ b. refl }

-- a value by lane, with a new one for one lane
abbrev pub with_value : {A : Type 0} → (ℕ → ℕ → A) → ℕ → ℕ → A → ℕ → ℕ → A
with_value f q p x a b = cond (is_lane q p a b) x (f a b)

pub with_value-each : {A : Type 0} (P : ℕ → ℕ → A → Type 0) (f : ℕ → ℕ → A) (q p : ℕ) (x : A) → P q p x → ((a b : ℕ) → is_lane q p a b ≡ false → P a b (f a b)) → (a b : ℕ) → P a b (with_value f q p x a b)
with_value-each {A} P f q p x here there a b = go (is_lane q p a b) refl
  where
    go : (its : Bool) → is_lane q p a b ≡ its → P a b (cond its x (f a b))
    go true e = let ends = and_parts (q == a) (p == b) e in subst (λ y. P y b x) (eqb-true q a ends.0) (subst (λ y. P q y x) (eqb-true p b ends.1) here)
    go false e = there a b e

pub with_value-here : {A : Type 0} (f : ℕ → ℕ → A) (q p : ℕ) (x : A) → with_value f q p x q p ≡ x
with_value-here {A} f q p x = ap (λ its. cond its x (f q p)) (is_lane-same q p)

pub with_value-there : {A : Type 0} (f : ℕ → ℕ → A) (q p : ℕ) (x : A) (a b : ℕ) → is_lane q p a b ≡ false → with_value f q p x a b ≡ f a b
with_value-there {A} f q p x a b other = ap (λ its. cond its x (f a b)) other

-- The state before the step, and what the step changes.
pub record Stepped (n k q p : ℕ) (s : State (Option Packet) (List Held)) (r : Kept n k s) (number id : ℕ) (e f : Held) (g : List Occurrence) (now : LaneNow) (words : List ℕ) (homes : Homes) : Type 0 where
  pub two : AreTwo n q p
  pub at : get_elem? s.views id ≡ some (e ∷ [])
  pub low : 1 ≤ number
  pub high : number ≤ n
  pub was : e.number ≡ number
  pub same : f.number ≡ number
  pub instances : f.instances ≡ e.instances
  pub capacity : f.capacity ≡ e.capacity
  pub wide : length words ≡ length s.words
  pub long : length homes ≡ length s.homes
  pub legal : IsLegal n k g
  pub begins : Begins r.log g
  pub others : (b : ℕ) → b ≢ number → own g b ≡ own r.log b
  pub seen : Begins f.seen g
  pub seen_legal : IsLegal n k f.seen
  pub made : own g number ≡ f.made
  pub own : own f.seen number ≡ f.made
  pub here : IsLane (board_lane n k q p) g (lane_now now.packets now.filling now.emptying) words homes
  pub there : (a b : ℕ) → AreTwo n a b → is_lane q p a b ≡ false → LeavesLane n k r.log g a b s.words words s.homes homes

module _ (n k q p : ℕ) (s : State (Option Packet) (List Held)) (r : Kept n k s) (id : ℕ) (e f : Held) (g : List Occurrence) (now : LaneNow) (words : List ℕ) (homes : Homes) where
  abbrev out : ℕ → ℕ → LaneNow
  out a b = lane_now (r.packets a b) (r.seats.filling a b) (r.seats.emptying a b)

  abbrev after : ℕ → ℕ → LaneNow
  after a b = with_value out q p now a b

  lanes_after : (number : ℕ) → Stepped n k q p s r number id e f g now words homes → (a b : ℕ) → AreTwo n a b → IsLane (board_lane n k a b) g (lane_now (after a b).packets (after a b).filling (after a b).emptying) words homes
  lanes_after number st = with_value-each (λ a b x. AreTwo n a b → IsLane (board_lane n k a b) g (lane_now x.packets x.filling x.emptying) words homes) out q p now (λ two. st.here)
      (λ a b other two. lane_left n k r.log g a b (r.packets a b) (r.seats.filling a b) (r.seats.emptying a b) (r.seats.filling a b) (r.seats.emptying a b) s.words words s.homes homes (st.there a b two other) refl refl (r.lanes a b two))

  pub kept_by_sender : (old new : ℕ) → Stepped n k q p s r q id e f g now words homes → OnlyFills p old e.hold → OnlyFills p new f.hold → now.filling ≡ new → now.emptying ≡ r.seats.emptying q p → Kept n k record { words = words; homes = homes; views = set s.views id (f ∷ []) }
  kept_by_sender old new st was is fills empties =
      kept_step n k s r id e f st.at (subst (λ x. 1 ≤ x) (sym st.was) st.low) (subst (λ x. x ≤ n) (sym st.was) st.high) g (λ a b. (after a b).packets) (λ a b. (after a b).filling) (λ a b. (after a b).emptying) words homes st.wide st.long st.legal st.begins
      (λ b ne. st.others b (λ same. ne (same ∙ sym st.was)))
      (λ a b ne. ap (λ x. x.filling) (with_value-there out q p now a b (is_lane-from q p a b (λ same. ne (same ∙ sym st.was)))))
      (λ a b ne. with_value-each (λ a b x. x.emptying ≡ r.seats.emptying a b) out q p now empties (λ a b other. refl) a b)
      (lanes_after q st)
      record {
        instances = st.instances ∙ fits.instances;
        capacity = st.capacity ∙ fits.capacity;
        seen = st.seen;
        legal = st.seen_legal;
        made = ap (own g) st.same ∙ st.made;
        own = ap (own f.seen) st.same ∙ st.own;
        seated = λ low high. record { here = ap r.seats.seat (st.same ∙ sym st.was) ∙ seated.here; fills = my_fills; empties = my_empties };
      }
    where
      fits : Fits n k r.log r.seats id 0 e
      fits = r.entries id 0 (e ∷ []) e st.at refl

      seated : IsSeated r.seats id 0 e
      seated = fits.seated (subst (λ x. 1 ≤ x) (sym st.was) st.low) (subst (λ x. x ≤ n) (sym st.was) st.high)

      at_q : (b : ℕ) → (after q b).filling ≡ filling_to f.hold b
      at_q b = go (dec_eq b p)
        where
          go : Dec (b ≡ p) → (after q b).filling ≡ filling_to f.hold b
          go (yes same) = subst (λ x. (after q x).filling ≡ filling_to f.hold x) (sym same) (ap (λ x. x.filling) (with_value-here out q p now) ∙ fills ∙ sym is.here)
          go (no ne) = ap (λ x. x.filling) (with_value-there out q p now q b (is_lane-to q p q b ne)) ∙ (ap (λ x. r.seats.filling x b) (sym st.was) ∙ seated.fills b ∙ was.there b ne ∙ sym (is.there b ne))

      my_fills : (b : ℕ) → (after f.number b).filling ≡ filling_to f.hold b
      my_fills b = ap (λ x. (after x b).filling) st.same ∙ at_q b

      my_empties : (a : ℕ) → (after a f.number).emptying ≡ emptying_from f.hold a
      my_empties a = with_value-each (λ a b x. x.emptying ≡ r.seats.emptying a b) out q p now empties (λ a b other. refl) a f.number
          ∙ ap (r.seats.emptying a) (st.same ∙ sym st.was) ∙ seated.empties a ∙ was.none a ∙ sym (is.none a)

  pub kept_by_receiver : (old new : ℕ) → Stepped n k q p s r p id e f g now words homes → OnlyEmpties q old e.hold → OnlyEmpties q new f.hold → now.emptying ≡ new → now.filling ≡ r.seats.filling q p → Kept n k record { words = words; homes = homes; views = set s.views id (f ∷ []) }
  kept_by_receiver old new st was is empties fills =
      kept_step n k s r id e f st.at (subst (λ x. 1 ≤ x) (sym st.was) st.low) (subst (λ x. x ≤ n) (sym st.was) st.high) g (λ a b. (after a b).packets) (λ a b. (after a b).filling) (λ a b. (after a b).emptying) words homes st.wide st.long st.legal st.begins
      (λ b ne. st.others b (λ same. ne (same ∙ sym st.was)))
      (λ a b ne. with_value-each (λ a b x. x.filling ≡ r.seats.filling a b) out q p now fills (λ a b other. refl) a b)
      (λ a b ne. ap (λ x. x.emptying) (with_value-there out q p now a b (is_lane-to q p a b (λ same. ne (same ∙ sym st.was)))))
      (lanes_after p st)
      record {
        instances = st.instances ∙ fits.instances;
        capacity = st.capacity ∙ fits.capacity;
        seen = st.seen;
        legal = st.seen_legal;
        made = ap (own g) st.same ∙ st.made;
        own = ap (own f.seen) st.same ∙ st.own;
        seated = λ low high. record { here = ap r.seats.seat (st.same ∙ sym st.was) ∙ seated.here; fills = my_fills; empties = my_empties };
      }
    where
      fits : Fits n k r.log r.seats id 0 e
      fits = r.entries id 0 (e ∷ []) e st.at refl

      seated : IsSeated r.seats id 0 e
      seated = fits.seated (subst (λ x. 1 ≤ x) (sym st.was) st.low) (subst (λ x. x ≤ n) (sym st.was) st.high)

      at_p : (a : ℕ) → (after a p).emptying ≡ emptying_from f.hold a
      at_p a = go (dec_eq a q)
        where
          go : Dec (a ≡ q) → (after a p).emptying ≡ emptying_from f.hold a
          go (yes same) = subst (λ x. (after x p).emptying ≡ emptying_from f.hold x) (sym same) (ap (λ x. x.emptying) (with_value-here out q p now) ∙ empties ∙ sym is.here)
          go (no ne) = ap (λ x. x.emptying) (with_value-there out q p now a p (is_lane-from q p a p ne)) ∙ (ap (r.seats.emptying a) (sym st.was) ∙ seated.empties a ∙ was.there a ne ∙ sym (is.there a ne))

      my_fills : (b : ℕ) → (after f.number b).filling ≡ filling_to f.hold b
      my_fills b = with_value-each (λ a b x. x.filling ≡ r.seats.filling a b) out q p now fills (λ a b other. refl) f.number b
          ∙ ap (λ x. r.seats.filling x b) (st.same ∙ sym st.was) ∙ seated.fills b ∙ was.none b ∙ sym (is.none b)

      my_empties : (a : ℕ) → (after a f.number).emptying ≡ emptying_from f.hold a
      my_empties a = ap (λ x. (after a x).emptying) st.same ∙ at_p a
