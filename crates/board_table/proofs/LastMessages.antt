-- A post that leaves with the messages that wait for it keeps the rule.
use Rattle.std.proofs.Common.{◌≡◌, ◌≢◌, ℕ, zero, suc, ◌+◌, ◌-◌, ◌<◌, ◌≤◌, cond, ◌==◌, List, [], ◌∷◌, ◌++◌, length, take, drop, map, get_or, set, refl, sym, ap, ◌∙◌, subst, arith, length-drop, length-take}
use Rattle.std.specs.Prelude.{Option, Some}
use Rattle.std.proofs.lemmas.List.{take-map, drop-map, take_at, drop-append-le, set-get_or}
use Rattle.std.proofs.lemmas.Bool.{eq-eqb, ne_eqb}
use mathlib.Core.Option.{some}
use native.Mathlib.Decide.{ℕ_discrete as dec_eq}
use lib.ListN.{get_elem?}
use Rattle.atomic_table.specs.Table.{State, Allows, Valid, homes_after}
use Rattle.chart.specs.declared.history.Occurrence.{Occurrence}
use Rattle.chart.specs.declared.history.Occurrence.TheVariants.{Send, Receive, Close}
use Rattle.chart.specs.Messages.{Content}
use Rattle.chart.specs.Histories.{sent, received, waiting, AreTwo, IsLegal}
use Rattle.chart.proofs.Histories.{is_lane-from, is_lane-to, same_received, sent_begins, received-le, begins_same}
use Rattle.board_core.specs.Parcels.{Parcel, goods}
use Rattle.board_core.specs.Differences.{zeros}
use Rattle.board_core.proofs.GoodsLemmas.{goods_messages}
use Rattle.board_table.specs.declared.packet.Packet.{Packet}
use Rattle.board_table.specs.declared.held.Held.{Held}
use Rattle.board_table.specs.Layout.{board_lane, slot_of}
use Rattle.board_table.specs.Carrying.{AreCarried, full_slots}
use Rattle.board_table.specs.Knowing.{many_out, note_of}
use Rattle.board_table.specs.Leaving.{HaveLeft}
use Rattle.board_table.specs.Rule.{IsLane, Fits, Kept}
use Rattle.board_table.proofs.Carried.{at_drop, at_within}
use Rattle.board_table.proofs.Homes.{takes_all, taken_out, Apart, Apart-append, takes_all-carried, takes_all-homes, taken_out-else, taken_out-length}
use Rattle.board_table.proofs.Keeping.{lane_now, seating, lane_left, kept_step}
use Rattle.board_table.proofs.Places.{slot_beside}
use Rattle.board_table.proofs.Stepping.{none_emptying}
use Rattle.board_table.proofs.Views.{fits_note}
use Rattle.board_table.proofs.Windows.{Homes, apart_full, before_window, behind_window}

-- Slots that are taken out of their homes.

abbrev Slots : Type 0
Slots = List (ℕ × Option Packet)

-- each slot is at home with its content, and none is listed twice
abbrev AreHome : Homes → Slots → Type 0
AreHome homes [] = Unit {0}
AreHome homes (x ∷ xs) = (get_elem? homes x.0 ≡ some (some x.1)) × Apart x.0 xs × AreHome homes xs

valid_home : (homes : Homes) (xs : Slots) → AreHome homes xs → Valid homes [] (takes_all xs)
valid_home homes [] are = tt
valid_home homes (x ∷ xs) are = (
  valid_home homes xs are.2,
  ap (λ hs. get_elem? hs x.0) (takes_all-homes homes [] xs) ∙ taken_out-else homes xs x.0 are.1 ∙ are.0,
)

-- the slots of neighbouring places of a lane, before others
home_run : (n k q p : ℕ) → AreTwo n q p → 0 < k → (homes : Homes) (xs : List Packet) (c : ℕ) (others : Slots) → length xs ≤ k
    → ((i d : ℕ) (x : Packet) → d ≡ c + i → get_elem? xs i ≡ some x → get_elem? homes (slot_of n k q p d) ≡ some (some (Some x)))
    → ((d : ℕ) → Apart (slot_of n k q p d) others) → AreHome homes others → AreHome homes (full_slots n k q p c xs ++ others)
home_run n k q p two some_place homes [] c others few home away are = are
home_run n k q p two some_place homes (x ∷ xs) c others few home away are = (
  home zero c x (omega arith) refl,
  Apart-append (slot_of n k q p c) (full_slots n k q p (suc c) xs) others (apart_full n k q p xs (suc c) (slot_of n k q p c) (before_window n k q p two some_place (suc c) c (length xs) (omega arith) (omega arith))) (away c),
  home_run n k q p two some_place homes xs (suc c) others (omega arith) (λ i d y at is. home (suc i) d y (omega arith) is) away are,
)

-- No lane leads from an instance to itself.

sent_back : (n k : ℕ) (h : List Occurrence) → IsLegal n k h → (p : ℕ) → sent h p p ≡ []
sent_back n k [] legal p = refl
sent_back n k (Send a b m ∷ h) legal p = go (dec_eq p a) (sent_back n k h legal.1 p)
  where
    go : Dec (p ≡ a) → sent h p p ≡ [] → sent (Send a b m ∷ h) p p ≡ []
    go (yes same) before = rw (is_lane-to a b p p (λ other. legal.0.0.4 (sym same ∙ other))) before
    go (no ne) before = rw (is_lane-from a b p p ne) before
sent_back n k (Receive a b c ∷ h) legal p = sent_back n k h legal.1 p
sent_back n k (Close a b ∷ h) legal p = sent_back n k h legal.1 p

none_left : (r : ℕ) (xs : List Content) → xs ≡ [] → drop r xs ≡ []
none_left zero xs none = none
none_left (suc r) xs none = ap (drop (suc r)) none

pub waiting_back : (n k : ℕ) (h : List Occurrence) → IsLegal n k h → (p : ℕ) → waiting h p p ≡ []
waiting_back n k h legal p = none_left (received h p p) (sent h p p) (sent_back n k h legal p)

-- the messages that packets carry are those of the goods
carried_messages : (base : List ℕ) (xs : List Packet) (ys : List Parcel) → AreCarried base xs ys → map (λ (x : Packet). x.message) xs ≡ map (λ (y : Parcel). y.message) ys
carried_messages base [] [] are = refl
carried_messages base [] (y ∷ ys) are = absurd are
carried_messages base (x ∷ xs) [] are = absurd are
carried_messages base (x ∷ xs) (y ∷ ys) are = ap (λ m. m ∷ map (λ (z : Packet). z.message) xs) are.0.message ∙ ap (λ ms. y.message ∷ ms) (carried_messages y.clock xs ys are.1)

-- The slots with the messages that wait for p, lane by lane.
module _ (n k p : ℕ) (h : List Occurrence) (packets : ℕ → List Packet) where
  -- the waiting packets of the lane from q
  abbrev run_packets : ℕ → List Packet
  run_packets q = take (length (waiting h q p)) (drop (received h q p) (packets q))

  abbrev run : ℕ → Slots
  run q = full_slots n k q p (received h q p) (run_packets q)

  abbrev runs : ℕ → ℕ → Slots
  runs q zero = []
  runs q (suc many) = run q ++ runs (suc q) many

  -- what holds for no slots and for each lane's slots
  each_run : (P : Slots → Type 0) → IsLegal n k h → 1 ≤ p → p ≤ n → (q : ℕ) → 1 ≤ q → q ≤ n → P [] → (AreTwo n q p → P (run q)) → P (run q)
  each_run P legal low high q least few none each = go (dec_eq q p)
    where
      go : Dec (q ≡ p) → P (run q)
      go (yes same) =
          let nothing : waiting h q p ≡ [] = subst (λ x. waiting h x p ≡ []) (sym same) (waiting_back n k h legal p) in
          let empty : run q ≡ [] = ap (λ (ms : List Content). full_slots n k q p (received h q p) (take (length ms) (drop (received h q p) (packets q)))) nothing in
          subst P (sym empty) none
      go (no ne) = each (least, few, low, high, ne)

  apart_runs : (j q many : ℕ) → ((a : ℕ) → q ≤ a → a < q + many → Apart j (run a)) → Apart j (runs q many)
  apart_runs j q zero each = tt
  apart_runs j q (suc many) each = Apart-append j (run q) (runs (suc q) many) (each q (omega arith) (omega arith)) (apart_runs j (suc q) many (λ a low high. each a (omega arith) (omega arith)))

  have_left : (q many : ℕ) → ((a : ℕ) → q ≤ a → a < q + many → map (λ (x : Packet). x.message) (run_packets a) ≡ waiting h a p) → HaveLeft n k p h q many (runs q many)
  have_left q zero each = tt
  have_left q (suc many) each = (run_packets q, runs (suc q) many, record { are = refl }, each q (omega arith) (omega arith), have_left (suc q) many (λ a low high. each a (omega arith) (omega arith)))

  home_runs : IsLegal n k h → 1 ≤ p → p ≤ n → 0 < k → (homes : Homes)
      → ((a : ℕ) → AreTwo n a p → (length (run_packets a) ≤ k) × ((i d : ℕ) (x : Packet) → d ≡ received h a p + i → get_elem? (run_packets a) i ≡ some x → get_elem? homes (slot_of n k a p d) ≡ some (some (Some x))))
      → (q many : ℕ) → 1 ≤ q → q + many ≤ suc n → AreHome homes (runs q many)
  home_runs legal low high some_place homes each q zero least few = tt
  home_runs legal low high some_place homes each q (suc many) least few =
      let later = home_runs legal low high some_place homes each (suc q) many (omega arith) (omega arith) in
      each_run (λ zs. AreHome homes (zs ++ runs (suc q) many)) legal low high q least (omega arith) later
      (λ two. home_run n k q p two some_place homes (run_packets q) (received h q p) (runs (suc q) many) (each q two).0 (each q two).1
      (λ d. apart_runs (slot_of n k q p d) (suc q) many (λ a first last. each_run (Apart (slot_of n k q p d)) legal low high a (omega arith) (omega arith) tt
      (λ these. apart_full n k a p (run_packets a) (received h a p) (slot_of n k q p d) (λ c _ _. slot_beside n k q p a p d c two these some_place (λ same _. absurd (omega (arith, same, first)))))))
      later)

-- The step.
module _ (n k : ℕ) (some_place : 0 < k) (s : State (Option Packet) (List Held)) (r : Kept n k s) (id : ℕ) (e : Held) (at : get_elem? s.views id ≡ some (e ∷ [])) (low : 1 ≤ e.number) (high : e.number ≤ n) (none : many_out e.hold ≡ 0) where
  abbrev its : ℕ → List Packet
  its a = r.packets a e.number

  abbrev out : Slots
  out = runs n k e.number e.seen its 1 n

  abbrev now : ℕ → List Packet
  now a = run_packets n k e.number e.seen its a

  fits : Fits n k r.log r.seats id 0 e
  fits = r.entries id 0 (e ∷ []) e at refl

  heard : (a : ℕ) → received r.log a e.number ≡ received e.seen a e.number
  heard a = same_received e.seen r.log a e.number (fits.made ∙ sym fits.own)

  unemptied : (a : ℕ) → r.seats.emptying a e.number ≡ 0
  unemptied a = (fits.seated low high).empties a ∙ none_emptying e.hold a none

  -- the lane's packets begin with the seen messages
  messages_of : (a : ℕ) → AreTwo n a e.number → (rest : List Content) × (map (λ (x : Packet). x.message) (its a) ≡ sent e.seen a e.number ++ rest)
  messages_of a two =
      let more = sent_begins e.seen r.log fits.seen a e.number in
      (more.0, carried_messages (zeros n) (its a) (goods n r.log a e.number) (r.lanes a e.number two).carried ∙ goods_messages n r.log a e.number ∙ more.1)

  now_messages : (a : ℕ) → AreTwo n a e.number → map (λ (x : Packet). x.message) (now a) ≡ waiting e.seen a e.number
  now_messages a two =
      let m : ℕ = received e.seen a e.number in
      let all = sent e.seen a e.number in
      let w = waiting e.seen a e.number in
      let whole = messages_of a two in
      sym (take-map (λ (x : Packet). x.message) (length w) (drop m (its a)))
      ∙ ap (take (length w)) (sym (drop-map (λ (x : Packet). x.message) m (its a)) ∙ ap (drop m) whole.1 ∙ drop-append-le m all whole.0 (received-le n k e.seen fits.legal a e.number))
      ∙ take_at w whole.0 (length w) refl

  now_many : (a : ℕ) → AreTwo n a e.number → length (now a) ≤ length (its a) - received e.seen a e.number
  now_many a two =
      let m : ℕ = received e.seen a e.number in
      omega (arith, length-take (length (waiting e.seen a e.number)) (drop m (its a)), length-drop m (its a))

  -- a place on a lane to the post, after those of the messages that leave
  apart_behind : (a : ℕ) → AreTwo n a e.number → (c : ℕ) → received e.seen a e.number + length (now a) ≤ c → c < received e.seen a e.number + k → Apart (slot_of n k a e.number c) out
  apart_behind a two c behind near = apart_runs n k e.number e.seen its (slot_of n k a e.number c) 1 n (λ b first last.
      each_run n k e.number e.seen its (Apart (slot_of n k a e.number c)) fits.legal low high b first (omega arith) tt (λ these. go b these (dec_eq a b)))
    where
      go : (b : ℕ) → AreTwo n b e.number → Dec (a ≡ b) → Apart (slot_of n k a e.number c) (run n k e.number e.seen its b)
      go b these (yes same) = subst (λ x. Apart (slot_of n k a e.number c) (run n k e.number e.seen its x)) same
          (apart_full n k a e.number (now a) (received e.seen a e.number) (slot_of n k a e.number c) (behind_window n k a e.number two some_place (received e.seen a e.number) c (length (now a)) behind near))
      go b these (no ne) = apart_full n k b e.number (now b) (received e.seen b e.number) (slot_of n k a e.number c) (λ d _ _. slot_beside n k a e.number b e.number c d two these some_place (λ same _. ne same))

  -- a place on another post's lane
  apart_other : (a b : ℕ) → AreTwo n a b → b ≢ e.number → (c : ℕ) → Apart (slot_of n k a b c) out
  apart_other a b two ne c = apart_runs n k e.number e.seen its (slot_of n k a b c) 1 n (λ d first last.
      each_run n k e.number e.seen its (Apart (slot_of n k a b c)) fits.legal low high d first (omega arith) tt
      (λ these. apart_full n k d e.number (now d) (received e.seen d e.number) (slot_of n k a b c) (λ i _ _. slot_beside n k a b d e.number c i two these some_place (λ _ same. ne same))))

  abbrev emptying_now : ℕ → ℕ → ℕ
  emptying_now a b = cond (b == e.number) (length (now a)) (r.seats.emptying a b)

  lane_here : (a : ℕ) → AreTwo n a e.number → IsLane (board_lane n k a e.number) r.log (lane_now (its a) (r.seats.filling a e.number) (length (now a))) s.words (taken_out s.homes out)
  lane_here a two =
      let old = r.lanes a e.number two in
      let many = now_many a two in
      let same = heard a in
      let zero_out = unemptied a in record {
        carried = old.carried;
        put_is = old.put_is;
        taken_is = old.taken_is;
        behind = omega (arith, old.behind, many, same);
        room = old.room;
        full = λ c x first there.
            let within = at_within (its a) c x there in
            taken_out-else s.homes out (slot_of n k a e.number c) (apart_behind a two c (omega (arith, first, same)) (omega (arith, within, old.room, same)))
            ∙ old.full c x (omega (arith, first, zero_out)) there;
        empty = λ c first last.
            taken_out-else s.homes out (slot_of n k a e.number c) (apart_behind a two c (omega (arith, first, many, same, old.behind)) (omega (arith, last, same)))
            ∙ old.empty c first last;
      }

  lanes_now : (a b : ℕ) → AreTwo n a b → IsLane (board_lane n k a b) r.log (lane_now (r.packets a b) (r.seats.filling a b) (emptying_now a b)) s.words (taken_out s.homes out)
  lanes_now a b two = go (dec_eq b e.number)
    where
      go : Dec (b ≡ e.number) → IsLane (board_lane n k a b) r.log (lane_now (r.packets a b) (r.seats.filling a b) (emptying_now a b)) s.words (taken_out s.homes out)
      go (yes same) =
          let here : emptying_now a b ≡ length (now a) = ap (λ its. cond its (length (now a)) (r.seats.emptying a b)) (eq-eqb b e.number same) in
          subst (λ (i : ℕ). IsLane (board_lane n k a b) r.log (lane_now (r.packets a b) (r.seats.filling a b) i) s.words (taken_out s.homes out)) (sym here)
          (subst (λ x. IsLane (board_lane n k a x) r.log (lane_now (r.packets a x) (r.seats.filling a x) (length (now a))) s.words (taken_out s.homes out)) (sym same) (lane_here a (subst (AreTwo n a) same two)))
      go (no ne) =
          let there : emptying_now a b ≡ r.seats.emptying a b = ap (λ its. cond its (length (now a)) (r.seats.emptying a b)) (ne_eqb b e.number ne) in
          lane_left n k r.log r.log a b (r.packets a b) (r.seats.filling a b) (r.seats.emptying a b) (r.seats.filling a b) (emptying_now a b) s.words s.words s.homes (taken_out s.homes out)
          (record { goods = refl; received = refl; closed = refl; put = refl; taken = refl; slots = λ c. taken_out-else s.homes out (slot_of n k a b c) (apart_other a b two ne c) })
          refl there (r.lanes a b two)

  kept_left : e.instances ≡ n → e.capacity ≡ k → Kept n k record { words = s.words; homes = taken_out s.homes out; views = set s.views id (note_of e ∷ []) }
  kept_left instances capacity =
      kept_step n k s r id e (note_of e) at low high r.log r.packets r.seats.filling emptying_now s.words (taken_out s.homes out) refl (taken_out-length s.homes out) r.legal (begins_same r.log) (λ b ne. refl) (λ a b ne. refl)
      (λ a b ne. ap (λ its. cond its (length (now a)) (r.seats.emptying a b)) (ne_eqb b e.number ne)) lanes_now
      (fits_note n k r.log (seating r.seats.seat r.seats.filling emptying_now) id 0 (note_of e) instances capacity (omega (arith, instances)) refl r.legal fits.seen fits.legal)

  at_home : (a : ℕ) → AreTwo n a e.number → (length (now a) ≤ k) × ((i d : ℕ) (x : Packet) → d ≡ received e.seen a e.number + i → get_elem? (now a) i ≡ some x → get_elem? s.homes (slot_of n k a e.number d) ≡ some (some (Some x)))
  at_home a two =
      let old = r.lanes a e.number two in
      let m : ℕ = received e.seen a e.number in
      let many = now_many a two in
      let same = heard a in
      let zero_out = unemptied a in (
        omega (arith, many, old.room, same),
        λ i d x place is. old.full d x (omega (arith, place, same, zero_out)) (ap (get_elem? (its a)) place ∙ sym (at_drop m (its a) i) ∙ at_front (length (waiting e.seen a e.number)) (drop m (its a)) i x is),
      )
    where
      at_front : (w : ℕ) (xs : List Packet) (i : ℕ) (x : Packet) → get_elem? (take w xs) i ≡ some x → get_elem? xs i ≡ some x
      at_front zero xs i x is = absurd (omega (arith, at_within (take 0 xs) i x is))
      at_front (suc w) [] i x is = is
      at_front (suc w) (y ∷ xs) zero x is = is
      at_front (suc w) (y ∷ xs) (suc i) x is = at_front w xs i x is

pub leaves : (n k : ℕ) → 0 < k → (slots id i : ℕ) (e : Held) → e.instances ≡ n → e.capacity ≡ k → 1 ≤ e.number → e.number ≤ n → many_out e.hold ≡ 0
    → Allows (Kept n k) slots id (e ∷ [], []) i (λ x. x) (λ x w. HaveLeft n k e.number e.seen 1 n w.1)
leaves n k some_place slots id i e instances capacity low high none s r size at bound =
    let legal = fits n k some_place s r id e at low high none in
    let went : Slots = out n k some_place s r id e at low high none in
    let same : ◌≡◌ {A = List ℕ × Homes} (s.words, taken_out s.homes went) (set s.words i (get_or s.words i 0), homes_after s.homes [] (takes_all went)) = λ t. (sym (set-get_or s.words i 0) t, sym (takes_all-homes s.homes [] went) t) in (
      note_of e ∷ [],
      takes_all went,
      valid_home s.homes went (home_runs n k e.number e.seen (its n k some_place s r id e at low high none) legal.legal low high some_place s.homes (at_home n k some_place s r id e at low high none) 1 n (omega arith) (omega arith)),
      subst (λ z. Kept n k record { words = z.0; homes = z.1; views = set s.views id (note_of e ∷ []) }) same (kept_left n k some_place s r id e at low high none instances capacity),
      subst (λ zs. HaveLeft n k e.number e.seen 1 n zs) (sym (takes_all-carried went))
          (have_left n k e.number e.seen (its n k some_place s r id e at low high none) 1 n (λ a first last. messages_there a first last (dec_eq a e.number))),
    )
  where
    messages_there : (a : ℕ) → 1 ≤ a → a < 1 + n → Dec (a ≡ e.number) → map (λ (x : Packet). x.message) (now n k some_place s r id e at low high none a) ≡ waiting e.seen a e.number
    messages_there a first last (yes same) =
        let legal = fits n k some_place s r id e at low high none in
        let nothing : waiting e.seen a e.number ≡ [] = subst (λ x. waiting e.seen x e.number ≡ []) (sym same) (waiting_back n k e.seen legal.legal e.number) in
        ap (λ (ms : List Content). map (λ (x : Packet). x.message) (take (length ms) (drop (received e.seen a e.number) (r.packets a e.number)))) nothing ∙ sym nothing
    messages_there a first last (no ne) = now_messages n k some_place s r id e at low high none a (first, (let le : a ≤ n = omega arith in le), low, high, ne)
