-- What a legal history left, carried over: the carried history is legal too, and leaves each lane as it was.
use Rattle.std.proofs.Common.{◌≡◌, ℕ, ◌+◌, ◌<◌, ◌≤◌, ◌==◌, ◌||◌, ⊎_elim, Bool, true, false, cond, List, [], ◌∷◌, ◌++◌, length, map, drop, refl, sym, ap, ◌∙◌, subst, subst₂, arith, append-nil, length-append, length-drop}
use Rattle.std.specs.Prelude.{filter}
use Rattle.std.proofs.lemmas.Bool.{false≢true, true≢false, eqb-true, and_parts}
use Rattle.std.proofs.lemmas.Bool.Decides.{leb_tells}
use Rattle.std.proofs.lemmas.List.{length_push}
use Rattle.chart.specs.declared.history.Occurrence.{Occurrence}
use Rattle.chart.specs.declared.history.Occurrence.TheVariants.{Send, Receive, Close}
use Rattle.chart.specs.declared.line.TheConstants.{MAX_EVENTS}
use Rattle.chart.specs.Messages.{Content}
use Rattle.chart.specs.Events.{send_event}
use Rattle.chart.specs.Histories.{is_lane, sent, received, waiting, is_closed, line_gets, chart_of, AreTwo, IsLegal}
use Rattle.chart.proofs.Histories.{is_lane-same}
use Rattle.board.specs.Gathering.{LaneEnds, lane_to, all_lanes, is_waiting, waiting_lanes, is_closed_lane, closed_lanes, LeftView, left_on}
use Rattle.board.specs.LongRuns.CarriedHistories.{sends_again, all_again, carried_history, sent_again_by, HaveSameLanes}
use Rattle.board.proofs.LongRunsLemmas.LaneCounts.{is_it, one_if, times, one_there, none_there, lane_is, once, never_twice, times-filter}
use Rattle.board.proofs.LongRunsLemmas.PostedSends.{again_first, sent-sends, sent-closes, received-closes, closed-none, closed-some, line-again, line-closes, ArePosted, posted-sends, received-posted, open-posted, legal-posted, AreLanes, legal-closes}

-- In any legal history, a lane that was used is between two of its instances.

pub two-sent : (n k : ℕ) (h : List Occurrence) → IsLegal n k h → (q p : ℕ) → 0 < length (sent h q p) → AreTwo n q p
two-sent n k [] legal q p some = absurd (omega (arith, some))
two-sent n k (Send a b m ∷ h) legal q p some = go (is_lane a b q p) refl some (two-sent n k h legal.1 q p)
  where
    go : (its : Bool) → is_lane a b q p ≡ its → 0 < length (cond its (sent h q p ++ m ∷ []) (sent h q p)) → (0 < length (sent h q p) → AreTwo n q p) → AreTwo n q p
    go true same some before = let ends = and_parts (a == q) (b == p) same in subst₂ (λ x y. AreTwo n x y) (eqb-true a q ends.0) (eqb-true b p ends.1) legal.0.0
    go false same some before = before some
two-sent n k (Receive a b c ∷ h) legal q p some = two-sent n k h legal.1 q p some
two-sent n k (Close a b ∷ h) legal q p some = two-sent n k h legal.1 q p some

pub two-closed : (n k : ℕ) (h : List Occurrence) → IsLegal n k h → (q p : ℕ) → is_closed h q p ≡ true → AreTwo n q p
two-closed n k [] legal q p closed = absurd (false≢true closed)
two-closed n k (Send a b m ∷ h) legal q p closed = two-closed n k h legal.1 q p closed
two-closed n k (Receive a b c ∷ h) legal q p closed = two-closed n k h legal.1 q p closed
two-closed n k (Close a b ∷ h) legal q p closed = go (is_lane a b q p) refl closed (two-closed n k h legal.1 q p)
  where
    go : (its : Bool) → is_lane a b q p ≡ its → its || is_closed h q p ≡ true → (is_closed h q p ≡ true → AreTwo n q p) → AreTwo n q p
    go true same closed before = let ends = and_parts (a == q) (b == p) same in subst₂ (λ x y. AreTwo n x y) (eqb-true a q ends.0) (eqb-true b p ends.1) legal.0.0
    go false same closed before = before closed

-- no more messages wait on a lane than it has slots
sent-few : (n k : ℕ) (h : List Occurrence) → IsLegal n k h → (q p : ℕ) → length (sent h q p) ≤ received h q p + k
sent-few n k [] legal q p = omega arith
sent-few n k (Send a b m ∷ h) legal q p = go (is_lane a b q p) refl (sent-few n k h legal.1 q p)
  where
    go : (its : Bool) → is_lane a b q p ≡ its → length (sent h q p) ≤ received h q p + k → length (cond its (sent h q p ++ m ∷ []) (sent h q p)) ≤ received h q p + k
    go true same before =
        let ends = and_parts (a == q) (b == p) same in
        let slots : length (waiting h q p) < k = subst₂ (λ x y. length (waiting h x y) < k) (eqb-true a q ends.0) (eqb-true b p ends.1) legal.0.2 in
        omega (arith, slots, length-drop (received h q p) (sent h q p), length_push (sent h q p) m)
    go false same before = before
sent-few n k (Receive a b c ∷ h) legal q p = go (is_lane b a q p) (sent-few n k h legal.1 q p)
  where
    go : (its : Bool) → length (sent h q p) ≤ received h q p + k → length (sent h q p) ≤ cond its (received h q p + 1) (received h q p) + k
    go true before = omega (arith, before)
    go false before = before
sent-few n k (Close a b ∷ h) legal q p = sent-few n k h legal.1 q p

pub waiting-few : (n k : ℕ) (h : List Occurrence) → IsLegal n k h → (q p : ℕ) → length (waiting h q p) ≤ k
waiting-few n k h legal q p = let few = sent-few n k h legal q p in omega (arith, few, length-drop (received h q p) (sent h q p))

waiting-le : (h : List Occurrence) (q p : ℕ) → length (waiting h q p) ≤ length (sent h q p)
waiting-le h q p = omega (arith, length-drop (received h q p) (sent h q p))

some-waits : (h : List Occurrence) (lane : LaneEnds) → is_waiting h lane ≡ true → 0 < length (waiting h lane.sender lane.receiver)
some-waits h lane some = ⊎_elim (λ its. omega (arith, its.1)) (λ its. absurd (true≢false (sym some ∙ its.0))) (leb_tells 1 (length (waiting h lane.sender lane.receiver)))

none-waits : (h : List Occurrence) (q p : ℕ) → is_waiting h (lane_to q p) ≡ false → waiting h q p ≡ []
none-waits h q p none = go (waiting h q p) (⊎_elim (λ its. absurd (true≢false (sym its.0 ∙ none))) (λ its. omega (arith, its.1)) (leb_tells 1 (length (waiting h q p))))
  where
    go : (ms : List Content) → length ms ≡ 0 → ms ≡ []
    go [] empty = refl
    go (m ∷ ms) empty = absurd (omega (arith, empty))

-- What an instance sent on several lanes, each listed once, is on its line.

abbrev sent_over : List Occurrence → ℕ → List LaneEnds → ℕ
sent_over h p [] = 0
sent_over h p (lane ∷ lanes) = cond (lane.sender == p) (length (sent h lane.sender lane.receiver)) 0 + sent_over h p lanes

sent_over-none : (p : ℕ) (lanes : List LaneEnds) → sent_over [] p lanes ≡ 0
sent_over-none p [] = refl
sent_over-none p (lane ∷ lanes) = go (lane.sender == p) (sent_over-none p lanes)
  where
    go : (mine : Bool) → sent_over [] p lanes ≡ 0 → cond mine (length {A = Content} []) 0 + sent_over [] p lanes ≡ 0
    go true before = omega (arith, before)
    go false before = omega (arith, before)

sent_over-same : (h g : List Occurrence) (p : ℕ) (lanes : List LaneEnds) → ((q r : ℕ) → sent g q r ≡ sent h q r) → sent_over g p lanes ≡ sent_over h p lanes
sent_over-same h g p [] same = refl
sent_over-same h g p (lane ∷ lanes) same =
    let before = sent_over-same h g p lanes same in
    let here = ap (λ (ms : List Content). cond (lane.sender == p) (length ms) 0) (same lane.sender lane.receiver) in
    omega (arith, before, here)

-- a send counts once for each time that its lane is in the list
module _ (h : List Occurrence) (a b : ℕ) (m : Content) (p : ℕ) where
  one_send : (lane : LaneEnds) → cond (lane.sender == p) (length (sent (Send a b m ∷ h) lane.sender lane.receiver)) 0 ≤ cond (lane.sender == p) (length (sent h lane.sender lane.receiver)) 0 + cond (a == p) (one_if (is_it a b lane)) 0
  one_send lane = go (is_lane a b lane.sender lane.receiver) refl
    where
      s : ℕ
      s = lane.sender

      r : ℕ
      r = lane.receiver

      other : (mine its : Bool) → cond mine (length (sent h s r)) 0 ≤ cond mine (length (sent h s r)) 0 + cond (a == p) (one_if its) 0
      other mine its = omega arith

      here : (mine : Bool) → cond mine (length (sent h s r ++ m ∷ [])) 0 ≤ cond mine (length (sent h s r)) 0 + cond mine 1 0
      here true = omega (arith, length_push (sent h s r) m)
      here false = omega arith

      go : (its : Bool) → is_lane a b s r ≡ its → cond (s == p) (length (cond its (sent h s r ++ m ∷ []) (sent h s r))) 0 ≤ cond (s == p) (length (sent h s r)) 0 + cond (a == p) (one_if (is_it a b lane)) 0
      go true same =
          let ends = and_parts (a == s) (b == r) same in
          let from : a ≡ s = eqb-true a s ends.0 in
          let to : b ≡ r = eqb-true b r ends.1 in
          let one : one_if (is_it a b lane) ≡ 1 = one_there a b lane (subst₂ (λ x y. is_lane s r x y ≡ true) (sym from) (sym to) (is_lane-same s r)) in
          let grown = here (s == p) in
          let same_one : cond (a == p) (one_if (is_it a b lane)) 0 ≡ cond (s == p) 1 0 = ap (λ (x : ℕ). cond (x == p) (one_if (is_it a b lane)) 0) from ∙ ap (λ (x : ℕ). cond (s == p) x 0) one in
          omega (arith, grown, same_one)
      go false same = other (s == p) (is_it a b lane)

  sent_over-send : (lanes : List LaneEnds) → sent_over (Send a b m ∷ h) p lanes ≤ sent_over h p lanes + cond (a == p) (times a b lanes) 0
  sent_over-send [] = omega arith
  sent_over-send (lane ∷ lanes) = sum (a == p) (one_send lane) (sent_over-send lanes)
    where
      old : ℕ
      old = cond (lane.sender == p) (length (sent h lane.sender lane.receiver)) 0

      new : ℕ
      new = cond (lane.sender == p) (length (sent (Send a b m ∷ h) lane.sender lane.receiver)) 0

      sum : (mine : Bool) → new ≤ old + cond mine (one_if (is_it a b lane)) 0 → sent_over (Send a b m ∷ h) p lanes ≤ sent_over h p lanes + cond mine (times a b lanes) 0
          → new + sent_over (Send a b m ∷ h) p lanes ≤ old + sent_over h p lanes + cond mine (one_if (is_it a b lane) + times a b lanes) 0
      sum true here rest = omega (arith, here, rest)
      sum false here rest = omega (arith, here, rest)

sent_over-le : (n k : ℕ) (h : List Occurrence) (p : ℕ) (lanes : List LaneEnds) → ((q r : ℕ) → times q r lanes ≤ 1) → sent_over h p lanes ≤ length (chart_of h p)
sent_over-le n k [] p lanes few = let none = sent_over-none p lanes in omega (arith, none)
sent_over-le n k (Send a b m ∷ h) p lanes few = go (a == p) (sent_over-send h a b m p lanes) (sent_over-le n k h p lanes few)
  where
    go : (mine : Bool) → sent_over (Send a b m ∷ h) p lanes ≤ sent_over h p lanes + cond mine (times a b lanes) 0 → sent_over h p lanes ≤ length (chart_of h p) → sent_over (Send a b m ∷ h) p lanes ≤ length (chart_of h p ++ cond mine (send_event b m.name ∷ []) [])
    go true more before = let once_at_most = few a b in omega (arith, more, before, once_at_most, length_push (chart_of h p) (send_event b m.name))
    go false more before = omega (arith, more, before, length-append (chart_of h p) [])
sent_over-le n k (Receive a b c ∷ h) p lanes few =
    let before = sent_over-le n k h p lanes few in
    let same = sent_over-same h (Receive a b c ∷ h) p lanes (λ q r. refl) in
    omega (arith, before, same, length-append (chart_of h p) (line_gets h p (Receive a b c)))
sent_over-le n k (Close a b ∷ h) p lanes few =
    let before = sent_over-le n k h p lanes few in
    let same = sent_over-same h (Close a b ∷ h) p lanes (λ q r. refl) in
    omega (arith, before, same, length-append (chart_of h p) [])

-- so an instance sends no more of these messages again than its line has sends
again-le : (h : List Occurrence) (p : ℕ) (kind : LaneEnds → Bool) (lanes : List LaneEnds) → sent_again_by p (map (left_on h) (filter kind lanes)) ≤ sent_over h p lanes
again-le h p kind [] = omega arith
again-le h p kind (lane ∷ lanes) = go (kind lane) (lane.sender == p) (again-le h p kind lanes)
  where
    go : (kept mine : Bool) → sent_again_by p (map (left_on h) (filter kind lanes)) ≤ sent_over h p lanes
        → sent_again_by p (map (left_on h) (cond kept (lane ∷ filter kind lanes) (filter kind lanes))) ≤ cond (lane.sender == p) (length (sent h lane.sender lane.receiver)) 0 + sent_over h p lanes
    go true mine before =
        let here = its (lane.sender == p) in omega (arith, here, before)
      where
        its : (mine : Bool) → cond mine (length (waiting h lane.sender lane.receiver)) 0 ≤ cond mine (length (sent h lane.sender lane.receiver)) 0
        its true = waiting-le h lane.sender lane.receiver
        its false = omega arith
    go false mine before = omega (arith, before)

-- What is sent again on a lane.

again-none : (h : List Occurrence) (q p : ℕ) (lanes : List LaneEnds) (g : List Occurrence) → times q p lanes ≡ 0 → sent (all_again (map (left_on h) lanes) ++ g) q p ≡ sent g q p
again-none h q p [] g none = refl
again-none h q p (lane ∷ lanes) g none =
    ap (λ f. sent f q p) (again_first (left_on h lane) (map (left_on h) lanes) g)
    ∙ again-none h q p lanes (sends_again (left_on h lane) ++ g) (omega (arith, none))
    ∙ sent-sends lane.sender lane.receiver q p (waiting h lane.sender lane.receiver) g ∙ go (is_it q p lane) refl
  where
    go : (its : Bool) → is_it q p lane ≡ its → sent g q p ++ cond its (waiting h lane.sender lane.receiver) [] ≡ sent g q p
    go true same = let one = one_there q p lane same in absurd (omega (arith, none, one))
    go false same = append-nil (sent g q p)

again-once : (h : List Occurrence) (q p : ℕ) (lanes : List LaneEnds) (g : List Occurrence) → times q p lanes ≡ 1 → sent (all_again (map (left_on h) lanes) ++ g) q p ≡ sent g q p ++ waiting h q p
again-once h q p [] g one = absurd (omega (arith, one))
again-once h q p (lane ∷ lanes) g one =
    ap (λ f. sent f q p) (again_first (left_on h lane) (map (left_on h) lanes) g) ∙ go (is_it q p lane) refl (λ rest. again-once h q p lanes next rest)
  where
    next : List Occurrence
    next = sends_again (left_on h lane) ++ g

    front : sent next q p ≡ sent g q p ++ cond (is_it q p lane) (waiting h lane.sender lane.receiver) []
    front = sent-sends lane.sender lane.receiver q p (waiting h lane.sender lane.receiver) g

    go : (its : Bool) → is_it q p lane ≡ its → (times q p lanes ≡ 1 → sent (all_again (map (left_on h) lanes) ++ next) q p ≡ sent next q p ++ waiting h q p) → sent (all_again (map (left_on h) lanes) ++ next) q p ≡ sent g q p ++ waiting h q p
    go true same later =
        let here = one_there q p lane same in
        again-none h q p lanes next (omega (arith, one, here))
        ∙ front ∙ ap (λ its. sent g q p ++ cond its (waiting h lane.sender lane.receiver) []) same
        ∙ ap (λ (it : LaneEnds). sent g q p ++ waiting h it.sender it.receiver) (lane_is q p lane same)
    go false same later =
        let none = none_there q p lane same in
        later (omega (arith, one, none))
        ∙ ap (λ ms. ms ++ waiting h q p) (front ∙ ap (λ its. sent g q p ++ cond its (waiting h lane.sender lane.receiver) []) same ∙ append-nil (sent g q p))

-- The carried history of what a legal one left, on lanes of at least as many slots.
module _ (n slots k : ℕ) (h : List Occurrence) (legal : IsLegal n slots h) (within : slots ≤ k) (short : (p : ℕ) → length (chart_of h p) ≤ MAX_EVENTS) where
  abbrev left : List LeftView
  left = map (left_on h) (waiting_lanes n h)

  abbrev again : List Occurrence
  again = all_again left

  times_waiting : (q p : ℕ) → times q p (waiting_lanes n h) ≡ cond (is_waiting h (lane_to q p)) (times q p (all_lanes n)) 0
  times_waiting q p = times-filter (is_waiting h) q p (all_lanes n)

  times_closed : (q p : ℕ) → times q p (closed_lanes n h) ≡ cond (is_closed h q p) (times q p (all_lanes n)) 0
  times_closed q p = times-filter (is_closed_lane h) q p (all_lanes n)

  whole : again ++ [] ≡ again
  whole = append-nil again

  -- the messages sent again on a lane are those that waited there
  sent_again : (q p : ℕ) → sent again q p ≡ waiting h q p
  sent_again q p = ap (λ f. sent f q p) (sym whole) ∙ go (is_waiting h (lane_to q p)) refl
    where
      go : (some : Bool) → is_waiting h (lane_to q p) ≡ some → sent (again ++ []) q p ≡ waiting h q p
      go true some =
          let waits = some-waits h (lane_to q p) some in
          let two = two-sent n slots h legal q p (let less = waiting-le h q p in omega (arith, waits, less)) in
          again-once h q p (waiting_lanes n h) [] (times_waiting q p ∙ ap (λ b. cond b (times q p (all_lanes n)) 0) some ∙ once q p n two.0 two.1 two.2 two.3)
      go false none =
          again-none h q p (waiting_lanes n h) [] (times_waiting q p ∙ ap (λ b. cond b (times q p (all_lanes n)) 0) none) ∙ sym (none-waits h q p none)

  posted : (lanes : List LaneEnds) (g : List Occurrence) → ArePosted n g → ArePosted n (all_again (map (left_on h) (filter (is_waiting h) lanes)) ++ g)
  posted [] g before = before
  posted (lane ∷ lanes) g before = go (is_waiting h lane) refl (λ f its. posted lanes f its)
    where
      go : (some : Bool) → is_waiting h lane ≡ some → ((f : List Occurrence) → ArePosted n f → ArePosted n (all_again (map (left_on h) (filter (is_waiting h) lanes)) ++ f))
          → ArePosted n (all_again (map (left_on h) (cond some (lane ∷ filter (is_waiting h) lanes) (filter (is_waiting h) lanes))) ++ g)
      go true some later =
          let waits = some-waits h lane some in
          let two = two-sent n slots h legal lane.sender lane.receiver (let less = waiting-le h lane.sender lane.receiver in omega (arith, waits, less)) in
          subst (ArePosted n) (sym (again_first (left_on h lane) (map (left_on h) (filter (is_waiting h) lanes)) g))
          (later (sends_again (left_on h lane) ++ g) (posted-sends n lane.sender lane.receiver (waiting h lane.sender lane.receiver) g two before))
      go false none later = later g before

  again_posted : ArePosted n again
  again_posted = subst (ArePosted n) whole (posted (all_lanes n) [] tt)

  pub again_few : (p : ℕ) → sent_again_by p left ≤ MAX_EVENTS
  again_few p =
      let one = again-le h p (is_waiting h) (all_lanes n) in
      let two = sent_over-le n slots h p (all_lanes n) (λ q r. never_twice q r n) in
      let line = short p in
      omega (arith, one, two, line)

  again_line : (p : ℕ) → length (chart_of again p) ≡ sent_again_by p left
  again_line p = let its = line-again left p [] in ap (λ f. length (chart_of f p)) (sym whole) ∙ omega (arith, its)

  again_legal : IsLegal n k again
  again_legal = legal-posted n k again again_posted
      (λ q p. let few = waiting-few n slots h legal q p in omega (arith, few, within, ap length (sent_again q p)))
      (λ p. let few = again_few p in omega (arith, few, again_line p))

  are_lanes : (lanes : List LaneEnds) → AreLanes n (filter (is_closed_lane h) lanes)
  are_lanes [] = tt
  are_lanes (lane ∷ lanes) = go (is_closed_lane h lane) refl (are_lanes lanes)
    where
      go : (its : Bool) → is_closed_lane h lane ≡ its → AreLanes n (filter (is_closed_lane h) lanes) → AreLanes n (cond its (lane ∷ filter (is_closed_lane h) lanes) (filter (is_closed_lane h) lanes))
      go true closed before = (two-closed n slots h legal lane.sender lane.receiver closed, before)
      go false closed before = before

  closed_once : (q p : ℕ) → times q p (closed_lanes n h) ≤ 1
  closed_once q p = go (is_closed h q p) (times_closed q p)
    where
      go : (its : Bool) → times q p (closed_lanes n h) ≡ cond its (times q p (all_lanes n)) 0 → times q p (closed_lanes n h) ≤ 1
      go true same = let few = never_twice q p n in omega (arith, same, few)
      go false same = omega (arith, same)

  pub carried-legal : IsLegal n k (carried_history left (closed_lanes n h))
  carried-legal = legal-closes n k (closed_lanes n h) again (are_lanes (all_lanes n)) closed_once
      (λ q p closed. absurd (false≢true (sym (open-posted n again again_posted q p) ∙ closed))) again_legal

  pub carried-received : (q p : ℕ) → received (carried_history left (closed_lanes n h)) q p ≡ 0
  carried-received q p = received-closes (closed_lanes n h) q p again ∙ received-posted n again again_posted q p

  pub carried-line : (p : ℕ) → length (chart_of (carried_history left (closed_lanes n h)) p) ≡ sent_again_by p left
  carried-line p = ap length (line-closes (closed_lanes n h) p again) ∙ again_line p

  kept_closed : (q p : ℕ) → is_closed (carried_history left (closed_lanes n h)) q p ≡ is_closed h q p
  kept_closed q p = go (is_closed h q p) refl
    where
      go : (its : Bool) → is_closed h q p ≡ its → is_closed (carried_history left (closed_lanes n h)) q p ≡ is_closed h q p
      go true closed =
          let two = two-closed n slots h legal q p closed in
          let one : times q p (closed_lanes n h) ≡ 1 = times_closed q p ∙ ap (λ b. cond b (times q p (all_lanes n)) 0) closed ∙ once q p n two.0 two.1 two.2 two.3 in
          closed-some (closed_lanes n h) q p again (omega (arith, one)) ∙ sym closed
      go false closed =
          closed-none (closed_lanes n h) q p again (times_closed q p ∙ ap (λ b. cond b (times q p (all_lanes n)) 0) closed) ∙ open-posted n again again_posted q p ∙ sym closed

  pub same-lanes : HaveSameLanes h (carried_history left (closed_lanes n h))
  same-lanes = record {
    waits = λ q p.
        ap (λ (i : ℕ). drop i (sent (carried_history left (closed_lanes n h)) q p)) (carried-received q p)
        ∙ sent-closes (closed_lanes n h) q p again ∙ sent_again q p;
    closed = kept_closed;
  }

-- At first nothing waits and nothing is closed.

pub nothing-waits : (lanes : List LaneEnds) → filter (is_waiting []) lanes ≡ []
nothing-waits [] = refl
nothing-waits (lane ∷ lanes) = nothing-waits lanes

pub nothing-closed : (lanes : List LaneEnds) → filter (is_closed_lane []) lanes ≡ []
nothing-closed [] = refl
nothing-closed (lane ∷ lanes) = nothing-closed lanes

-- How many messages an instance sends again is a sum over the lanes.

pub again_by-append : (p : ℕ) (xs ys : List LeftView) → sent_again_by p (xs ++ ys) ≡ sent_again_by p xs + sent_again_by p ys
again_by-append p [] ys = omega arith
again_by-append p (x ∷ xs) ys = let before = again_by-append p xs ys in omega (arith, before)
