-- Histories that end with sends of messages that were left, and with closes.
use Rattle.std.proofs.Common.{◌≡◌, ℕ, ◌+◌, ◌≤◌, ◌==◌, ◌||◌, Bool, true, false, cond, List, [], ◌∷◌, ◌++◌, length, map, refl, sym, ap, ◌∙◌, subst, arith, append_assoc, append-nil, length-append, length-drop}
use Rattle.std.proofs.lemmas.Bool.{eq-eqb}
use Rattle.std.proofs.lemmas.List.{reverse-append, length_push}
use Rattle.chart.specs.declared.history.Occurrence.{Occurrence}
use Rattle.chart.specs.declared.history.Occurrence.TheVariants.{Send, Receive, Close}
use Rattle.chart.specs.declared.event.Event.{Event}
use Rattle.chart.specs.declared.line.TheConstants.{MAX_EVENTS}
use Rattle.chart.specs.Messages.{Content}
use Rattle.chart.specs.Events.{send_event}
use Rattle.chart.specs.Histories.{is_lane, sent, received, is_closed, line_gets, chart_of, AreTwo, IsLegal}
use Rattle.chart.proofs.Histories.{is_lane-same, sent_begins-le, closed_begins}
use Rattle.board.specs.Gathering.{LaneEnds, LeftView}
use Rattle.board.specs.Sending.{sends_of}
use Rattle.board.specs.LongRuns.CarriedHistories.{sends_again, all_again, closes_again, sent_again_by}
use Rattle.board.proofs.LongRunsLemmas.LaneCounts.{is_it, one_if, times, one_there, none_there}

-- One more send or close at the front of the list is the first to come.

pub sends_first : (s r : ℕ) (m : Content) (ms : List Content) (h : List Occurrence) → sends_of s r (m ∷ ms) ++ h ≡ sends_of s r ms ++ Send s r m ∷ h
sends_first s r m ms h =
    ap (λ es. es ++ h) (reverse-append (Send s r m ∷ []) (map (Send s r) ms)) ∙ append_assoc (sends_of s r ms) (Send s r m ∷ []) h

abbrev close_of : LaneEnds → Occurrence
close_of lane = Close lane.sender lane.receiver

pub closes_first : (lane : LaneEnds) (lanes : List LaneEnds) (h : List Occurrence) → closes_again (lane ∷ lanes) ++ h ≡ closes_again lanes ++ Close lane.sender lane.receiver ∷ h
closes_first lane lanes h =
    ap (λ es. es ++ h) (reverse-append (close_of lane ∷ []) (map close_of lanes)) ∙ append_assoc (closes_again lanes) (close_of lane ∷ []) h

pub again_first : (left : LeftView) (more : List LeftView) (h : List Occurrence) → all_again (left ∷ more) ++ h ≡ all_again more ++ (sends_again left ++ h)
again_first left more h = append_assoc (all_again more) (sends_again left) h

-- One in the middle of the list comes in the middle.

pub sends_split : (s r : ℕ) (xs rest : List Content) (m : Content) (h : List Occurrence) → sends_of s r (xs ++ m ∷ rest) ++ h ≡ sends_of s r rest ++ (Send s r m ∷ (sends_of s r xs ++ h))
sends_split s r [] rest m h = sends_first s r m rest h
sends_split s r (x ∷ xs) rest m h =
    sends_first s r x (xs ++ m ∷ rest) h ∙ sends_split s r xs rest m (Send s r x ∷ h)
    ∙ ap (λ es. sends_of s r rest ++ (Send s r m ∷ es)) (sym (sends_first s r x xs h))

pub closes_split : (xs rest : List LaneEnds) (lane : LaneEnds) (h : List Occurrence) → closes_again (xs ++ lane ∷ rest) ++ h ≡ closes_again rest ++ (Close lane.sender lane.receiver ∷ (closes_again xs ++ h))
closes_split [] rest lane h = closes_first lane rest h
closes_split (x ∷ xs) rest lane h =
    closes_first x (xs ++ lane ∷ rest) h ∙ closes_split xs rest lane (Close x.sender x.receiver ∷ h)
    ∙ ap (λ es. closes_again rest ++ (Close lane.sender lane.receiver ∷ es)) (sym (closes_first x xs h))

pub again_split : (xs rest : List LeftView) (left : LeftView) (h : List Occurrence) → all_again (xs ++ left ∷ rest) ++ h ≡ all_again rest ++ (sends_again left ++ (all_again xs ++ h))
again_split [] rest left h = again_first left rest h
again_split (x ∷ xs) rest left h =
    again_first x (xs ++ left ∷ rest) h ∙ again_split xs rest left (sends_again x ++ h)
    ∙ ap (λ es. all_again rest ++ (sends_again left ++ es)) (sym (again_first x xs h))

-- What is sent on a lane.

pub sent-sends : (s r q p : ℕ) (ms : List Content) (h : List Occurrence) → sent (sends_of s r ms ++ h) q p ≡ sent h q p ++ cond (is_lane s r q p) ms []
sent-sends s r q p [] h = go (is_lane s r q p)
  where
    go : (its : Bool) → sent h q p ≡ sent h q p ++ cond its [] []
    go true = sym (append-nil (sent h q p))
    go false = sym (append-nil (sent h q p))
sent-sends s r q p (m ∷ ms) h = ap (λ g. sent g q p) (sends_first s r m ms h) ∙ sent-sends s r q p ms (Send s r m ∷ h) ∙ go (is_lane s r q p)
  where
    go : (its : Bool) → cond its (sent h q p ++ m ∷ []) (sent h q p) ++ cond its ms [] ≡ sent h q p ++ cond its (m ∷ ms) []
    go true = append_assoc (sent h q p) (m ∷ []) ms
    go false = refl

pub sent-closes : (lanes : List LaneEnds) (q p : ℕ) (h : List Occurrence) → sent (closes_again lanes ++ h) q p ≡ sent h q p
sent-closes [] q p h = refl
sent-closes (lane ∷ lanes) q p h = ap (λ g. sent g q p) (closes_first lane lanes h) ∙ sent-closes lanes q p (Close lane.sender lane.receiver ∷ h)

-- Nothing is received.

pub received-sends : (s r q p : ℕ) (ms : List Content) (h : List Occurrence) → received (sends_of s r ms ++ h) q p ≡ received h q p
received-sends s r q p [] h = refl
received-sends s r q p (m ∷ ms) h = ap (λ g. received g q p) (sends_first s r m ms h) ∙ received-sends s r q p ms (Send s r m ∷ h)

pub received-again : (left : List LeftView) (q p : ℕ) (h : List Occurrence) → received (all_again left ++ h) q p ≡ received h q p
received-again [] q p h = refl
received-again (left ∷ more) q p h =
    ap (λ g. received g q p) (again_first left more h) ∙ received-again more q p (sends_again left ++ h) ∙ received-sends left.lane.sender left.lane.receiver q p left.messages h

pub received-closes : (lanes : List LaneEnds) (q p : ℕ) (h : List Occurrence) → received (closes_again lanes ++ h) q p ≡ received h q p
received-closes [] q p h = refl
received-closes (lane ∷ lanes) q p h = ap (λ g. received g q p) (closes_first lane lanes h) ∙ received-closes lanes q p (Close lane.sender lane.receiver ∷ h)

-- What is closed.

pub closed-sends : (s r q p : ℕ) (ms : List Content) (h : List Occurrence) → is_closed (sends_of s r ms ++ h) q p ≡ is_closed h q p
closed-sends s r q p [] h = refl
closed-sends s r q p (m ∷ ms) h = ap (λ g. is_closed g q p) (sends_first s r m ms h) ∙ closed-sends s r q p ms (Send s r m ∷ h)

pub closed-again : (left : List LeftView) (q p : ℕ) (h : List Occurrence) → is_closed (all_again left ++ h) q p ≡ is_closed h q p
closed-again [] q p h = refl
closed-again (left ∷ more) q p h =
    ap (λ g. is_closed g q p) (again_first left more h) ∙ closed-again more q p (sends_again left ++ h) ∙ closed-sends left.lane.sender left.lane.receiver q p left.messages h

-- a lane that isn't in the list stays as it was
pub closed-none : (lanes : List LaneEnds) (q p : ℕ) (h : List Occurrence) → times q p lanes ≡ 0 → is_closed (closes_again lanes ++ h) q p ≡ is_closed h q p
closed-none [] q p h none = refl
closed-none (lane ∷ lanes) q p h none =
    ap (λ g. is_closed g q p) (closes_first lane lanes h) ∙ closed-none lanes q p (Close lane.sender lane.receiver ∷ h) (omega (arith, none)) ∙ go (is_it q p lane) refl
  where
    go : (its : Bool) → is_it q p lane ≡ its → its || is_closed h q p ≡ is_closed h q p
    go true same = let one = one_there q p lane same in absurd (omega (arith, none, one))
    go false same = refl

-- a lane in the list is closed
pub closed-some : (lanes : List LaneEnds) (q p : ℕ) (h : List Occurrence) → 1 ≤ times q p lanes → is_closed (closes_again lanes ++ h) q p ≡ true
closed-some [] q p h some = absurd (omega (arith, some))
closed-some (lane ∷ lanes) q p h some = ap (λ g. is_closed g q p) (closes_first lane lanes h) ∙ go (is_it q p lane) refl (λ more. closed-some lanes q p (Close lane.sender lane.receiver ∷ h) more)
  where
    next : List Occurrence
    next = Close lane.sender lane.receiver ∷ h

    go : (its : Bool) → is_it q p lane ≡ its → (1 ≤ times q p lanes → is_closed (closes_again lanes ++ next) q p ≡ true) → is_closed (closes_again lanes ++ next) q p ≡ true
    go true same later = closed_begins next (closes_again lanes ++ next) (closes_again lanes, refl) q p (ap (λ b. b || is_closed h q p) same)
    go false same later = let none = none_there q p lane same in later (omega (arith, some, none))

-- The lengths of the lines.

abbrev if_sender : ℕ → ℕ → ℕ → ℕ
if_sender s p many = cond (s == p) many 0

pub line-sends : (s r p : ℕ) (ms : List Content) (h : List Occurrence) → length (chart_of (sends_of s r ms ++ h) p) ≡ length (chart_of h p) + if_sender s p (length ms)
line-sends s r p [] h = go (s == p)
  where
    go : (mine : Bool) → length (chart_of h p) ≡ length (chart_of h p) + cond mine (length {A = Content} []) 0
    go true = omega arith
    go false = omega arith
line-sends s r p (m ∷ ms) h = ap (λ g. length (chart_of g p)) (sends_first s r m ms h) ∙ line-sends s r p ms (Send s r m ∷ h) ∙ go (s == p)
  where
    go : (mine : Bool) → length (chart_of h p ++ cond mine (send_event r m.name ∷ []) []) + cond mine (length ms) 0 ≡ length (chart_of h p) + cond mine (length (m ∷ ms)) 0
    go true = let more = length_push (chart_of h p) (send_event r m.name) in omega (arith, more)
    go false = ap (λ (line : List Event). length line + 0) (append-nil (chart_of h p))

pub line-again : (left : List LeftView) (p : ℕ) (h : List Occurrence) → length (chart_of (all_again left ++ h) p) ≡ length (chart_of h p) + sent_again_by p left
line-again [] p h = omega arith
line-again (left ∷ more) p h =
    let here = line-sends left.lane.sender left.lane.receiver p left.messages h in
    let later = line-again more p (sends_again left ++ h) in
    let same = ap (λ g. length (chart_of g p)) (again_first left more h) in
    omega (arith, here, later, same)

pub line-closes : (lanes : List LaneEnds) (p : ℕ) (h : List Occurrence) → chart_of (closes_again lanes ++ h) p ≡ chart_of h p
line-closes [] p h = refl
line-closes (lane ∷ lanes) p h = ap (λ g. chart_of g p) (closes_first lane lanes h) ∙ line-closes lanes p (Close lane.sender lane.receiver ∷ h) ∙ append-nil (chart_of h p)

-- A history of sends only is legal if they are few enough for each lane and line.

abbrev pub ArePosted : ℕ → List Occurrence → Type 0
ArePosted n [] = Unit {0}
ArePosted n (Send a b m ∷ h) = AreTwo n a b × ArePosted n h
ArePosted n (Receive a b c ∷ h) = ⊥
ArePosted n (Close a b ∷ h) = ⊥

pub posted-sends : (n s r : ℕ) (ms : List Content) (h : List Occurrence) → AreTwo n s r → ArePosted n h → ArePosted n (sends_of s r ms ++ h)
posted-sends n s r [] h two posted = posted
posted-sends n s r (m ∷ ms) h two posted = subst (ArePosted n) (sym (sends_first s r m ms h)) (posted-sends n s r ms (Send s r m ∷ h) two (two, posted))

pub received-posted : (n : ℕ) (h : List Occurrence) → ArePosted n h → (q p : ℕ) → received h q p ≡ 0
received-posted n [] posted q p = refl
received-posted n (Send a b m ∷ h) posted q p = received-posted n h posted.1 q p
received-posted n (Receive a b c ∷ h) posted q p = absurd posted
received-posted n (Close a b ∷ h) posted q p = absurd posted

pub open-posted : (n : ℕ) (h : List Occurrence) → ArePosted n h → (q p : ℕ) → is_closed h q p ≡ false
open-posted n [] posted q p = refl
open-posted n (Send a b m ∷ h) posted q p = open-posted n h posted.1 q p
open-posted n (Receive a b c ∷ h) posted q p = absurd posted
open-posted n (Close a b ∷ h) posted q p = absurd posted

sent_more : (h : List Occurrence) (a b : ℕ) (m : Content) → length (sent (Send a b m ∷ h) a b) ≡ length (sent h a b) + 1
sent_more h a b m = ap (λ its. length (cond its (sent h a b ++ m ∷ []) (sent h a b))) (is_lane-same a b) ∙ length_push (sent h a b) m

line_more : (h : List Occurrence) (a b : ℕ) (m : Content) → length (chart_of (Send a b m ∷ h) a) ≡ length (chart_of h a) + 1
line_more h a b m = ap (λ mine. length (chart_of h a ++ cond mine (send_event b m.name ∷ []) [])) (eq-eqb a a refl) ∙ length_push (chart_of h a) (send_event b m.name)

pub legal-posted : (n k : ℕ) (h : List Occurrence) → ArePosted n h → ((q p : ℕ) → length (sent h q p) ≤ k) → ((p : ℕ) → length (chart_of h p) ≤ MAX_EVENTS) → IsLegal n k h
legal-posted n k [] posted few short = tt
legal-posted n k (Send a b m ∷ h) posted few short =
    let before = legal-posted n k h posted.1
    (λ q p. let all = few q p in let less = sent_begins-le h (Send a b m ∷ h) (Send a b m ∷ [], refl) q p in omega (arith, all, less))
    (λ p. let all = short p in let less = length-append (chart_of h p) (line_gets h p (Send a b m)) in omega (arith, all, less)) in
    let waits = length-drop (received h a b) (sent h a b) in
    let slots = few a b in
    let places = short a in
    ((posted.0, open-posted n h posted.1 a b, omega (arith, waits, slots, sent_more h a b m), omega (arith, places, line_more h a b m)), before)
legal-posted n k (Receive a b c ∷ h) posted few short = absurd posted
legal-posted n k (Close a b ∷ h) posted few short = absurd posted

-- Open lanes, each listed once, may be closed.
abbrev pub AreLanes : ℕ → List LaneEnds → Type 0
AreLanes n [] = Unit {0}
AreLanes n (lane ∷ lanes) = AreTwo n lane.sender lane.receiver × AreLanes n lanes

pub legal-closes : (n k : ℕ) (lanes : List LaneEnds) (h : List Occurrence) → AreLanes n lanes → ((q p : ℕ) → times q p lanes ≤ 1) → ((q p : ℕ) → is_closed h q p ≡ true → times q p lanes ≡ 0) → IsLegal n k h → IsLegal n k (closes_again lanes ++ h)
legal-closes n k [] h are few opened legal = legal
legal-closes n k (lane ∷ lanes) h are few opened legal =
    subst (IsLegal n k) (sym (closes_first lane lanes h)) (legal-closes n k lanes (Close lane.sender lane.receiver ∷ h) are.1
    (λ q p. let all = few q p in omega (arith, all))
    (λ q p. after q p (is_it q p lane) refl)
    ((are.0, here (is_closed h lane.sender lane.receiver) refl), legal))
  where
    itself : one_if (is_it lane.sender lane.receiver lane) ≡ 1
    itself = one_there lane.sender lane.receiver lane (is_lane-same lane.sender lane.receiver)

    here : (its : Bool) → is_closed h lane.sender lane.receiver ≡ its → is_closed h lane.sender lane.receiver ≡ false
    here true closed = let none = opened lane.sender lane.receiver closed in absurd (omega (arith, none, itself))
    here false closed = closed

    after : (q p : ℕ) (its : Bool) → is_it q p lane ≡ its → its || is_closed h q p ≡ true → times q p lanes ≡ 0
    after q p true same closed = let one = one_there q p lane same in let all = few q p in omega (arith, one, all)
    after q p false same closed = let none = opened q p closed in omega (arith, none)
