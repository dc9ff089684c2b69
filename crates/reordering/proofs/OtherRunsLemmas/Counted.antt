-- What a history of a chart has on its lanes, compared with the chart's lines; how many events an instance has.
use Rattle.std.proofs.Common.{◌≡◌, ℕ, suc, ◌+◌, ◌<◌, ◌≤◌, ◌==◌, ◌&&◌, Bool, true, false, cond, List, [], ◌∷◌, ◌++◌, length, map, refl, sym, ap, ◌∙◌, subst, arith, append-nil, eqb-true}
use Rattle.std.specs.Prelude.{if◌then◌else◌}
use Rattle.std.proofs.lemmas.List.{length_push, map-append}
use Rattle.chart.specs.declared.history.Occurrence.{Occurrence}
use Rattle.chart.specs.declared.history.Occurrence.TheVariants.{Send, Receive, Close}
use Rattle.chart.specs.declared.event.Event.{Event}
use Rattle.chart.specs.declared.event.Event.TheVariants as line_events
use Rattle.chart.specs.declared.line.TheConstants.{MAX_EVENTS}
use Rattle.chart.specs.Messages.{Content}
use Rattle.chart.specs.Events.{send_event, receive_event}
use Rattle.chart.specs.Histories.{is_lane, sent, received, waiting, receive_of, chart_of, IsLegal}
use Rattle.reordering.specs.OtherRuns.OtherRuns.{names_to}

-- the names of two parts of a line
names_to-append : (p : ℕ) (xs ys : List Event) → names_to p (xs ++ ys) ≡ names_to p xs ++ names_to p ys
names_to-append p [] ys = refl
names_to-append p (line_events.Send to name ∷ xs) ys = go (to == p) (names_to-append p xs ys)
  where
    go : (its : Bool) → names_to p (xs ++ ys) ≡ names_to p xs ++ names_to p ys → cond its (name ∷ names_to p (xs ++ ys)) (names_to p (xs ++ ys)) ≡ cond its (name ∷ names_to p xs) (names_to p xs) ++ names_to p ys
    go true before = ap (λ ns. name ∷ ns) before
    go false before = before
names_to-append p (line_events.Receive from name region ∷ xs) ys = names_to-append p xs ys

-- the names of a lane's messages
abbrev pub names_of : List Content → List (List ℕ)
names_of ms = map (λ (m : Content). m.name) ms

-- they are those of the sends on the sender's line
pub names_sent : (h : List Occurrence) (q p : ℕ) → names_of (sent h q p) ≡ names_to p (chart_of h q)
names_sent [] q p = refl
names_sent (Send a b m ∷ h) q p = go (a == q) (b == p) refl (names_sent h q p)
  where
    go : (mine its : Bool) → (b == p) ≡ its → names_of (sent h q p) ≡ names_to p (chart_of h q) → names_of (cond (mine && its) (sent h q p ++ m ∷ []) (sent h q p)) ≡ names_to p (chart_of h q ++ cond mine (send_event b m.name ∷ []) [])
    go true true e before = map-append (λ (x : Content). x.name) (sent h q p) (m ∷ []) ∙ ap (λ ns. ns ++ m.name ∷ []) before ∙ sym (names_to-append p (chart_of h q) (send_event b m.name ∷ []) ∙ rw e refl)
    go true false e before = before ∙ sym (names_to-append p (chart_of h q) (send_event b m.name ∷ []) ∙ rw e (append-nil (names_to p (chart_of h q))))
    go false its e before = before ∙ sym (ap (names_to p) (append-nil (chart_of h q)))
names_sent (Receive a b c ∷ h) q p = go (a == q) (waiting h b a) (names_sent h q p)
  where
    go : (mine : Bool) (ms : List Content) → names_of (sent h q p) ≡ names_to p (chart_of h q) → names_of (sent h q p) ≡ names_to p (chart_of h q ++ cond mine (receive_of ms b c) [])
    go true [] before = before ∙ sym (ap (names_to p) (append-nil (chart_of h q)))
    go true (m ∷ ms) before = before ∙ sym (names_to-append p (chart_of h q) (receive_event b m.name c ∷ []) ∙ append-nil (names_to p (chart_of h q)))
    go false ms before = before ∙ sym (ap (names_to p) (append-nil (chart_of h q)))
names_sent (Close a b ∷ h) q p = names_sent h q p ∙ sym (ap (names_to p) (append-nil (chart_of h q)))

-- how many sends and receives p made
abbrev pub acts : List Occurrence → ℕ → ℕ
acts [] p = 0
acts (Send a b m ∷ h) p = if a == p then acts h p + 1 else acts h p
acts (Receive a b c ∷ h) p = if a == p then acts h p + 1 else acts h p
acts (Close a b ∷ h) p = acts h p

-- its line has no more events
pub line_short : (h : List Occurrence) (p : ℕ) → length (chart_of h p) ≤ acts h p
line_short [] p = omega arith
line_short (Send a b m ∷ h) p = go (a == p) (line_short h p)
  where
    go : (mine : Bool) → length (chart_of h p) ≤ acts h p → length (chart_of h p ++ cond mine (send_event b m.name ∷ []) []) ≤ cond mine (acts h p + 1) (acts h p)
    go true before = omega (arith, before, length_push (chart_of h p) (send_event b m.name))
    go false before = omega (arith, before, ap length (append-nil (chart_of h p)))
line_short (Receive a b c ∷ h) p = go (a == p) (waiting h b a) (line_short h p)
  where
    go : (mine : Bool) (ms : List Content) → length (chart_of h p) ≤ acts h p → length (chart_of h p ++ cond mine (receive_of ms b c) []) ≤ cond mine (acts h p + 1) (acts h p)
    go true [] before = omega (arith, before, ap length (append-nil (chart_of h p)))
    go true (m ∷ ms) before = omega (arith, before, length_push (chart_of h p) (receive_event b m.name c))
    go false ms before = omega (arith, before, ap length (append-nil (chart_of h p)))
line_short (Close a b ∷ h) p = omega (arith, line_short h p, ap length (append-nil (chart_of h p)))

-- in a legal history its line has exactly as many, and no more than a line may have
pub acts_legal : (n k : ℕ) (h : List Occurrence) → IsLegal n k h → (p : ℕ) → (acts h p ≡ length (chart_of h p)) × (acts h p ≤ MAX_EVENTS)
acts_legal n k [] legal p = (refl, omega arith)
acts_legal n k (Send a b m ∷ h) legal p = go (a == p) refl (acts_legal n k h legal.1 p)
  where
    go : (mine : Bool) → (a == p) ≡ mine → (acts h p ≡ length (chart_of h p)) × (acts h p ≤ MAX_EVENTS) → (cond mine (acts h p + 1) (acts h p) ≡ length (chart_of h p ++ cond mine (send_event b m.name ∷ []) [])) × (cond mine (acts h p + 1) (acts h p) ≤ MAX_EVENTS)
    go true e before =
        let room = subst (λ x. length (chart_of h x) < MAX_EVENTS) (eqb-true a p e) legal.0.3 in
        (omega (arith, before.0, length_push (chart_of h p) (send_event b m.name)), omega (arith, before.0, room))
    go false e before = (omega (arith, before.0, ap length (append-nil (chart_of h p))), before.1)
acts_legal n k (Receive a b c ∷ h) legal p = go (waiting h b a) legal.0.1 (a == p) refl (acts_legal n k h legal.1 p)
  where
    go : (ms : List Content) → 0 < length ms → (mine : Bool) → (a == p) ≡ mine → (acts h p ≡ length (chart_of h p)) × (acts h p ≤ MAX_EVENTS) → (cond mine (acts h p + 1) (acts h p) ≡ length (chart_of h p ++ cond mine (receive_of ms b c) [])) × (cond mine (acts h p + 1) (acts h p) ≤ MAX_EVENTS)
    go [] some mine e before = absurd (omega (arith, some))
    go (m ∷ ms) some true e before =
        let room = subst (λ x. length (chart_of h x) < MAX_EVENTS) (eqb-true a p e) legal.0.2 in
        (omega (arith, before.0, length_push (chart_of h p) (receive_event b m.name c)), omega (arith, before.0, room))
    go (m ∷ ms) some false e before = (omega (arith, before.0, ap length (append-nil (chart_of h p))), before.1)
acts_legal n k (Close a b ∷ h) legal p =
    let before = acts_legal n k h legal.1 p in
    (omega (arith, before.0, ap length (append-nil (chart_of h p))), before.1)

-- no more messages were sent than events came
pub sends_short : (h : List Occurrence) (q p : ℕ) → length (sent h q p) ≤ length h
sends_short [] q p = omega arith
sends_short (Send a b m ∷ h) q p = go (is_lane a b q p) (sends_short h q p)
  where
    go : (its : Bool) → length (sent h q p) ≤ length h → length (cond its (sent h q p ++ m ∷ []) (sent h q p)) ≤ suc (length h)
    go true before = omega (arith, before, length_push (sent h q p) m)
    go false before = omega (arith, before)
sends_short (Receive a b c ∷ h) q p = omega (arith, sends_short h q p)
sends_short (Close a b ∷ h) q p = omega (arith, sends_short h q p)

-- nor received
pub receives_short : (h : List Occurrence) (q p : ℕ) → received h q p ≤ length h
receives_short [] q p = omega arith
receives_short (Send a b m ∷ h) q p = omega (arith, receives_short h q p)
receives_short (Receive a b c ∷ h) q p = go (is_lane b a q p) (receives_short h q p)
  where
    go : (its : Bool) → received h q p ≤ length h → cond its (received h q p + 1) (received h q p) ≤ suc (length h)
    go true before = omega (arith, before)
    go false before = omega (arith, before)
receives_short (Close a b ∷ h) q p = omega (arith, receives_short h q p)
