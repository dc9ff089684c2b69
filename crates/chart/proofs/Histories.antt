-- The lanes of histories that grow by an occurrence.
use Rattle.std.proofs.Common.{◌≡◌, ◌≢◌, ℕ, ◌+◌, ◌<◌, ◌≤◌, ◌==◌, ◌&&◌, ◌||◌, Bool, true, false, cond, List, [], ◌∷◌, ◌++◌, length, drop, refl, sym, ap, ◌∙◌, subst, arith, append-nil, append_assoc, length-append, length-drop}
use Rattle.std.specs.Prelude.{All}
use Rattle.std.proofs.lemmas.Bool.{false≢true, eqb-true, eq-eqb, ne_eqb, and_parts, and_from, and_left, and_right}
use Rattle.std.proofs.lemmas.List.{drop_all, drop-append-le, drop-drop, length_push}
use Rattle.std.proofs.lemmas.List.Elements.{All-nil, All-cons, All-append}
use Rattle.chart.specs.declared.history.Occurrence.{Occurrence}
use Rattle.chart.specs.declared.history.Occurrence.TheVariants.{Send, Receive, Close}
use Rattle.chart.specs.Messages.{Content}
use Rattle.chart.specs.Events.{send_event, receive_event, partner_of}
use Rattle.chart.specs.Histories.{by, own, is_lane, sent, received, waiting, is_closed, receive_of, line_gets, chart_of, IsLegal, Begins}

-- a lane is itself
pub is_lane-same : (a b : ℕ) → is_lane a b a b ≡ true
is_lane-same a b = and_from (a == a) (b == b) (eq-eqb a a refl) (eq-eqb b b refl)

-- a lane from another instance is another
pub is_lane-from : (a b q p : ℕ) → q ≢ a → is_lane a b q p ≡ false
is_lane-from a b q p ne = and_left (a == q) (b == p) (ne_eqb a q (λ e. ne (sym e)))

-- a lane to another instance is another
pub is_lane-to : (a b q p : ℕ) → p ≢ b → is_lane a b q p ≡ false
is_lane-to a b q p ne = and_right (a == q) (b == p) (ne_eqb b p (λ e. ne (sym e)))

-- in a legal history no more messages were received than were sent
pub received-le : (n k : ℕ) (h : List Occurrence) → IsLegal n k h → (q p : ℕ) → received h q p ≤ length (sent h q p)
received-le n k [] legal q p = omega arith
received-le n k (Send a b m ∷ h) legal q p = go (is_lane a b q p) (received-le n k h legal.1 q p)
  where
    go : (its : Bool) → received h q p ≤ length (sent h q p) → received h q p ≤ length (cond its (sent h q p ++ m ∷ []) (sent h q p))
    go true before = omega (arith, length_push (sent h q p) m)
    go false before = before
received-le n k (Receive a b c ∷ h) legal q p = go (is_lane b a q p) refl (received-le n k h legal.1 q p)
  where
    go : (its : Bool) → is_lane b a q p ≡ its → received h q p ≤ length (sent h q p) → cond its (received h q p + 1) (received h q p) ≤ length (sent h q p)
    go true e before =
        let ends = and_parts (b == q) (a == p) e in
        let to : 0 < length (waiting h b p) = subst (λ x. 0 < length (waiting h b x)) (eqb-true a p ends.1) legal.0.1 in
        let both : 0 < length (waiting h q p) = subst (λ x. 0 < length (waiting h x p)) (eqb-true b q ends.0) to in
        omega (arith, both, length-drop (received h q p) (sent h q p))
    go false e before = before
received-le n k (Close a b ∷ h) legal q p = received-le n k h legal.1 q p

-- a message that is sent waits after the others
pub waiting-send : (h : List Occurrence) (p q : ℕ) (m : Content) → received h p q ≤ length (sent h p q) → waiting (Send p q m ∷ h) p q ≡ waiting h p q ++ m ∷ []
waiting-send h p q m le = rw (is_lane-same p q) (drop-append-le (received h p q) (sent h p q) (m ∷ []) le)

-- on each other lane the same messages wait
pub waiting-send_other : (h : List Occurrence) (p q a b : ℕ) (m : Content) → is_lane p q a b ≡ false → waiting (Send p q m ∷ h) a b ≡ waiting h a b
waiting-send_other h p q a b m e = rw e

-- a receive takes the first message that waits
pub waiting-receive : (h : List Occurrence) (p q c : ℕ) (m : Content) (ms : List Content) → waiting h q p ≡ m ∷ ms → waiting (Receive p q c ∷ h) q p ≡ ms
waiting-receive h p q c m ms first = rw (is_lane-same q p) (sym (drop-drop 1 (received h q p) (sent h q p)) ∙ ap (drop 1) first)

-- and none of another lane
pub waiting-receive_other : (h : List Occurrence) (p q c a b : ℕ) → is_lane q p a b ≡ false → waiting (Receive p q c ∷ h) a b ≡ waiting h a b
waiting-receive_other h p q c a b e = rw e

-- the lane of a close is closed
pub is_closed-close : (h : List Occurrence) (p q : ℕ) → is_closed (Close p q ∷ h) p q ≡ true
is_closed-close h p q = rw (is_lane-same p q)

-- the others stay as they were
pub is_closed-close_other : (h : List Occurrence) (p q a b : ℕ) → is_lane p q a b ≡ false → is_closed (Close p q ∷ h) a b ≡ is_closed h a b
is_closed-close_other h p q a b e = rw e

-- the partner of each event of a legal history's chart is one of the instances
pub partners-known : (n k : ℕ) (h : List Occurrence) → IsLegal n k h → (p : ℕ) → All (λ m. partner_of m ≤ n) (chart_of h p)
partners-known n k [] legal p = All-nil (λ m. partner_of m ≤ n)
partners-known n k (Send a b m ∷ h) legal p = All-append (λ x. partner_of x ≤ n) (chart_of h p) (line_gets h p (Send a b m)) (partners-known n k h legal.1 p) (go (a == p))
  where
    go : (mine : Bool) → All (λ x. partner_of x ≤ n) (cond mine (send_event b m.name ∷ []) [])
    go true = All-cons (λ x. partner_of x ≤ n) (send_event b m.name) [] legal.0.0.3 (All-nil (λ x. partner_of x ≤ n))
    go false = All-nil (λ x. partner_of x ≤ n)
partners-known n k (Receive a b c ∷ h) legal p = All-append (λ x. partner_of x ≤ n) (chart_of h p) (line_gets h p (Receive a b c)) (partners-known n k h legal.1 p) (go (a == p) (waiting h b a))
  where
    go : (mine : Bool) (ms : List Content) → All (λ x. partner_of x ≤ n) (cond mine (receive_of ms b c) [])
    go true [] = All-nil (λ x. partner_of x ≤ n)
    go true (m ∷ ms) = All-cons (λ x. partner_of x ≤ n) (receive_event b m.name c) [] legal.0.0.3 (All-nil (λ x. partner_of x ≤ n))
    go false ms = All-nil (λ x. partner_of x ≤ n)
partners-known n k (Close a b ∷ h) legal p = All-append (λ x. partner_of x ≤ n) (chart_of h p) [] (partners-known n k h legal.1 p) (All-nil (λ x. partner_of x ≤ n))

-- What an instance sent, received and closed depends only on its own occurrences.

pub sent_own : (h : List Occurrence) (q p : ℕ) → sent (own h q) q p ≡ sent h q p
sent_own [] q p = refl
sent_own (Send a b m ∷ h) q p = go (a == q) refl (sent_own h q p)
  where
    go : (mine : Bool) → (a == q) ≡ mine → sent (own h q) q p ≡ sent h q p → sent (cond mine (Send a b m ∷ own h q) (own h q)) q p ≡ cond (mine && (b == p)) (sent h q p ++ m ∷ []) (sent h q p)
    go true e before = rw e (ap (λ (ms : List Content). cond (b == p) (ms ++ m ∷ []) ms) before)
    go false e before = before
sent_own (Receive a b c ∷ h) q p = go (a == q) (sent_own h q p)
  where
    go : (mine : Bool) → sent (own h q) q p ≡ sent h q p → sent (cond mine (Receive a b c ∷ own h q) (own h q)) q p ≡ sent h q p
    go true before = before
    go false before = before
sent_own (Close a b ∷ h) q p = go (a == q) (sent_own h q p)
  where
    go : (mine : Bool) → sent (own h q) q p ≡ sent h q p → sent (cond mine (Close a b ∷ own h q) (own h q)) q p ≡ sent h q p
    go true before = before
    go false before = before

pub received_own : (h : List Occurrence) (q p : ℕ) → received (own h p) q p ≡ received h q p
received_own [] q p = refl
received_own (Send a b m ∷ h) q p = go (a == p) (received_own h q p)
  where
    go : (mine : Bool) → received (own h p) q p ≡ received h q p → received (cond mine (Send a b m ∷ own h p) (own h p)) q p ≡ received h q p
    go true before = before
    go false before = before
received_own (Receive a b c ∷ h) q p = go (a == p) refl (received_own h q p)
  where
    go : (mine : Bool) → (a == p) ≡ mine → received (own h p) q p ≡ received h q p → received (cond mine (Receive a b c ∷ own h p) (own h p)) q p ≡ cond ((b == q) && mine) (received h q p + 1) (received h q p)
    go true e before = rw e (ap (λ (i : ℕ). cond ((b == q) && true) (i + 1) i) before)
    go false e before = rw (and_right (b == q) false refl) before
received_own (Close a b ∷ h) q p = go (a == p) (received_own h q p)
  where
    go : (mine : Bool) → received (own h p) q p ≡ received h q p → received (cond mine (Close a b ∷ own h p) (own h p)) q p ≡ received h q p
    go true before = before
    go false before = before

pub closed_own : (h : List Occurrence) (q p : ℕ) → is_closed (own h q) q p ≡ is_closed h q p
closed_own [] q p = refl
closed_own (Send a b m ∷ h) q p = go (a == q) (closed_own h q p)
  where
    go : (mine : Bool) → is_closed (own h q) q p ≡ is_closed h q p → is_closed (cond mine (Send a b m ∷ own h q) (own h q)) q p ≡ is_closed h q p
    go true before = before
    go false before = before
closed_own (Receive a b c ∷ h) q p = go (a == q) (closed_own h q p)
  where
    go : (mine : Bool) → is_closed (own h q) q p ≡ is_closed h q p → is_closed (cond mine (Receive a b c ∷ own h q) (own h q)) q p ≡ is_closed h q p
    go true before = before
    go false before = before
closed_own (Close a b ∷ h) q p = go (a == q) refl (closed_own h q p)
  where
    go : (mine : Bool) → (a == q) ≡ mine → is_closed (own h q) q p ≡ is_closed h q p → is_closed (cond mine (Close a b ∷ own h q) (own h q)) q p ≡ (mine && (b == p)) || is_closed h q p
    go true e before = rw e (ap (λ (closed : Bool). (b == p) || closed) before)
    go false e before = before

-- an instance with the same occurrences sent, received and closed the same
pub same_sent : (h g : List Occurrence) (q p : ℕ) → own g q ≡ own h q → sent g q p ≡ sent h q p
same_sent h g q p same = sym (sent_own g q p) ∙ ap (λ x. sent x q p) same ∙ sent_own h q p

pub same_received : (h g : List Occurrence) (q p : ℕ) → own g p ≡ own h p → received g q p ≡ received h q p
same_received h g q p same = sym (received_own g q p) ∙ ap (λ x. received x q p) same ∙ received_own h q p

pub same_closed : (h g : List Occurrence) (q p : ℕ) → own g q ≡ own h q → is_closed g q p ≡ is_closed h q p
same_closed h g q p same = sym (closed_own g q p) ∙ ap (λ x. is_closed x q p) same ∙ closed_own h q p

-- what it did in a history and after it
pub own-append : (more h : List Occurrence) (p : ℕ) → own (more ++ h) p ≡ own more p ++ own h p
own-append [] h p = refl
own-append (e ∷ more) h p = go (by e == p) (own-append more h p)
  where
    go : (mine : Bool) → own (more ++ h) p ≡ own more p ++ own h p → cond mine (e ∷ own (more ++ h) p) (own (more ++ h) p) ≡ cond mine (e ∷ own more p) (own more p) ++ own h p
    go true before = ap (λ g. e ∷ g) before
    go false before = before

-- All of this only grows with the history.

pub begins_same : (h : List Occurrence) → Begins h h
begins_same h = ([], refl)

pub begins_onward : (h g f : List Occurrence) → Begins h g → Begins g f → Begins h f
begins_onward h g f (more, e) (rest, i) = (rest ++ more, i ∙ ap (λ x. rest ++ x) e ∙ sym (append_assoc rest more h))

pub own_begins : (h g : List Occurrence) → Begins h g → (p : ℕ) → Begins (own h p) (own g p)
own_begins h g (more, e) p = (own more p, ap (λ x. own x p) e ∙ own-append more h p)

pub sent_begins : (h g : List Occurrence) → Begins h g → (q p : ℕ) → (rest : List Content) × (sent g q p ≡ sent h q p ++ rest)
sent_begins h g (more, e) q p = let w = several more in (w.0, ap (λ x. sent x q p) e ∙ w.1)
  where
    several : (more : List Occurrence) → (rest : List Content) × (sent (more ++ h) q p ≡ sent h q p ++ rest)
    several [] = ([], sym (append-nil (sent h q p)))
    several (Send a b m ∷ more) = go (is_lane a b q p) (several more)
      where
        go : (its : Bool) → (rest : List Content) × (sent (more ++ h) q p ≡ sent h q p ++ rest) → (rest : List Content) × (cond its (sent (more ++ h) q p ++ m ∷ []) (sent (more ++ h) q p) ≡ sent h q p ++ rest)
        go true (rest, i) = (rest ++ m ∷ [], ap (λ ms. ms ++ m ∷ []) i ∙ append_assoc (sent h q p) rest (m ∷ []))
        go false before = before
    several (Receive a b c ∷ more) = several more
    several (Close a b ∷ more) = several more

pub sent_begins-le : (h g : List Occurrence) → Begins h g → (q p : ℕ) → length (sent h q p) ≤ length (sent g q p)
sent_begins-le h g begins q p = let w = sent_begins h g begins q p in omega (arith, ap length w.1, length-append (sent h q p) w.0)

pub received_begins : (h g : List Occurrence) → Begins h g → (q p : ℕ) → received h q p ≤ received g q p
received_begins h g (more, e) q p = subst (λ x. received h q p ≤ received x q p) (sym e) (several more)
  where
    several : (more : List Occurrence) → received h q p ≤ received (more ++ h) q p
    several [] = omega arith
    several (Send a b m ∷ more) = several more
    several (Receive a b c ∷ more) = go (is_lane b a q p) (several more)
      where
        go : (its : Bool) → received h q p ≤ received (more ++ h) q p → received h q p ≤ cond its (received (more ++ h) q p + 1) (received (more ++ h) q p)
        go true before = omega arith
        go false before = before
    several (Close a b ∷ more) = several more

pub closed_begins : (h g : List Occurrence) → Begins h g → (q p : ℕ) → is_closed h q p ≡ true → is_closed g q p ≡ true
closed_begins h g (more, e) q p closed = ap (λ x. is_closed x q p) e ∙ several more
  where
    several : (more : List Occurrence) → is_closed (more ++ h) q p ≡ true
    several [] = closed
    several (Send a b m ∷ more) = several more
    several (Receive a b c ∷ more) = several more
    several (Close a b ∷ more) = go (is_lane a b q p) (several more)
      where
        go : (its : Bool) → is_closed (more ++ h) q p ≡ true → its || is_closed (more ++ h) q p ≡ true
        go true before = refl
        go false before = before

-- on a closed lane no more messages are sent
pub sent_closed : (n k : ℕ) (h g : List Occurrence) → Begins h g → IsLegal n k g → (q p : ℕ) → is_closed h q p ≡ true → sent g q p ≡ sent h q p
sent_closed n k h g (more, e) legal q p closed = ap (λ x. sent x q p) e ∙ several more (subst (IsLegal n k) e legal)
  where
    several : (more : List Occurrence) → IsLegal n k (more ++ h) → sent (more ++ h) q p ≡ sent h q p
    several [] legal = refl
    several (Send a b m ∷ more) legal = go (is_lane a b q p) refl (several more legal.1)
      where
        go : (its : Bool) → is_lane a b q p ≡ its → sent (more ++ h) q p ≡ sent h q p → cond its (sent (more ++ h) q p ++ m ∷ []) (sent (more ++ h) q p) ≡ sent h q p
        go true lane before =
            let ends = and_parts (a == q) (b == p) lane in
            let opened : is_closed (more ++ h) q b ≡ false = subst (λ x. is_closed (more ++ h) x b ≡ false) (eqb-true a q ends.0) legal.0.1 in
            let it : is_closed (more ++ h) q p ≡ false = subst (λ x. is_closed (more ++ h) q x ≡ false) (eqb-true b p ends.1) opened in
            absurd (false≢true (sym it ∙ closed_begins h (more ++ h) (more, refl) q p closed))
        go false lane before = before
    several (Receive a b c ∷ more) legal = several more legal.1
    several (Close a b ∷ more) legal = several more legal.1

-- so if no message waits on a closed lane, none will
pub drained_begins : (n k : ℕ) (h g : List Occurrence) → Begins h g → IsLegal n k g → (q p : ℕ) → is_closed h q p ≡ true → waiting h q p ≡ [] → waiting g q p ≡ []
drained_begins n k h g begins legal q p closed none =
    drop_all (received g q p) (sent g q p) (omega (arith, ap length none, length-drop (received h q p) (sent h q p), ap length (sent_closed n k h g begins legal q p closed), received_begins h g begins q p))

-- if no message waits, and none was received in between, none waited
pub none_begins : (h g : List Occurrence) → Begins h g → (q p : ℕ) → own g p ≡ own h p → waiting g q p ≡ [] → waiting h q p ≡ []
none_begins h g begins q p same none =
    drop_all (received h q p) (sent h q p) (omega (arith, ap length none, length-drop (received g q p) (sent g q p), sent_begins-le h g begins q p, same_received h g q p same))
