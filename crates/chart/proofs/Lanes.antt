-- The events on the lines of a history's chart, compared with the messages of its lanes.
use Rattle.std.proofs.Common.{slice_get, ◌≡◌, ℕ, suc, ◌+◌, ◌<◌, ◌==◌, ◌&&◌, inl, inr, Bool, true, false, cond, List, [], ◌∷◌, ◌++◌, length, Some, count_by, refl, sym, ap, ap₂, ◌∙◌, arith, append-nil, eqb-true, eq-eqb}
use Rattle.std.proofs.lemmas.Bool.{false≢true}
use Rattle.std.proofs.lemmas.Option.{none-some}
use Rattle.std.proofs.lemmas.List.Sums.{sum_by_push}
use Rattle.std.proofs.lemmas.List.{length_push}
use Rattle.chart.specs.declared.history.Occurrence.{Occurrence}
use Rattle.chart.specs.declared.history.Occurrence.TheVariants.{Send, Receive, Close}
use Rattle.chart.specs.declared.event.Event.{Event}
use Rattle.chart.specs.Messages.{Content}
use Rattle.chart.specs.Events.{ith, tally, is_send_to, is_receive_from, send_event, receive_event}
use Rattle.chart.specs.Histories.{sent, received, waiting, receive_of, line_gets, chart_of, IsLegal}
use Rattle.chart.specs.Charts.{at, chart_event}
use Rattle.chart.specs.Places.{IsSendAfter}
use Rattle.chart.proofs.Tally.{same_from_tally, ith_within, ith-append, ith_push, ith_from_append, ith_single, ith_at_drop, tally-append, tally_all}

-- one more event adds one if it passes
pub count_push : (test : Event → Bool) (line : List Event) (m : Event) → count_by test (line ++ m ∷ []) ≡ count_by test line + cond {A = ℕ} (test m) 1 0
count_push test line m = sum_by_push (λ x. cond (test x) 1 0) line m

-- a line has as many sends to an instance as messages were sent on the lane
pub sent_count : (h : List Occurrence) (q p : ℕ) → count_by (is_send_to p) (chart_of h q) ≡ length (sent h q p)
sent_count [] q p = refl
sent_count (Send a b m ∷ h) q p = go (a == q) (b == p) refl (sent_count h q p)
  where
    go : (mine its : Bool) → (b == p) ≡ its → count_by (is_send_to p) (chart_of h q) ≡ length (sent h q p) → count_by (is_send_to p) (chart_of h q ++ cond mine (send_event b m.name ∷ []) []) ≡ length (cond (mine && its) (sent h q p ++ m ∷ []) (sent h q p))
    go true true e before = omega (arith, rw e at (count_push (is_send_to p) (chart_of h q) (send_event b m.name)), length_push (sent h q p) m)
    go true false e before = omega (arith, rw e at (count_push (is_send_to p) (chart_of h q) (send_event b m.name)))
    go false its e before = ap (count_by (is_send_to p)) (append-nil (chart_of h q)) ∙ before
sent_count (Receive a b c ∷ h) q p = go (a == q) (waiting h b a) (sent_count h q p)
  where
    go : (mine : Bool) (ms : List Content) → count_by (is_send_to p) (chart_of h q) ≡ length (sent h q p) → count_by (is_send_to p) (chart_of h q ++ cond mine (receive_of ms b c) []) ≡ length (sent h q p)
    go true [] before = ap (count_by (is_send_to p)) (append-nil (chart_of h q)) ∙ before
    go true (m ∷ ms) before = omega (arith, count_push (is_send_to p) (chart_of h q) (receive_event b m.name c))
    go false ms before = ap (count_by (is_send_to p)) (append-nil (chart_of h q)) ∙ before
sent_count (Close a b ∷ h) q p = ap (count_by (is_send_to p)) (append-nil (chart_of h q)) ∙ sent_count h q p

-- the number of earlier sends of a new send's lane is that of the sent messages
pub newest_is_send : (h : List Occurrence) (p q : ℕ) (x : Content) → IsSendAfter (chart_of (Send p q x ∷ h) p) q (length (sent h p q)) (length (chart_of h p) + 1)
newest_is_send h p q x = go (p == p) (eq-eqb p p refl)
  where
    line : List Event
    line = chart_of h p

    go : (mine : Bool) → mine ≡ true → IsSendAfter (line ++ cond mine (send_event q x.name ∷ []) []) q (length (sent h p q)) (length line + 1)
    go false e = absurd (false≢true e)
    go true e = ((send_event q x.name, ith_push line (send_event q x.name), eq-eqb q q refl), omega (arith, tally_all (is_send_to q) (line ++ send_event q x.name ∷ []) (length line + 1) (omega (arith, length_push line (send_event q x.name))), rw (eq-eqb q q refl) at (count_push (is_send_to q) line (send_event q x.name)), sent_count h p q))

-- in a legal history a line has as many receives as messages were received
pub received_count : (n k : ℕ) (h : List Occurrence) → IsLegal n k h → (q p : ℕ) → count_by (is_receive_from q) (chart_of h p) ≡ received h q p
received_count n k [] legal q p = refl
received_count n k (Send a b m ∷ h) legal q p = go (a == p) (received_count n k h legal.1 q p)
  where
    go : (mine : Bool) → count_by (is_receive_from q) (chart_of h p) ≡ received h q p → count_by (is_receive_from q) (chart_of h p ++ cond mine (send_event b m.name ∷ []) []) ≡ received h q p
    go true before = omega (arith, count_push (is_receive_from q) (chart_of h p) (send_event b m.name))
    go false before = ap (count_by (is_receive_from q)) (append-nil (chart_of h p)) ∙ before
received_count n k (Receive a b c ∷ h) legal q p = go (waiting h b a) legal.0.1 (a == p) (b == q) refl (received_count n k h legal.1 q p)
  where
    go : (ms : List Content) → 0 < length ms → (mine its : Bool) → (b == q) ≡ its → count_by (is_receive_from q) (chart_of h p) ≡ received h q p → count_by (is_receive_from q) (chart_of h p ++ cond mine (receive_of ms b c) []) ≡ cond (its && mine) (received h q p + 1) (received h q p)
    go [] some mine its e before = absurd (omega arith)
    go (m ∷ ms) some true true e before = omega (arith, rw e at (count_push (is_receive_from q) (chart_of h p) (receive_event b m.name c)))
    go (m ∷ ms) some true false e before = omega (arith, rw e at (count_push (is_receive_from q) (chart_of h p) (receive_event b m.name c)))
    go (m ∷ ms) some false true e before = ap (count_by (is_receive_from q)) (append-nil (chart_of h p)) ∙ before
    go (m ∷ ms) some false false e before = ap (count_by (is_receive_from q)) (append-nil (chart_of h p)) ∙ before
received_count n k (Close a b ∷ h) legal q p = ap (count_by (is_receive_from q)) (append-nil (chart_of h p)) ∙ received_count n k h legal.1 q p

-- the line has a send of the message to p, with i earlier sends to p
abbrev pub SentAt : List Event → ℕ → Content → ℕ → Type 0
SentAt line p x i = (y : ℕ) × (ith line y ≡ Some (send_event p x.name)) × (tally (is_send_to p) line y ≡ i + 1)

-- it stays there
SentAt-append : (line more : List Event) (p : ℕ) (x : Content) (i : ℕ) → SentAt line p x i → SentAt (line ++ more) p x i
SentAt-append line more p x i (y, at_y, turn) =
    let within = (ith_within line y (send_event p x.name) at_y).1 in
    (y, ith-append line more y within ∙ at_y, tally-append (is_send_to p) line more y within ∙ turn)

-- each message of a lane has its send on the line
pub sent_at : (h : List Occurrence) (q p i : ℕ) (x : Content) → ith (sent h q p) (suc i) ≡ Some x → SentAt (chart_of h q) p x i
sent_at [] q p i x h = absurd (none-some x h)
sent_at (Send a b m ∷ h) q p i x at_i = go (a == q) (b == p) refl at_i (sent_at h q p i x)
  where
    go : (mine its : Bool) → (b == p) ≡ its → ith (cond (mine && its) (sent h q p ++ m ∷ []) (sent h q p)) (suc i) ≡ Some x → (ith (sent h q p) (suc i) ≡ Some x → SentAt (chart_of h q) p x i) → SentAt (chart_of h q ++ cond mine (send_event b m.name ∷ []) []) p x i
    go true true e found before =
        elim (ith_from_append (sent h q p) (m ∷ []) (suc i) x found) [
          | inl old ↦ SentAt-append (chart_of h q) (send_event b m.name ∷ []) p x i (before old)
          | inr new ↦
              let only = ith_single m new.0 x new.2 in
              let line = chart_of h q in
              let whole = tally_all (is_send_to p) (line ++ send_event b m.name ∷ []) (length line + 1) (omega (arith, length_push line (send_event b m.name))) in
              let more = rw e at (count_push (is_send_to p) line (send_event b m.name)) in
              (length line + 1, ith_push line (send_event b m.name) ∙ ap₂ (λ to (y : Content). Some (send_event to y.name)) (eqb-true b p e) only.1, omega (arith, whole, more, sent_count h q p, new.1, only.0))
        ]
    go true false e found before = SentAt-append (chart_of h q) (send_event b m.name ∷ []) p x i (before found)
    go false its e found before = SentAt-append (chart_of h q) [] p x i (before found)
sent_at (Receive a b c ∷ h) q p i x at_i = SentAt-append (chart_of h q) (line_gets h q (Receive a b c)) p x i (sent_at h q p i x at_i)
sent_at (Close a b ∷ h) q p i x at_i = SentAt-append (chart_of h q) [] p x i (sent_at h q p i x at_i)

-- that send is one of the lane, with i earlier ones
pub IsSendAfter-from_sent_at : (line : List Event) (p : ℕ) (x : Content) (i : ℕ) (at_i : SentAt line p x i) → IsSendAfter line p i at_i.0
IsSendAfter-from_sent_at line p x i (j, at_j, turn) = ((send_event p x.name, at_j, eq-eqb p p refl), turn)

-- each message of a lane has its send on the line of its sender, with its name
pub send_of_message : (h : List Occurrence) (q p i : ℕ) (x : Content) → slice_get (sent h q p) i ≡ Some x → (j : ℕ) × IsSendAfter (chart_of h q) p i j × (chart_event (chart_of h) (at q j) ≡ Some (send_event p x.name))
send_of_message h q p i x found = let w = sent_at h q p i x found in (w.0, IsSendAfter-from_sent_at (chart_of h q) p x i w, w.1)

-- and so has the first message that waits
pub send_of_first : (h : List Occurrence) (q p : ℕ) (x : Content) (rest : List Content) → waiting h q p ≡ x ∷ rest → (j : ℕ) × IsSendAfter (chart_of h q) p (received h q p) j × (chart_event (chart_of h) (at q j) ≡ Some (send_event p x.name))
send_of_first h q p x rest e = send_of_message h q p (received h q p) x (ith_at_drop (received h q p) (sent h q p) x rest e)

-- only one send of a lane has i earlier ones
pub same_place_on_lane : (line : List Event) (q i j l : ℕ) → IsSendAfter line q i j → IsSendAfter line q i l → j ≡ l
same_place_on_lane line q i j l a b = same_from_tally (is_send_to q) line j l a.0 b.0 (a.1 ∙ sym b.1)
