-- If a run stops early, its chart isn't possible over such lanes.
use Rattle.std.proofs.Common.{◌≡◌, ℕ, zero, suc, ◌<◌, ◌≤◌, inl, inr, List, [], ◌∷◌, ◌++◌, length, Some, refl, sym, ap, ◌∙◌, subst, arith, append_assoc, length-drop}
use Rattle.std.specs.Prelude.{slice_get, slice_index}
use Rattle.std.proofs.lemmas.Bool.{cases_lt, cases_eq}
use Rattle.std.proofs.lemmas.List.{length_push}
use Rattle.chart.specs.declared.history.Occurrence.{Occurrence}
use Rattle.chart.specs.declared.history.Occurrence.TheVariants.{Send, Receive, Close}
use Rattle.chart.specs.declared.event.Event.{Event}
use Rattle.chart.specs.Messages.{Content}
use Rattle.chart.specs.Events.{is_send_to, is_receive_from, tally, send_event, receive_event}
use Rattle.chart.specs.Histories.{by, sent, received, waiting, chart_of, IsLegal, Begins}
use Rattle.chart.specs.Charts.{Chart}
use Rattle.chart.proofs.Begun.{legal_begun, grows_from_begun}
use Rattle.chart.proofs.Growing.{GrowsTo}
use Rattle.chart.proofs.Histories.{begins_same, begins_onward}
use Rattle.chart.proofs.Lanes.{sent_count, received_count}
use Rattle.chart.proofs.Sends.{line_after_send, line_after_receive}
use Rattle.chart.proofs.Steps.{line_of_other, line_after_close}
use Rattle.chart.proofs.Tally.{ith-append_next, tally-le}
use Rattle.reordering.specs.OtherRuns.OtherRuns.{IsPossibleWithin}
use Rattle.schedule_replay.specs.ReorderedRuns.Runs.{AreStopped, IsHeld}
use Rattle.schedule_replay.proofs.ReorderedRunsLemmas.GoingOn.{IsGoing}
use Rattle.schedule_replay.proofs.ReorderedRunsLemmas.Partners.{tally_come}

-- the event that comes after a line's beginning
event-next : (xs more ys : List Event) (m : Event) → ys ≡ (xs ++ m ∷ []) ++ more → slice_get ys (length xs) ≡ Some m
event-next xs more ys m e = ap (λ l. slice_get l (length xs)) (e ∙ append_assoc xs (m ∷ []) more) ∙ ith-append_next xs more m

-- how many messages a history sent and received, from the places that it reached on the chart's lines
sent_come : {c : Chart} (h : List Occurrence) → GrowsTo (chart_of h) c → (q p : ℕ) → length (sent h q p) ≡ tally (is_send_to p) (c q) (length (chart_of h q))
sent_come h grows q p = sym (tally_come h grows (is_send_to p) q ∙ sent_count h q p)

received_come : {c : Chart} (n k : ℕ) (h : List Occurrence) → IsLegal n k h → GrowsTo (chart_of h) c → (q p : ℕ) → received h q p ≡ tally (is_receive_from q) (c p) (length (chart_of h p))
received_come n k h legal grows q p = sym (tally_come h grows (is_receive_from q) p ∙ received_count n k h legal q p)

module _ (n k : ℕ) (c : Chart) (h : List Occurrence) (made : List ℕ) (old : IsGoing n k c h made) (stopped : AreStopped c n k h made) (g : List Occurrence) (legal : IsLegal n k g) (same : (p : ℕ) → chart_of g p ≡ c p) where
  grown : (f : List Occurrence) → Begins f g → GrowsTo (chart_of f) c
  grown f begins p = let w = grows_from_begun f g begins p in (w.0, sym (same p) ∙ w.1)

  -- the next event of a line is held
  held : (p : ℕ) → 1 ≤ p → p ≤ n → (m : Event) → slice_get (c p) (length (chart_of h p)) ≡ Some m → IsHeld k h p m
  held zero low high m is = absurd (omega arith)
  held (suc p) low high m is = stopped p (omega arith) m (subst (λ i. slice_get (c (suc p)) i ≡ Some m) (old.many (suc p)) is)

  -- an event that comes in g was made, if all events before it were
  own : (x : Occurrence) (f : List Occurrence) → Begins (x ∷ f) g → Begins f g → IsLegal n k (x ∷ f) → ((p : ℕ) → length (chart_of f p) ≤ length (chart_of h p)) → length (chart_of (x ∷ f) (by x)) ≤ length (chart_of h (by x))
  own (Send a b m) f begins onward ok before =
      let line = line_after_send f a b m in
      let grew = ap length line ∙ length_push (chart_of f a) (send_event b m.name) in
      elim (cases_lt (length (chart_of f a)) (length (chart_of h a))) [
        | inl less ↦ omega (arith, grew, less)
        | inr not ↦
            let here : length (chart_of f a) ≡ length (chart_of h a) = omega (arith, not, before a) in
            let w = grown (Send a b m ∷ f) begins a in
            let is = event-next (chart_of f a) w.0 (c a) (send_event b m.name) (w.1 ∙ ap (λ xs. xs ++ w.0) line) in
            let full : k ≤ length (waiting h a b) = held a ok.0.0.0 ok.0.0.1 (send_event b m.name) (subst (λ i. slice_get (c a) i ≡ Some (send_event b m.name)) here is) in
            let free : length (waiting f a b) < k = ok.0.2 in
            let sent_h = sent_come h old.grows a b ∙ ap (tally (is_send_to b) (c a)) (sym here) in
            let sent_f = sent_come f (grown f onward) a b in
            let got_h = received_come n k h old.legal old.grows a b in
            let got_f = received_come n k f ok.1 (grown f onward) a b in
            let fewer = tally-le (is_receive_from a) (c b) (length (chart_of f b)) (length (chart_of h b)) (before b) in
            absurd (omega (arith, full, free, sent_h, sent_f, got_h, got_f, fewer, length-drop (received h a b) (sent h a b), length-drop (received f a b) (sent f a b)))
      ]
  own (Receive a b r) f begins onward ok before = from_first (waiting f b a) refl ok.0.1
    where
      from_first : (ms : List Content) → waiting f b a ≡ ms → 0 < length ms → length (chart_of (Receive a b r ∷ f) a) ≤ length (chart_of h a)
      from_first [] none some = absurd (omega arith)
      from_first (m ∷ rest) first some =
          let line = line_after_receive f a b r m rest first in
          let grew = ap length line ∙ length_push (chart_of f a) (receive_event b m.name r) in
          elim (cases_lt (length (chart_of f a)) (length (chart_of h a))) [
            | inl less ↦ omega (arith, grew, less)
            | inr not ↦
                let here : length (chart_of f a) ≡ length (chart_of h a) = omega (arith, not, before a) in
                let w = grown (Receive a b r ∷ f) begins a in
                let is = event-next (chart_of f a) w.0 (c a) (receive_event b m.name r) (w.1 ∙ ap (λ xs. xs ++ w.0) line) in
                let none : length (waiting h b a) ≡ 0 = held a ok.0.0.0 ok.0.0.1 (receive_event b m.name r) (subst (λ i. slice_get (c a) i ≡ Some (receive_event b m.name r)) here is) in
                let waits : 0 < length (waiting f b a) = ok.0.1 in
                let sent_h = sent_come h old.grows b a in
                let sent_f = sent_come f (grown f onward) b a in
                let got_h = received_come n k h old.legal old.grows b a ∙ ap (tally (is_receive_from b) (c a)) (sym here) in
                let got_f = received_come n k f ok.1 (grown f onward) b a in
                let more = tally-le (is_send_to a) (c b) (length (chart_of f b)) (length (chart_of h b)) (before b) in
                absurd (omega (arith, none, waits, sent_h, sent_f, got_h, got_f, more, length-drop (received h b a) (sent h b a), length-drop (received f b a) (sent f b a)))
          ]
  own (Close a b) f begins onward ok before = let e = ap length (line_after_close f a b a) in omega (arith, e, before a)

  -- so all events of g were made
  all_made : (f : List Occurrence) → Begins f g → (p : ℕ) → length (chart_of f p) ≤ length (chart_of h p)
  all_made [] begins p = omega arith
  all_made (x ∷ f) begins p =
      let onward = begins_onward f (x ∷ f) g (x ∷ [], refl) begins in
      elim (cases_eq (by x) p) [
        | inl its ↦ subst (λ q. length (chart_of (x ∷ f) q) ≤ length (chart_of h q)) its (own x f begins onward (legal_begun n k (x ∷ f) g begins legal) (λ q. all_made f onward q))
        | inr other ↦ let e = ap length (line_of_other f x p other) in omega (arith, e, all_made f onward p)
      ]

pub stopped_early : (n k : ℕ) (c : Chart) (h : List Occurrence) (made : List ℕ) → IsGoing n k c h made → AreStopped c n k h made → (p : ℕ) → slice_index made p < length (c (suc p)) → IsPossibleWithin n k c → ⊥
stopped_early n k c h made old stopped p left (g, legal, same) =
    let all = all_made n k c h made old stopped g legal same g (begins_same g) (suc p) in
    let whole = ap length (same (suc p)) in
    let many = old.many (suc p) in
    omega (arith, left, all, whole, many)
