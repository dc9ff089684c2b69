-- The newest event of a beginning, in the chart of the whole history.
use Rattle.std.proofs.Common.{◌≡◌, ℕ, ◌+◌, ◌<◌, ◌≤◌, ◌⊎◌, inl, inr, List, [], ◌∷◌, length, refl, ap, arith, length-append}
use Rattle.std.proofs.lemmas.Bool.{cases_lt}
use Rattle.chart.specs.declared.history.Occurrence.{Occurrence}
use Rattle.chart.specs.declared.history.Occurrence.TheVariants.{Send, Receive}
use Rattle.chart.specs.Messages.{Content}
use Rattle.chart.specs.Events.{is_send_to, is_receive_from, tally}
use Rattle.chart.specs.Histories.{received, sent, waiting, chart_of, IsLegal, Begins}
use Rattle.chart.specs.Charts.{Place, at, BelongsTo}
use Rattle.chart.specs.Places.{IsEvent, IsSendAfter}
use Rattle.chart.proofs.Belongs.{IsEvent-from_passes}
use Rattle.chart.proofs.Begun.{legal_begun, grows_from_begun, send_begun, belongs_begun}
use Rattle.chart.proofs.Lanes.{newest_is_send, send_of_first}
use Rattle.chart.proofs.Sends.{newest_belongs}

-- the place of the next event of a line
abbrev pub next_place : List Occurrence → ℕ → Place
next_place h p = at p (length (chart_of h p) + 1)

-- an event of a beginning is one of the longer history
pub event_begun : (h g : List Occurrence) → Begins h g → (e : Place) → IsEvent (chart_of h) e → IsEvent (chart_of g) e
event_begun h g begins e here = let w = grows_from_begun h g begins e.instance in (here.0, omega (arith, here.1, ap length w.1, length-append (chart_of h e.instance) w.0))

-- there is an event of the history at the place, or none
pub is_there : (h : List Occurrence) (e : Place) → 1 ≤ e.index → IsEvent (chart_of h) e ⊎ (IsEvent (chart_of h) e → ⊥)
is_there h e low = elim (cases_lt (length (chart_of h e.instance)) e.index) [
  | inl past ↦ inr (λ here. omega (arith, past, here.1))
  | inr within ↦ inl (low, within)
]

-- a send
pub newest_send : (h g : List Occurrence) (a b : ℕ) (m : Content) → Begins (Send a b m ∷ h) g → IsSendAfter (chart_of g a) b (length (sent h a b)) (length (chart_of h a) + 1)
newest_send h g a b m begins = send_begun (Send a b m ∷ h) g begins a b (length (sent h a b)) (length (chart_of h a) + 1) (newest_is_send h a b m)

-- a receive belongs to the send that has as many before it as were received
pub newest_receive : (n k : ℕ) (h g : List Occurrence) → IsLegal n k g → (a b c : ℕ) → Begins (Receive a b c ∷ h) g → (s : Place) × BelongsTo (chart_of g) s (next_place h a) × (s.instance ≡ b) × (tally (is_send_to a) (chart_of g b) s.index ≡ received h b a + 1)
newest_receive n k h g legal a b c begins = go (waiting h b a) refl there.0.1
  where
    there : IsLegal n k (Receive a b c ∷ h)
    there = legal_begun n k (Receive a b c ∷ h) g begins legal

    go : (ms : List Content) → waiting h b a ≡ ms → 0 < length ms → (s : Place) × BelongsTo (chart_of g) s (next_place h a) × (s.instance ≡ b) × (tally (is_send_to a) (chart_of g b) s.index ≡ received h b a + 1)
    go [] none some = absurd (omega (arith, some))
    go (x ∷ rest) first some =
        let sender = send_of_first h b a x rest first in
        let its = newest_belongs n k h there.1 a b c x rest first sender.0 sender.1 in
        let here = IsEvent-from_passes (chart_of (Receive a b c ∷ h)) (is_receive_from b) (next_place h a) its.received in
        let still = send_begun (Receive a b c ∷ h) g begins b a (received h b a) sender.0 (send_begun h (Receive a b c ∷ h) (Receive a b c ∷ [], refl) b a (received h b a) sender.0 sender.1) in
        (at b sender.0, (belongs_begun n k (Receive a b c ∷ h) g there begins (at b sender.0) (next_place h a) here).0 its, refl, still.1)

-- it is an event of the beginning
pub newest_there : (n k : ℕ) (h g : List Occurrence) → IsLegal n k g → (a b c : ℕ) → Begins (Receive a b c ∷ h) g → IsEvent (chart_of (Receive a b c ∷ h)) (next_place h a)
newest_there n k h g legal a b c begins =
    let w = newest_receive n k h (Receive a b c ∷ h) (legal_begun n k (Receive a b c ∷ h) g begins legal) a b c ([], refl) in
    IsEvent-from_passes (chart_of (Receive a b c ∷ h)) (is_receive_from w.0.instance) (next_place h a) w.1.received
