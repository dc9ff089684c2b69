-- What is before an event, by the kind of the event.
use Rattle.std.proofs.Common.{◌≡◌, ℕ, suc, ◌<◌, ◌≤◌, ◌↔◌, ◌⊎◌, inl, inr, List, length, arith}
use Rattle.chart.specs.Charts.{Chart, Place, LineView, BelongsTo, chart_lines}
use Rattle.chart.specs.Order.{Before}
use Rattle.chart.specs.Order.Direct.{same_sender}
use Rattle.chart.specs.Order.Before.{direct}
use Rattle.chart.specs.Knowing.{IsUpTo}
use Rattle.chart.proofs.Chains.{chain_of, before_events, before_receive, before_its_receive}
use Rattle.closure.specs.Searches.{IsEarlierReceive}
use Rattle.closure.proofs.ReadLemmas.{instance_within}

-- nothing is before a place that is on no line
pub none_before : (lines : List LineView) (e f : Place) (p : ℕ) → f.instance ≡ suc p → length lines ≤ p → Before (chart_lines lines) e f → ⊥
none_before lines e f p is past before = let w = instance_within lines f (before_events before).1 in omega (arith, w.1, w.2)

-- nothing is before a place of a line that has no event
pub none_before_index : (c : Chart) (e f : Place) → (f.index ≡ 0) ⊎ (length (c f.instance) < f.index) → Before c e f → ⊥
none_before_index c e f (inl zero) before = let w = (before_events before).1 in omega arith
none_before_index c e f (inr past) before = let w = (before_events before).1 in omega arith

-- the events before a send are those that it knows, except for itself
pub before_send : (c : Chart) (e s : Place) → (e ≡ s → ⊥) → IsUpTo c s e ↔ Before c e s
before_send c e s differs = (λ up. elim up [ inl same ↦ absurd (differs same) | inr before ↦ before ], λ before. inr before)

-- an event before a receive is an earlier receive from its sender, or the receive's send, or before this send
pub before_received : (c : Chart) (e s r : Place) → BelongsTo c s r → Before c e r ↔ (IsEarlierReceive c s.instance e r ⊎ IsUpTo c s e)
before_received c e s r belongs = (
  λ before. before_receive (chain_of before) s belongs,
  λ h. elim h [
    | inl received ↦ direct (same_sender s.instance received.0 received.1 belongs.received)
    | inr up ↦ before_its_receive c e s r up belongs
  ],
)

-- the same if the event is none of these receives
pub before_received_up : (c : Chart) (e s r : Place) → BelongsTo c s r → (IsEarlierReceive c s.instance e r → ⊥) → IsUpTo c s e ↔ Before c e r
before_received_up c e s r belongs other =
    let both = before_received c e s r belongs in
    (λ up. both.1 (inr up), λ before. elim (both.0 before) [ inl received ↦ absurd (other received) | inr up ↦ up ])
