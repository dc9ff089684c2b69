-- The order of a legal history's chart has no cycle.
use Rattle.std.proofs.Common.{◌≡◌, ℕ, ◌+◌, ◌≤◌, ◌==◌, ◌⊎◌, inl, inr, Bool, true, false, cond, List, [], ◌∷◌, length, Some, refl, sym, ap, ◌∙◌, subst, arith, eqb-true}
use Rattle.chart.specs.declared.history.Occurrence.{Occurrence}
use Rattle.chart.specs.declared.history.Occurrence.TheVariants.{Send, Receive, Close}
use Rattle.chart.specs.declared.event.Event.{Event}
use Rattle.chart.specs.Messages.{Content}
use Rattle.chart.specs.Events.{ith, is_send_to, send_event, receive_event}
use Rattle.chart.specs.Histories.{by, waiting, receive_of, line_gets, chart_of, IsLegal}
use Rattle.chart.specs.Charts.{Place, IsSendTo}
use Rattle.chart.specs.Order.{IsEarlier, Direct, IsCyclic}
use Rattle.chart.specs.Order.Direct.{message, to_send, same_sender}
use Rattle.chart.proofs.Tally.{ith_at, ith_from_append, ith_nil, ith_single}
use Rattle.chart.specs.Places.{IsEvent}
use Rattle.chart.proofs.Belongs.{IsEvent-from_event, IsEvent-from_passes, same_place, not_both}
use Rattle.chart.proofs.Chains.{Chain, chain_of, before_of, before_events}
use Rattle.chart.proofs.Chains.Chain.{only, then}
use Rattle.chart.proofs.Growing.{before_shrunk}
use Rattle.chart.proofs.Sends.{grows_by_event, sends_of}

-- an occurrence adds at most one event, to the line of its instance
one_event : (h : List Occurrence) (p : ℕ) (e : Occurrence) (j : ℕ) (m : Event) → ith (line_gets h p e) j ≡ Some m → (by e ≡ p) × (j ≡ 1)
one_event h p (Send a b x) j m at_j = go (a == p) refl at_j
  where
    go : (mine : Bool) → (a == p) ≡ mine → ith (cond mine (send_event b x.name ∷ []) []) j ≡ Some m → (by (Send a b x) ≡ p) × (j ≡ 1)
    go true its found = (eqb-true a p its, (ith_single (send_event b x.name) j m found).0)
    go false its found = absurd (ith_nil j m found)
one_event h p (Receive a b c) j m at_j = go (waiting h b a) (a == p) refl at_j
  where
    go : (ms : List Content) (mine : Bool) → (a == p) ≡ mine → ith (cond mine (receive_of ms b c) []) j ≡ Some m → (by (Receive a b c) ≡ p) × (j ≡ 1)
    go (x ∷ rest) true its found = (eqb-true a p its, (ith_single (receive_event b x.name c) j m found).0)
    go [] true its found = absurd (ith_nil j m found)
    go ms false its found = absurd (ith_nil j m found)
one_event h p (Close a b) j m at_j = absurd (ith_nil j m at_j)

-- an event of the chart is an old one, or the newest
pub event_cases : (h : List Occurrence) (e : Occurrence) (x : Place) → IsEvent (chart_of (e ∷ h)) x → IsEvent (chart_of h) x ⊎ ((by e ≡ x.instance) × (x.index ≡ length (chart_of h x.instance) + 1))
event_cases h e x here =
    let m = ith_at (chart_of (e ∷ h) x.instance) x.index here.0 here.1 in
    elim (ith_from_append (chart_of h x.instance) (line_gets h x.instance e) x.index m.0 m.1) [
      | inl old ↦ inl (IsEvent-from_event (chart_of h) x m.0 old)
      | inr new ↦ let w = one_event h x.instance e new.0 m.0 new.2 in inr (w.0, omega (arith, new.1, w.1))
    ]

-- an event earlier than the newest one is an old one
above_newest : (h : List Occurrence) (d x : Place) → x.index ≡ length (chart_of h x.instance) + 1 → IsEarlier d x → IsEvent (chart_of h) d
above_newest h d x last l = (l.begun, subst (λ p. d.index ≤ length (chart_of h p)) (sym l.line) (omega (arith, l.less)))

-- an event directly before the newest one is an old one
from_old : (h : List Occurrence) (e : Occurrence) (d x : Place) → (by e ≡ x.instance) × (x.index ≡ length (chart_of h x.instance) + 1) → Direct (chart_of (e ∷ h)) d x → IsEvent (chart_of h) d
from_old h e d x newest (to_send q l s) = above_newest h d x newest.1 l
from_old h e d x newest (same_sender q l y z) = above_newest h d x newest.1 l
from_old h e d x newest (message b) =
    elim (event_cases h e d (IsEvent-from_passes (chart_of (e ∷ h)) (is_send_to x.instance) d b.sent)) [
      | inl old ↦ old
      | inr new ↦
          let line = sym new.0 ∙ newest.0 in
          let same = same_place d x line (new.1 ∙ ap (λ p. length (chart_of h p) + 1) line ∙ sym newest.1) in
          absurd (not_both (chart_of (e ∷ h)) x.instance d.instance x (subst (λ z. IsSendTo (chart_of (e ∷ h)) x.instance z) same b.sent) b.received)
    ]

-- no event is before itself
pub acyclic : (n k : ℕ) (h : List Occurrence) → IsLegal n k h → IsCyclic (chart_of h) → ⊥
acyclic n k [] legal (x, before) = let w = (before_events before).0 in omega arith
acyclic n k (e ∷ h) legal (x, before) =
    elim (event_cases h e x (before_events before).0) [
      | inl old ↦ acyclic n k h legal.1 (x, before_shrunk (chart_of h) (chart_of (e ∷ h)) (grows_by_event h e) (sends_of n k h legal.1) x x old before)
      | inr newest ↦ newest_is_last newest x (chain_of before) refl
    ]
  where
    newest_is_last : (by e ≡ x.instance) × (x.index ≡ length (chart_of h x.instance) + 1) → (y : Place) → Chain (chart_of (e ∷ h)) x y → y ≡ x → ⊥
    newest_is_last newest y (only s) same =
        let old = from_old h e x x newest (subst (λ z. Direct (chart_of (e ∷ h)) x z) same s) in
        omega (arith, old.1, newest.1)
    newest_is_last newest y (then {d = d} c s) same =
        let old = from_old h e d x newest (subst (λ z. Direct (chart_of (e ∷ h)) d z) same s) in
        let was = before_shrunk (chart_of h) (chart_of (e ∷ h)) (grows_by_event h e) (sends_of n k h legal.1) x d old (before_of c) in
        omega (arith, (before_events was).0.1, newest.1)
