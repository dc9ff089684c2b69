-- The enforced order as chains of direct steps, taken apart at the last step.
use Rattle.std.proofs.Common.{◌≡◌, ℕ, ◌≤◌, ◌⊎◌, inl, inr, refl, sym, ◌∙◌, subst, arith}
use Rattle.chart.specs.Events.{is_send_to, is_receive_from}
use Rattle.chart.specs.Charts.{Chart, Place, at, IsSendTo, IsReceiveFrom, BelongsTo}
use Rattle.chart.specs.Order.{IsEarlier, Direct, Before}
use Rattle.chart.specs.Order.Direct.{message, to_send, same_sender}
use Rattle.chart.specs.Order.Before.{direct, through}
use Rattle.chart.specs.Knowing.{IsUpTo}
use Rattle.chart.specs.Places.{IsEvent}
use Rattle.chart.proofs.Belongs.{IsEvent-from_passes, IsEarlier-trans, not_both, one_sender, same_send, earlier_send}

-- e is enforced before f, with the last direct step at hand
pub data Chain (c : Chart) (e : Place) : Place → Type 0 where
  only : {f : Place} → Direct c e f → Chain c e f
  then : {d f : Place} → Chain c e d → Direct c d f → Chain c e f

-- one chain after another
joined : {c : Chart} {e d f : Place} → Chain c e d → Chain c d f → Chain c e f
joined x (only s) = then x s
joined x (then y s) = then (joined x y) s

-- each ordered pair has a chain, which ends in a direct step
pub chain_of : {c : Chart} {e f : Place} → Before c e f → Chain c e f
chain_of (direct s) = only s
chain_of (through x y) = joined (chain_of x) (chain_of y)

-- the ends of a chain are in order
pub before_of : {c : Chart} {e f : Place} → Chain c e f → Before c e f
before_of (only s) = direct s
before_of (then x s) = through (before_of x) (direct s)

-- a direct step is between events
pub direct_events : (c : Chart) (e f : Place) → Direct c e f → IsEvent c e × IsEvent c f
direct_events c e f (message b) = (IsEvent-from_passes c (is_send_to f.instance) e b.sent, IsEvent-from_passes c (is_receive_from e.instance) f b.received)
direct_events c e f (to_send q l s) = let w = IsEvent-from_passes c (is_send_to q) f s in ((l.begun, rw l.line (let m = l.less in omega arith)), w)
direct_events c e f (same_sender q l r s) = (IsEvent-from_passes c (is_receive_from q) e r, IsEvent-from_passes c (is_receive_from q) f s)

-- both places of an ordered pair have events
pub before_events : {c : Chart} {e f : Place} → Before c e f → IsEvent c e × IsEvent c f
before_events {c = c} {e = e} {f = f} (direct s) = direct_events c e f s
before_events (through x y) = ((before_events x).0, (before_events y).1)

-- an event that is t or before it is before a later send of t's line
pub before_later_send : (c : Chart) (q : ℕ) (e t s : Place) → IsUpTo c t e → IsEarlier t s → IsSendTo c q s → Before c e s
before_later_send c q e t s (inl same) l sends = subst (λ x. Before c x s) (sym same) (direct (to_send q l sends))
before_later_send c q e t s (inr before) l sends = through before (direct (to_send q l sends))

-- a send and what is before it are before its receive
pub before_its_receive : (c : Chart) (e s r : Place) → IsUpTo c s e → BelongsTo c s r → Before c e r
before_its_receive c e s r (inl same) b = subst (λ x. Before c x r) (sym same) (direct (message b))
before_its_receive c e s r (inr before) b = through before (direct (message b))

-- the last step to a receive is from its send, or from an earlier receive from the same sender
last_step : (c : Chart) (d r s : Place) → Direct c d r → BelongsTo c s r → (d ≡ s) ⊎ (IsEarlier d r × IsReceiveFrom c s.instance d)
last_step c d r s (message x) b = inl (same_send c d s r x b)
last_step c d r s (to_send q l x) b = absurd (not_both c q s.instance r x b.received)
last_step c d r s (same_sender q l x y) b = inr (l, subst (λ a. IsReceiveFrom c a d) (one_sender c q s.instance r y b.received) x)

-- an event before a receive is an earlier receive from its sender, or its send, or an event before this send
pub before_receive : {c : Chart} {e r : Place} → Chain c e r → (s : Place) → BelongsTo c s r → (IsEarlier e r × IsReceiveFrom c s.instance e) ⊎ IsUpTo c s e
before_receive {c = c} {e = e} {r = r} (only x) s b =
    elim (last_step c e r s x b) [ inl same ↦ inr (inl same) | inr w ↦ inl w ]
before_receive {c = c} {e = e} {r = r} (then {d = d} x y) s b =
    elim (last_step c d r s y b) [
      | inl same ↦ inr (inr (subst (λ z. Before c e z) same (before_of x)))
      | inr w ↦
          let t = earlier_send c s r d b w.0 w.1 in
          elim (before_receive x t.0 t.1) [
            | inl v ↦ inl (IsEarlier-trans e d r v.0 w.0, subst (λ a. IsReceiveFrom c a e) t.2.line v.1)
            | inr v ↦ inr (inr (before_later_send c r.instance e t.0 s v t.2 b.sent))
          ]
    ]

-- let an event of a line be directly before f. An earlier event of the line is then before f too, or f is a later
-- receive of the line
step_from_later : (c : Chart) (d e f : Place) → IsEarlier d e → Direct c e f → Before c d f ⊎ (IsEarlier e f × ((q : ℕ) × IsReceiveFrom c q f))
step_from_later c d e f l (message b) = inl (through (direct (to_send f.instance l b.sent)) (direct (message b)))
step_from_later c d e f l (to_send q m s) = inl (direct (to_send q (IsEarlier-trans d e f l m) s))
step_from_later c d e f l (same_sender q m x y) = inr (m, (q, y))

-- the same if the event is before f in several steps
from_later : {c : Chart} {e f : Place} → Chain c e f → (d : Place) → IsEarlier d e → Before c d f ⊎ (IsEarlier e f × ((q : ℕ) × IsReceiveFrom c q f))
from_later {c = c} {e = e} {f = f} (only x) d l = step_from_later c d e f l x
from_later {c = c} {e = e} {f = f} (then {d = m} x y) d l =
    elim (from_later x d l) [
      | inl before ↦ inl (through before (direct y))
      | inr w ↦
          elim (step_from_later c d m f (IsEarlier-trans d e m l w.0) y) [
            | inl before ↦ inl before
            | inr v ↦ inr (IsEarlier-trans e m f w.0 v.0, v.1)
          ]
    ]

-- let e be a send or before it: then an earlier event of e's line is before this send
pub before_from_above : (c : Chart) (q : ℕ) (s d e : Place) → IsSendTo c q s → IsEarlier d e → IsUpTo c s e → Before c d s
before_from_above c q s d e sends l (inl same) = direct (to_send q (subst (λ x. IsEarlier d x) same l) sends)
before_from_above c q s d e sends l (inr before) =
    elim (from_later (chain_of before) d l) [
      | inl w ↦ w
      | inr w ↦ absurd (not_both c q w.1.0 s sends w.1.1)
    ]

-- a receive of the line, f or an earlier one, belongs to a send that is e or after it
abbrev pub IsHeardBy : (c : Chart) (f e : Place) → Type 0
IsHeardBy c f e = (l : ℕ) × (t : Place) × (l ≤ f.index) × BelongsTo c t (at f.instance l) × IsUpTo c t e

-- an event that is heard of earlier on a line is heard of later too
heard_below : (c : Chart) (d f e : Place) → IsEarlier d f → IsHeardBy c d e → IsHeardBy c f e
heard_below c d f e l (i, t, le, b, up) = (i, t, omega (arith, l.less), subst (λ a. BelongsTo c t (at a i)) l.line b, up)

-- an event of another line that is before an event was heard of there
pub heard_from : {c : Chart} {e f : Place} → Chain c e f → (e.instance ≡ f.instance → ⊥) → IsHeardBy c f e
heard_from {e = e} {f = f} (only (message b)) differs = (f.index, e, omega arith, b, inl refl)
heard_from (only (to_send q l s)) differs = absurd (differs l.line)
heard_from (only (same_sender q l x y)) differs = absurd (differs l.line)
heard_from {f = f} (then {d = d} x (message b)) differs = (f.index, d, omega arith, b, inr (before_of x))
heard_from {c = c} {e = e} {f = f} (then {d = d} x (to_send q l s)) differs = heard_below c d f e l (heard_from x (λ p. differs (p ∙ l.line)))
heard_from {c = c} {e = e} {f = f} (then {d = d} x (same_sender q l y z)) differs = heard_below c d f e l (heard_from x (λ p. differs (p ∙ l.line)))
