-- The events up to a receive, as numbers of sends and receives of each lane: on each line all that its send knows, and
-- on its own the receives from the same sender.
use Rattle.std.proofs.Common.{◌≡◌, ℕ, ◌≤◌, ◌⊎◌, inl, inr, ◌==◌, max, Bool, true, false, cond, List, refl, sym, ap, subst, arith, eqb-true}
use Rattle.std.specs.Prelude.{if◌then◌else◌}
use Rattle.std.proofs.lemmas.Bool.{cases_lt, cases_eq, and_parts}
use Rattle.chart.specs.declared.history.Occurrence.{Occurrence}
use Rattle.chart.specs.declared.event.Event.{Event}
use Rattle.chart.specs.Events.{is_send_to, is_receive_from, tally}
use Rattle.chart.specs.Histories.{is_lane, chart_of, IsLegal}
use Rattle.chart.specs.Charts.{Place, IsReceiveFrom, BelongsTo}
use Rattle.chart.specs.Places.{IsEvent}
use Rattle.chart.specs.Order.{Direct}
use Rattle.chart.specs.Order.Direct.{same_sender}
use Rattle.chart.specs.Order.Before.{direct, through}
use Rattle.chart.specs.Knowing.{IsUpTo}
use Rattle.chart.proofs.Tally.{Passes, tally-le, tally-lt}
use Rattle.chart.proofs.Belongs.{IsEvent-from_passes, same_place}
use Rattle.chart.proofs.Chains.{chain_of, before_receive, before_its_receive}
use Rattle.chart.proofs.Knowledge.{known_front, up_to_event}
use Rattle.chart.proofs.Existence.{send_or_receive, known_exists}
use Rattle.chart.proofs.Histories.{is_lane-same}
use Rattle.reordering.specs.OtherRuns.Walks.{Turns}
use Rattle.reordering.proofs.OtherRunsLemmas.Turns.{IsWithin}
use Rattle.reordering.proofs.OtherRunsLemmas.Turns.IsWithin.{send, receive}

-- if there are no more events up to one that passes than up to a place, the event isn't past the place
pub turn_from_place : (test : Event → Bool) (line : List Event) (i j : ℕ) → Passes test line i → tally test line i ≤ tally test line j → i ≤ j
turn_from_place test line i j passes le = elim (cases_lt j i) [
  | inl past ↦ absurd (omega (arith, le, tally-lt test line j i past passes))
  | inr within ↦ within
]

module _ (n k : ℕ) (h : List Occurrence) (legal : IsLegal n k h) (s r : Place) (belongs : BelongsTo (chart_of h) s r) where
  -- the number of events of a line that the send knows
  abbrev pub known : ℕ → ℕ
  known p = (known_exists n k h legal r.instance s belongs.sent p).0

  -- the receives of a lane, also those up to r if it is its own
  abbrev pub bound : ℕ → ℕ → ℕ
  bound q p = if is_lane q p s.instance r.instance then max (known p) r.index else known p

  abbrev pub past_sends : Turns
  past_sends q p = tally (is_send_to p) (chart_of h q) (known q)

  abbrev pub past_receives : Turns
  past_receives q p = tally (is_receive_from q) (chart_of h p) (bound q p)

  -- an event is the send or before it exactly if it is known
  front : (e : Place) → 1 ≤ e.index → (IsUpTo (chart_of h) s e → e.index ≤ known e.instance) × (e.index ≤ known e.instance → IsUpTo (chart_of h) s e)
  front e low = known_front (chart_of h) r.instance s e.instance (known e.instance) belongs.sent (known_exists n k h legal r.instance s belongs.sent e.instance).1 e.index low

  bound-known : (q p : ℕ) → known p ≤ bound q p
  bound-known q p = go (is_lane q p s.instance r.instance)
    where
      go : (own : Bool) → known p ≤ cond own (max (known p) r.index) (known p)
      go true = omega arith
      go false = omega arith

  bound-own : r.index ≤ bound s.instance r.instance
  bound-own = rw (is_lane-same s.instance r.instance) (omega arith)

  bound-cases : (q p i : ℕ) → i ≤ bound q p → (i ≤ known p) ⊎ ((q ≡ s.instance) × (p ≡ r.instance) × (i ≤ r.index))
  bound-cases q p i le = go (is_lane q p s.instance r.instance) refl le
    where
      go : (own : Bool) → is_lane q p s.instance r.instance ≡ own → i ≤ cond own (max (known p) r.index) (known p) → (i ≤ known p) ⊎ ((q ≡ s.instance) × (p ≡ r.instance) × (i ≤ r.index))
      go true lane within =
          let ends = and_parts (q == s.instance) (p == r.instance) lane in
          elim (cases_lt (known p) i) [
            | inl past ↦ inr (eqb-true q s.instance ends.0, eqb-true p r.instance ends.1, omega (arith, past, within))
            | inr le ↦ inl le
          ]
      go false lane within = inl within

  -- a known event is within
  within_known : (e : Place) → IsEvent (chart_of h) e → e.index ≤ known e.instance → IsWithin (chart_of h) past_sends past_receives e
  within_known e here le = elim (send_or_receive (chart_of h) e here) [
    | inl is ↦ send is.0 is.1 (tally-le (is_send_to is.0) (chart_of h e.instance) e.index (known e.instance) le)
    | inr is ↦ receive is.0 is.1 (tally-le (is_receive_from is.0) (chart_of h e.instance) e.index (bound is.0 e.instance) (omega (arith, le, bound-known is.0 e.instance)))
  ]

  -- so is a receive from the same sender, up to r
  within_own : (e : Place) → e.instance ≡ r.instance → e.index ≤ r.index → IsReceiveFrom (chart_of h) s.instance e → IsWithin (chart_of h) past_sends past_receives e
  within_own e line le from =
      let own : e.index ≤ bound s.instance e.instance = subst (λ p. e.index ≤ bound s.instance p) (sym line) (omega (arith, le, bound-own)) in
      receive s.instance from (tally-le (is_receive_from s.instance) (chart_of h e.instance) e.index (bound s.instance e.instance) own)

  -- an event that is r or before it is within
  pub within_up : (e : Place) → IsUpTo (chart_of h) r e → IsWithin (chart_of h) past_sends past_receives e
  within_up e (inl same) = within_own e (ap (λ x. x.instance) same) (omega (arith, ap (λ x. x.index) same)) (subst (λ x. IsReceiveFrom (chart_of h) s.instance x) (sym same) belongs.received)
  within_up e (inr before) = elim (before_receive (chain_of before) s belongs) [
    | inl own ↦ within_own e own.0.line (omega (arith, own.0.less)) own.1
    | inr up ↦
        let here = up_to_event (chart_of h) s e (IsEvent-from_passes (chart_of h) (is_send_to r.instance) s belongs.sent) up in
        within_known e here ((front e here.0).0 up)
  ]

  -- a known event is before r
  up_known : (e : Place) → 1 ≤ e.index → e.index ≤ known e.instance → IsUpTo (chart_of h) r e
  up_known e low le = inr (before_its_receive (chart_of h) e s r ((front e low).1 le) belongs)

  -- an event that is within is r or before it
  pub up_within : (e : Place) → IsWithin (chart_of h) past_sends past_receives e → IsUpTo (chart_of h) r e
  up_within e (send q is le) = up_known e (IsEvent-from_passes (chart_of h) (is_send_to q) e is).0 (turn_from_place (is_send_to q) (chart_of h e.instance) e.index (known e.instance) is le)
  up_within e (receive q is le) =
      let here = IsEvent-from_passes (chart_of h) (is_receive_from q) e is in
      elim (bound-cases q e.instance e.index (turn_from_place (is_receive_from q) (chart_of h e.instance) e.index (bound q e.instance) is le)) [
        | inl old ↦ up_known e here.0 old
        | inr own ↦
            elim (cases_eq e.index r.index) [
              | inl last ↦ inl (same_place e r own.1 last)
              | inr differs ↦ inr (direct (same_sender s.instance (record { line = own.1; begun = here.0; less = omega (arith, own.2, differs) }) (subst (λ a. IsReceiveFrom (chart_of h) a e) own.0 is) belongs.received))
            ]
      ]

  -- an event directly before one within is within
  pub closed : (e f : Place) → Direct (chart_of h) e f → IsWithin (chart_of h) past_sends past_receives f → IsWithin (chart_of h) past_sends past_receives e
  closed e f step within = elim (up_within f within) [
    | inl same ↦ within_up e (inr (direct (subst (λ x. Direct (chart_of h) e x) same step)))
    | inr before ↦ within_up e (inr (through (direct step) before))
  ]
