-- In each history no event comes before its causes; each run of a chart's events keeps the enforced order.
use Rattle.std.proofs.Common.{◌≡◌, ℕ, ◌≤◌, inl, inr, Bool, List, length, count_by, ap, ◌∙◌, arith, length-append}
use Rattle.std.proofs.lemmas.Bool.{cases_lt}
use Rattle.chart.specs.declared.history.Occurrence.{Occurrence}
use Rattle.chart.specs.declared.event.Event.{Event}
use Rattle.chart.specs.Events.{is_send_to, is_receive_from, tally}
use Rattle.chart.specs.Histories.{chart_of, IsLegal, Begins}
use Rattle.chart.specs.Charts.{Chart, Place}
use Rattle.chart.specs.Places.{IsEvent}
use Rattle.chart.specs.Order.{Before}
use Rattle.chart.specs.Order.Before.{direct, through}
use Rattle.chart.proofs.Tally.{Passes, tally-le, tally-lt, tally-append, tally_all}
use Rattle.chart.proofs.Belongs.{IsEvent-from_passes}
use Rattle.chart.proofs.Chains.{before_events}
use Rattle.chart.proofs.Begun.{legal_begun, grows_from_begun, before_begun}
use Rattle.chart.proofs.Existence.{send_or_receive}
use Rattle.chart.proofs.Histories.{begins_same}
use Rattle.chart.proofs.Lanes.{sent_count, received_count}
use Rattle.reordering.specs.OtherRuns.OtherRuns.{HasCome, KeepsCauses}
use Rattle.reordering.specs.OtherRuns.OtherRuns.HasCome.{was_sent, was_received}

-- if direct causes are kept, so is the enforced order
pub order_kept : {c : Chart} {e r : Place} → (g h : List Occurrence) → KeepsCauses c g → Begins h g → Before c e r → HasCome c h r → HasCome c h e
order_kept {e = e} {r = r} g h causes begins (direct step) come = causes h begins e r step come
order_kept g h causes begins (through x y) come = order_kept g h causes begins x (order_kept g h causes begins y come)

module _ (n k : ℕ) (g : List Occurrence) (legal : IsLegal n k g) where
  -- up to the end of a beginning's line there are its events
  whole_tally : (h : List Occurrence) → Begins h g → (test : Event → Bool) (p : ℕ) → tally test (chart_of g p) (length (chart_of h p)) ≡ count_by test (chart_of h p)
  whole_tally h begins test p =
      let w = grows_from_begun h g begins p in
      ap (λ l. tally test l (length (chart_of h p))) w.1 ∙ tally-append test (chart_of h p) w.0 (length (chart_of h p)) (omega arith) ∙ tally_all test (chart_of h p) (length (chart_of h p)) (omega arith)

  -- a place up to which no more events pass than in a beginning is one of the beginning
  old_place : (h : List Occurrence) → Begins h g → (test : Event → Bool) (e : Place) → IsEvent (chart_of g) e → tally test (chart_of g e.instance) e.index ≤ count_by test (chart_of h e.instance) → Passes test (chart_of g e.instance) e.index → IsEvent (chart_of h) e
  old_place h begins test e here le passes = (
    here.0,
    elim (cases_lt (length (chart_of h e.instance)) e.index) [
      | inl past ↦ absurd (omega (arith, le, whole_tally h begins test e.instance, tally-lt test (chart_of g e.instance) (length (chart_of h e.instance)) e.index past passes))
      | inr within ↦ within
    ],
  )

  -- an event that has come in a beginning is on its lines
  pub come_there : (h : List Occurrence) → Begins h g → (e : Place) → HasCome (chart_of g) h e → IsEvent (chart_of h) e
  come_there h begins e (was_sent q is le) = old_place h begins (is_send_to q) e (IsEvent-from_passes (chart_of g) (is_send_to q) e is) (omega (arith, le, sent_count h e.instance q)) is
  come_there h begins e (was_received q is le) = old_place h begins (is_receive_from q) e (IsEvent-from_passes (chart_of g) (is_receive_from q) e is) (omega (arith, le, received_count n k h (legal_begun n k h g begins legal) q e.instance)) is

  -- an event on its lines has come in a beginning
  pub there_come : (h : List Occurrence) → Begins h g → (e : Place) → IsEvent (chart_of h) e → HasCome (chart_of g) h e
  there_come h begins e here =
      let w = grows_from_begun h g begins e.instance in
      let still : IsEvent (chart_of g) e = (here.0, omega (arith, here.1, ap length w.1, length-append (chart_of h e.instance) w.0)) in
      elim (send_or_receive (chart_of g) e still) [
        | inl send ↦ was_sent send.0 send.1 (omega (arith, tally-le (is_send_to send.0) (chart_of g e.instance) e.index (length (chart_of h e.instance)) here.1, whole_tally h begins (is_send_to send.0) e.instance, sent_count h e.instance send.0))
        | inr receive ↦ was_received receive.0 receive.1 (omega (arith, tally-le (is_receive_from receive.0) (chart_of g e.instance) e.index (length (chart_of h e.instance)) here.1, whole_tally h begins (is_receive_from receive.0) e.instance, received_count n k h (legal_begun n k h g begins legal) receive.0 e.instance))
      ]

  -- in the end all events have come
  pub all_come : (e : Place) → IsEvent (chart_of g) e → HasCome (chart_of g) g e
  all_come e here = there_come g (begins_same g) e here

  -- a history is a run of its own chart's events
  pub keeps_causes : KeepsCauses (chart_of g) g
  keeps_causes h begins e f step come =
      let here = come_there h begins f come in
      let before = (before_begun n k h g (legal_begun n k h g begins legal) begins e f here).1 (direct step) in
      there_come h begins e (before_events before).0
