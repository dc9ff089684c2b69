-- A recorder in a chart that has its line.
use Rattle.std.proofs.Common.{◌≡◌, ℕ, ◌+◌, ◌≤◌, ◌⊎◌, inl, inr, true, max, List, [], ◌∷◌, ◌++◌, length, take, map, Some, refl, sym, ap, ◌∙◌, subst, arith, append_assoc}
use Rattle.std.proofs.lemmas.Bool.{cases_eq, eqb-true, eq-eqb}
use Rattle.std.proofs.lemmas.Option.{same_Some}
use Rattle.std.proofs.lemmas.List.{length-append}
use Rattle.std.proofs.Math.Seq.{take-append_seam}
use Rattle.chart.specs.declared.event.Event.{Event}
use Rattle.chart.specs.Events.{ith, send_event, receive_event, is_receive_from}
use Rattle.chart.specs.Charts.{Chart, Place, at, chart_event, IsSendTo, BelongsTo}
use Rattle.chart.specs.Order.{IsCyclic, IsReport, AreLineRaces, region_of_event}
use Rattle.chart.specs.Knowing.{IsKnown, IsGreatestHeard}
use Rattle.chart.specs.Reports.{ReportView}
use Rattle.chart.proofs.Tally.{ith-append, ith_push}
use Rattle.chart.proofs.Knowledge.{known_own, known_other, heard_at_first, heard_from_send, heard_at_send}
use Rattle.chart.proofs.Reports.{report_from_races}
use Rattle.clock.specs.Clocks.{entry_of}
use Rattle.clock.proofs.ClockLemmas.{length-merged}
use Rattle.line_recorder.specs.Recorders.{RecorderView, new_recorder, with_event, send_clock, after_send, after_receive, IsReportOf}
use Rattle.line_recorder.specs.Laws.{HasLine, next_place, IsOneOfItsOwn, KnowsWhatItHeard, IsClockOf}
use Rattle.clock.proofs.EntryLemmas.{entry_of-with_entry, entry_of-with_entry_other, length-with_entry, entry_of-merged, entry_of-zeros}

-- the new event is the chart's
chart_event-next : (c : Chart) (r : RecorderView) (m : Event) → HasLine c (with_event r.line m) → chart_event c (next_place r) ≡ Some m
chart_event-next c r m (more, is) =
    let events = r.line.events in
    ap (λ line. ith line (length events + 1)) is ∙ ith-append (events ++ m ∷ []) more (length events + 1) (omega (arith, length-append events (m ∷ []))) ∙ ith_push events m

-- before the new event, the chart has the recorder's line
line_before : (c : Chart) (r : RecorderView) (m : Event) → HasLine c (with_event r.line m) → take (length r.line.events) (c r.line.instance) ≡ r.line.events
line_before c r m (more, is) =
    let events = r.line.events in
    ap (take (length events)) (is ∙ append_assoc events (m ∷ []) more) ∙ take-append_seam events ((m ∷ []) ++ more)

-- a new send is the chart's
is_send : (c : Chart) (r : RecorderView) (to : ℕ) (name : List ℕ) → HasLine c (with_event r.line (send_event to name)) → IsSendTo c to (next_place r)
is_send c r to name has = (send_event to name, chart_event-next c r (send_event to name) has, eq-eqb to to refl)

pub new_recorder_knows : (c : Chart) (p n : ℕ) → KnowsWhatItHeard c (new_recorder p n)
new_recorder_knows c p n q low high other = subst (λ k. IsGreatestHeard c p 0 q k) (sym (entry_of-zeros n q high)) (heard_at_first c p q)

pub sender_knows : (c : Chart) (r : RecorderView) (to : ℕ) (name : List ℕ) → HasLine c (after_send r to name).line → KnowsWhatItHeard c r → KnowsWhatItHeard c (after_send r to name)
sender_knows c r to name has knows q low high other =
    let p = r.line.instance in
    let events = r.line.events in
    let within : q ≤ length r.knowledge = omega (arith, length-with_entry r.knowledge p (length events + 1)) in
    let heard = heard_at_send c to p (length events) q (entry_of r.knowledge q) (knows q low within other) (is_send c r to name has) in
    let longer : length events + 1 ≡ length (events ++ send_event to name ∷ []) = omega (arith, length-append events (send_event to name ∷ [])) in
    rw (entry_of-with_entry_other r.knowledge p q (length events + 1) other) (subst (λ n. IsGreatestHeard c p n q (entry_of r.knowledge q)) longer heard)

pub clock_of_send : (c : Chart) (r : RecorderView) (to : ℕ) (name : List ℕ) → IsOneOfItsOwn r → HasLine c (after_send r to name).line → (length (c r.line.instance) ≡ length r.line.events + 1) ⊎ (IsCyclic c → ⊥) → KnowsWhatItHeard c r → IsClockOf c (next_place r) (send_clock r)
clock_of_send c r to name own has last knows q low high =
    let p = r.line.instance in
    let i = length r.line.events in
    let sends = is_send c r to name has in
    elim (cases_eq q p) [
      | inl same ↦
          let e : entry_of (send_clock r) q ≡ i + 1 = ap (entry_of (send_clock r)) same ∙ entry_of-with_entry r.knowledge p (i + 1) own.0 own.1 in
          rw e (subst (λ x. IsKnown c (at p (i + 1)) x (i + 1)) (sym same) (known_own c to p (i + 1) sends last))
      | inr other ↦
          let within : q ≤ length r.knowledge = omega (arith, length-with_entry r.knowledge p (i + 1)) in
          rw (entry_of-with_entry_other r.knowledge p q (i + 1) other) (known_other c to p i q (entry_of r.knowledge q) sends other (knows q low within other))
    ]

pub receiver_knows : (c : Chart) (s : Place) (r : RecorderView) (from : ℕ) (name : List ℕ) (region : ℕ) (clock : List ℕ) (report : ReportView) → length clock ≡ length r.knowledge → BelongsTo c s (next_place r) → IsClockOf c s clock → KnowsWhatItHeard c r
    → KnowsWhatItHeard c (after_receive r from name region clock report)
receiver_knows c s r from name region clock report same belongs known knows q low high other =
    let p = r.line.instance in
    let events = r.line.events in
    let within : q ≤ length r.knowledge = omega (arith, length-merged r.knowledge clock (sym same)) in
    let heard = heard_from_send c s p (length events) q (entry_of r.knowledge q) (entry_of clock q) (knows q low within other) belongs (known q low (omega arith)) in
    let longer : length events + 1 ≡ length (events ++ receive_event from name region ∷ []) = omega (arith, length-append events (receive_event from name region ∷ [])) in
    rw (entry_of-merged r.knowledge clock q (sym same) within) (subst (λ n. IsGreatestHeard c p n q (max (entry_of r.knowledge q) (entry_of clock q))) longer heard)

pub report_of_receive : (c : Chart) (s : Place) (r : RecorderView) (from : ℕ) (name : List ℕ) (region : ℕ) (clock : List ℕ) (report : ReportView) → HasLine c (after_receive r from name region clock report).line → BelongsTo c s (next_place r) → IsKnown c s r.line.instance (entry_of clock r.line.instance)
    → IsReportOf r from region clock report → IsReport c (next_place r) (map (λ race. race.index) report.earlier)
report_of_receive c s r from name region clock report has belongs known is_report =
    let p = r.line.instance in
    let i = length r.line.events in
    let k = entry_of clock p in
    let m = receive_event from name region in
    let there = chart_event-next c r m has in
    let w = belongs.received in
    let sender : from ≡ s.instance = eqb-true from s.instance (subst (λ x. is_receive_from s.instance x ≡ true) (same_Some w.0 m (sym w.1 ∙ there)) w.2) in
    let of_region : region_of_event (chart_event c (next_place r)) ≡ region = ap region_of_event there in
    let indices = map (λ race. race.index) report.earlier in
    let races : AreLineRaces (take i (c p)) k s.instance region indices = rw (line_before c r m has, ← sender) is_report.races in
    report_from_races c s p i k region indices belongs of_region known races
