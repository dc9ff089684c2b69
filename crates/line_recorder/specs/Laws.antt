-- The laws of recorders: statements that the functions of `laws` prove. That a clock is what its event knows is from
-- Fidge 1988 and Mattern 1989. That one entry of a clock gives a report is this project's profile.
use Rattle.std.specs.Prelude.{◌≡◌, ℕ, ◌+◌, ◌<◌, ◌≤◌, ◌⊎◌, List, ◌∷◌, ◌++◌, length, map, slice_get, Some}
use Rattle.chart.specs.Words.{Name, Clock}
use Rattle.chart.specs.declared.history.Occurrence.{Occurrence}
use Rattle.chart.specs.declared.history.Occurrence.TheVariants.{Receive}
use Rattle.chart.specs.declared.event.Event.{Event}
use Rattle.chart.specs.Histories.{sent, waiting, chart_of, IsLegal}
use Rattle.chart.specs.Charts.{Chart, Place, at, LineView, BelongsTo}
use Rattle.chart.specs.Places.{IsSendAfter}
use Rattle.chart.specs.Order.{IsCyclic, IsReport}
use Rattle.chart.specs.Knowing.{IsKnown, IsGreatestHeard}
use Rattle.chart.specs.Reports.{ReportView}
use Rattle.clock.specs.Clocks.{entry_of}
use Rattle.line_recorder.specs.Carried.{knowledge_of, clocks_of, waiting_clocks}
use Rattle.line_recorder.specs.Recorders.{RecorderView, new_recorder, send_clock, after_send, after_receive, IsReportOf}

-- Any chart that has the recorder's line, at least as the first events of that instance.

-- the chart's line of this instance begins with these events
abbrev pub HasLine : Chart → LineView → Type 0
HasLine c l = (more : List Event) × (c l.instance ≡ l.events ++ more)

-- the place of the recorder's next event
abbrev pub next_place : RecorderView → Place
next_place r = at r.line.instance (length r.line.events + 1)

-- the recorder's instance is one of those of its clock
abbrev pub IsOneOfItsOwn : RecorderView → Type 0
IsOneOfItsOwn r = (1 ≤ r.line.instance) × (r.line.instance ≤ length r.knowledge)

-- its knowledge has for each other instance the greatest event heard of it on the line
abbrev pub KnowsWhatItHeard : Chart → RecorderView → Type 0
KnowsWhatItHeard c r = (q : ℕ) → 1 ≤ q → q ≤ length r.knowledge → (q ≡ r.line.instance → ⊥)
    → IsGreatestHeard c r.line.instance (length r.line.events) q (entry_of r.knowledge q)

-- the clock has for each instance what the send knows of it
abbrev pub IsClockOf : Chart → Place → Clock → Type 0
IsClockOf c s clock = (q : ℕ) → 1 ≤ q → q ≤ length clock → IsKnown c s q (entry_of clock q)

-- nothing is heard before the first event
abbrev pub NewRecorderLaw : Type 0
NewRecorderLaw = (c : Chart) (p n : ℕ) → KnowsWhatItHeard c (new_recorder p n)

-- the clock of a send has what the send knows; for its own line too, if the send is the last event of it or the chart
-- has no cycle
abbrev pub SendClockLaw : Type 0
SendClockLaw = (c : Chart) (r : RecorderView) (to : ℕ) (name : Name) → IsOneOfItsOwn r
    → HasLine c (after_send r to name).line → (length (c r.line.instance) ≡ length r.line.events + 1) ⊎ (IsCyclic c → ⊥)
    → KnowsWhatItHeard c r → IsClockOf c (next_place r) (send_clock r)

-- after a send the knowledge still has what was heard
abbrev pub SendKnowledgeLaw : Type 0
SendKnowledgeLaw = (c : Chart) (r : RecorderView) (to : ℕ) (name : Name) → HasLine c (after_send r to name).line
    → KnowsWhatItHeard c r → KnowsWhatItHeard c (after_send r to name)

-- after a receive the knowledge has what was heard, with what the message's send knows
abbrev pub ReceiveKnowledgeLaw : Type 0
ReceiveKnowledgeLaw = (c : Chart) (s : Place) (r : RecorderView) (from : ℕ) (name : Name) (region : ℕ)
    (clock : Clock) (report : ReportView) → length clock ≡ length r.knowledge → BelongsTo c s (next_place r)
    → IsClockOf c s clock → KnowsWhatItHeard c r
    → KnowsWhatItHeard c (after_receive r from name region clock report)

-- the report of a receive is that of the chart, if the clock's entry for the line is what the message's send knows of
-- it
abbrev pub ReceiveReportLaw : Type 0
ReceiveReportLaw = (c : Chart) (s : Place) (r : RecorderView) (from : ℕ) (name : Name) (region : ℕ) (clock : Clock)
    (report : ReportView) → HasLine c (after_receive r from name region clock report).line
    → BelongsTo c s (next_place r)
    → IsKnown c s r.line.instance (entry_of clock r.line.instance)
    → IsReportOf r from region clock report → IsReport c (next_place r) (map (λ race. race.index) report.earlier)

-- Along a legal history, whose charts grow event by event.

-- an instance knows of each other instance the greatest event heard of it on its line
abbrev pub CarriedKnowledgeLaw : Type 0
CarriedKnowledgeLaw = (n k : ℕ) (h : List Occurrence) → IsLegal n k h → (p q : ℕ) → 1 ≤ p → p ≤ n → 1 ≤ q → q ≤ n
    → (q ≡ p → ⊥) → IsGreatestHeard (chart_of h) p (length (chart_of h p)) q (entry_of (knowledge_of n h p) q)

-- each message has a clock
abbrev pub CarriedManyLaw : Type 0
CarriedManyLaw = (n : ℕ) (h : List Occurrence) (q p : ℕ) → length (clocks_of n h q p) ≡ length (sent h q p)

-- each of these clocks has an entry for each instance
abbrev pub CarriedEntriesLaw : Type 0
CarriedEntriesLaw = (n k : ℕ) (h : List Occurrence) → IsLegal n k h → (q p i : ℕ) (clock : Clock)
    → slice_get (clocks_of n h q p) i ≡ Some clock → length clock ≡ n

-- each of these clocks is what its message's send knows
abbrev pub CarriedClockLaw : Type 0
CarriedClockLaw = (n k : ℕ) (h : List Occurrence) → IsLegal n k h → (q p i j : ℕ) (clock : Clock)
    → slice_get (clocks_of n h q p) i ≡ Some clock → IsSendAfter (chart_of h q) p i j
    → IsClockOf (chart_of h) (at q j) clock

-- the report made from the clock of the first waiting message is the report of its receive
abbrev pub CarriedReportLaw : Type 0
CarriedReportLaw = (n k : ℕ) (h : List Occurrence) → IsLegal n k h → (p q c : ℕ) → 1 ≤ p → p ≤ n
    → 0 < length (waiting h q p) → (clock : Clock) (rest : List Clock) → waiting_clocks n h q p ≡ clock ∷ rest
    → (r : RecorderView) → r.line ≡ record { instance = p; events = chart_of h p } → (report : ReportView)
    → IsReportOf r q c clock report
    → IsReport (chart_of (Receive p q c ∷ h)) (next_place r) (map (λ race. race.index) report.earlier)
