-- Laws of every run on a board, of the differences on its lanes, and of what a later history leaves as it was:
-- statements that `laws` proves. That a clock has what its send knows is vector time (Fidge 1988, Mattern 1989), and
-- that differences carry it is from Singhal and Kshemkalyani (1992). The others are this project's profile.
use Rattle.std.specs.Prelude.{◌≡◌, ℕ, ◌≤◌, List, ◌++◌, length, map, take, slice_get, Some, All}
use Rattle.chart.specs.Words.{Clock}
use Rattle.chart.specs.declared.history.Occurrence.{Occurrence}
use Rattle.chart.specs.Charts.{at, chart_event}
use Rattle.chart.specs.Events.{send_event}
use Rattle.chart.specs.Histories.{own, sent, received, is_closed, chart_of, IsLegal, Begins}
use Rattle.chart.specs.Places.{IsEvent, IsSendAfter}
use Rattle.chart.specs.Reports.{ReportView, IsReportIn, receives_of}
use Rattle.clock.specs.declared.diff.Change.{Change}
use Rattle.lane_core.specs.Traffic.{Traffic}
use Rattle.line_recorder.specs.Carried.{clocks_of}
use Rattle.line_recorder.specs.Laws.{IsClockOf}
use Rattle.line_recorder.specs.Recording.{IsRecorder}
use Rattle.board_core.specs.Parcels.{Parcel, clocks, next_clock, goods}
use Rattle.board_core.specs.Differences.{zeros, AreDiffs, restored}
use Rattle.board_core.specs.Steps.{Step}
use Rattle.board_core.specs.Runs.{IsRun, world_after, history_of, reports_of}

-- what passed through the lane from q to p in these steps
abbrev pub traffic_of : ℕ → ℕ → List Step → ℕ → ℕ → Traffic Parcel
traffic_of n k steps q p = ((world_after n k steps).lanes q p).traffic

-- Every run.

-- its history is legal
abbrev pub LegalLaw : Type 0
LegalLaw = (n k : ℕ) (steps : List Step) → IsRun n k steps → IsLegal n k (history_of n k steps)

-- each lane has passed on what the history states: which messages were published, which first ones of them were
-- received, and whether the lane is closed
abbrev pub LaneLaw : Type 0
LaneLaw = (n k : ℕ) (steps : List Step) → IsRun n k steps → (q p : ℕ)
    → ((traffic_of n k steps q p).published ≡ goods n (history_of n k steps) q p)
    × ((traffic_of n k steps q p).freed ≡ take (received (history_of n k steps) q p)
    (goods n (history_of n k steps) q p))
    × ((traffic_of n k steps q p).closed ≡ is_closed (history_of n k steps) q p)

-- the send at this place is the i-th of the lane, and has this parcel's message; the parcel's clock is what the send
-- knows of each of n instances
pub record IsSendOf (n : ℕ) (h : List Occurrence) (q p i j : ℕ) (x : Parcel) : Type 0 where
  pub send : IsSendAfter (chart_of h q) p i j
  pub name : chart_event (chart_of h) (at q j) ≡ Some (send_event p x.message.name)
  pub entries : length x.clock ≡ n
  pub clock : IsClockOf (chart_of h) (at q j) x.clock

-- each published parcel has its send in the history's chart, and its clock is what that send knows
abbrev pub ClockLaw : Type 0
ClockLaw = (n k : ℕ) (steps : List Step) → IsRun n k steps → (q p i : ℕ) (x : Parcel)
    → slice_get (traffic_of n k steps q p).published i ≡ Some x → (j : ℕ) × IsSendOf n (history_of n k steps) q p i j x

-- p's receives carry the reports of the receives of its line in the history's chart, in order
abbrev pub ReportLaw : Type 0
ReportLaw = (n k : ℕ) (steps : List Step) → IsRun n k steps → (p : ℕ) → 1 ≤ p → p ≤ n
    → (map (λ (report : ReportView). report.receive) (reports_of p steps)
    ≡ receives_of (record { instance = p; events = chart_of (history_of n k steps) p }))
    × All (IsReportIn (chart_of (history_of n k steps))) (reports_of p steps)

-- each recorder has its instance's line of this chart, what the instance knows, and these reports
abbrev pub RecorderLaw : Type 0
RecorderLaw = (n k : ℕ) (steps : List Step) → IsRun n k steps → (p : ℕ) → 1 ≤ p → p ≤ n
    → IsRecorder n (history_of n k steps) p ((world_after n k steps).recorders p)
    × (((world_after n k steps).recorders p).reports ≡ reports_of p steps)

-- Differences on a lane of a legal history.

-- differences exist: each names exactly the instances whose entries differ, in rising order
abbrev pub DifferencesLaw : Type 0
DifferencesLaw = (n k : ℕ) (h : List Occurrence) → IsLegal n k h
    → (q p : ℕ) → (diffs : List (List Change)) × AreDiffs (zeros n) (clocks (goods n h q p)) diffs

-- applied in order from zeros, they give the clocks of the lane's sends
abbrev pub RestoringLaw : Type 0
RestoringLaw = (n k : ℕ) (h : List Occurrence) → IsLegal n k h
    → (q p : ℕ) (diffs : List (List Change)) → AreDiffs (zeros n) (clocks (goods n h q p)) diffs
    → restored (zeros n) diffs ≡ clocks (goods n h q p)

-- so the i-th one gives what that send knows of each of n instances
abbrev pub KnowledgeLaw : Type 0
KnowledgeLaw = (n k : ℕ) (h : List Occurrence) → IsLegal n k h
    → (q p : ℕ) (diffs : List (List Change)) → AreDiffs (zeros n) (clocks (goods n h q p)) diffs
    → (i j : ℕ) → IsSendAfter (chart_of h q) p i j
    → (clock : Clock) × (slice_get (restored (zeros n) diffs) i ≡ Some clock)
    × (length clock ≡ n) × IsClockOf (chart_of h) (at q j) clock

-- for every run they give the clocks of the published messages
abbrev pub RunRestoringLaw : Type 0
RunRestoringLaw = (n k : ℕ) (steps : List Step) → IsRun n k steps
    → (q p : ℕ) (diffs : List (List Change)) → AreDiffs (zeros n) (clocks (traffic_of n k steps q p).published) diffs
    → restored (zeros n) diffs ≡ clocks (traffic_of n k steps q p).published

-- Histories that begin with another one.

-- a lane carries the messages that were sent on it, with their clocks
abbrev pub GoodsLaw : Type 0
GoodsLaw = (n : ℕ) (h : List Occurrence) (q p : ℕ)
    → (map (λ (x : Parcel). x.message) (goods n h q p) ≡ sent h q p)
    × (map (λ (x : Parcel). x.clock) (goods n h q p) ≡ clocks_of n h q p)

-- what a lane carries only grows
abbrev pub GoodsGrowthLaw : Type 0
GoodsGrowthLaw = (n : ℕ) (h g : List Occurrence) → Begins h g
    → (q p : ℕ) → (more : List Parcel) × (goods n g q p ≡ goods n h q p ++ more)

-- an instance's line, and the clock of its next send, stay the same if all new events are those of others
abbrev pub OthersLaw : Type 0
OthersLaw = (n : ℕ) (h g : List Occurrence) → Begins h g → (p : ℕ) → own g p ≡ own h p
    → (chart_of g p ≡ chart_of h p) × (next_clock n g p ≡ next_clock n h p)

-- a clock is still what its send knows
abbrev pub ClockGrowthLaw : Type 0
ClockGrowthLaw = (n k : ℕ) (h g : List Occurrence) → IsLegal n k h → Begins h g
    → (q j : ℕ) (clock : Clock) → IsEvent (chart_of h) (at q j)
    → IsClockOf (chart_of h) (at q j) clock → IsClockOf (chart_of g) (at q j) clock

-- a report is still that of its receive
abbrev pub ReportGrowthLaw : Type 0
ReportGrowthLaw = (n k : ℕ) (h g : List Occurrence) → IsLegal n k h → Begins h g
    → (report : ReportView) → IsEvent (chart_of h) (at report.receive.instance report.receive.index)
    → IsReportIn (chart_of h) report → IsReportIn (chart_of g) report

-- every legal history is that of a run
abbrev pub HistoryLaw : Type 0
HistoryLaw = (n k : ℕ) (h : List Occurrence) → IsLegal n k h
    → (steps : List Step) × IsRun n k steps × (history_of n k steps ≡ h)
