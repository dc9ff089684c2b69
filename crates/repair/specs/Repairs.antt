-- Which message mends a race pair, how many pairs it leaves, and what is added one after another (this project's
-- profile; the races are those of Alur, Holzmann and Peled 1996 in it). Some pairs count, or all.
use Rattle.std.specs.Prelude.{◌≡◌, ℕ, ◌+◌, ◌-◌, ◌*◌, ◌<◌, ◌≤◌, Bool, true, false, List, [], ◌∷◌, length, map, slice_get, Some, All}
use Rattle.std.specs.List.{flat_map}
use Rattle.chart.specs.declared.instance.TheConstants.{MAX_INSTANCES}
use Rattle.chart.specs.declared.line.TheConstants.{MAX_EVENTS}
use Rattle.chart.specs.Charts.{Place, LineView, chart_lines}
use Rattle.chart.specs.Reports.{ReportView}
use Rattle.closure.specs.Faults.{place_of}
use Rattle.repair.specs.Counted.{CountedView, AreCounted}
use Rattle.repair.specs.Messages.{NewMessage, informing}
use Rattle.repair.specs.Growing.{message_of, line_with}
use Rattle.repair.specs.Mends.{IsAsked, IsMended}
use Rattle.repair.specs.Moves.{moved_counted}
use Rattle.repair.specs.declared.best.Addition.{Addition}
use Rattle.repair.specs.declared.pairs.RacePair.{RacePair}
use Rattle.repair.specs.Naming.{IsNewName}

-- the race pairs of a receive's report, and of several reports, one behind the other
abbrev pub pairs_of_report : ReportView → List RacePair
pairs_of_report report = map (λ e. record { earlier = e; receive = report.receive }) report.earlier

abbrev pub pairs_of : List ReportView → List RacePair
pairs_of reports = flat_map pairs_of_report reports

-- no more reports, and of none more events, than a chart can have
pub record AreFew (reports : List ReportView) : Type 0 where
  pub count : length reports ≤ MAX_INSTANCES * MAX_EVENTS
  pub each : All (λ report. length report.earlier ≤ MAX_EVENTS) reports

-- these are the race pairs of the chart with these lines that count, by instance, receive and earlier event
abbrev pub ArePairs : CountedView → List LineView → List RacePair → Type 0
ArePairs counted lines pairs = (reports : List ReportView) × AreCounted counted lines reports × (pairs ≡ pairs_of reports)

-- the chart with one message more
abbrev pub with_message : NewMessage → List LineView → List LineView
with_message m lines = map (line_with m) lines

-- both lines of the message have room for an event more
abbrev pub HasRoom : List LineView → NewMessage → Type 0
HasRoom lines m = (length (chart_lines lines m.sender) < MAX_EVENTS)
    × (length (chart_lines lines m.receiver) < MAX_EVENTS)

-- the message of this name that informs of the pair's earlier event mends it
pub record IsRepair (lines : List LineView) (pair : RacePair) (name : List ℕ) (m : NewMessage) : Type 0 where
  pub send : Place
  pub many : ℕ
  pub asked : IsAsked (chart_lines lines) (place_of pair.earlier) (place_of pair.receive) send many
  pub message : m ≡ informing pair.earlier.instance many send name
  pub room : HasRoom lines m
  pub mended : IsMended (length lines) (chart_lines lines) (place_of pair.earlier) (place_of pair.receive) m
      (chart_lines (with_message m lines))

-- where the pair is mended so many race pairs are left
abbrev pub Leaves : CountedView → List LineView → List ℕ → RacePair → ℕ → Type 0
Leaves counted lines name pair left = (m : NewMessage) × (pairs : List RacePair) × IsRepair lines pair name m
    × ArePairs (moved_counted m counted) (with_message m lines) pairs × (left ≡ length pairs)

-- the message that was added mends its pair, and leaves so many race pairs
pub record IsAdded (counted : CountedView) (lines : List LineView) (name : List ℕ) (added : Addition) (left : ℕ) : Type 0 where
  pub repair : IsRepair lines added.pair name (message_of added.message)
  pub pairs : List RacePair
  pub are : ArePairs (moved_counted (message_of added.message) counted) (with_message (message_of added.message) lines) pairs
  pub left_is : left ≡ length pairs

-- of the first so many of these pairs it is the first that leaves the fewest, fewer than these pairs are
pub record IsBestOf (counted : CountedView) (lines : List LineView) (name : List ℕ) (pairs : List RacePair) (many : ℕ)
    (added : Addition) (left : ℕ) : Type 0 where
  pub is : IsAdded counted lines name added left
  pub fewer : left < length pairs
  pub place : ℕ
  pub within : place < many
  pub here : slice_get pairs place ≡ Some added.pair
  pub least : (j : ℕ) (other : RacePair) (k : ℕ) → j < many → slice_get pairs j ≡ Some other → Leaves counted lines name other k
      → left ≤ k
  pub first : (j : ℕ) (other : RacePair) (k : ℕ) → j < place → slice_get pairs j ≡ Some other
      → Leaves counted lines name other k → left < k

-- none of the first so many leaves fewer than these pairs are
abbrev pub HasNoneOf : CountedView → List LineView → List ℕ → List RacePair → ℕ → Type 0
HasNoneOf counted lines name pairs many = (j : ℕ) (other : RacePair) (k : ℕ) → j < many → slice_get pairs j ≡ Some other
    → Leaves counted lines name other k → length pairs ≤ k

-- of all race pairs of the chart
abbrev pub IsBest : CountedView → List LineView → Addition → ℕ → Type 0
IsBest counted lines added left = (name : List ℕ) × (pairs : List RacePair) × IsNewName lines name
    × ArePairs counted lines pairs × IsBestOf counted lines name pairs (length pairs) added left

abbrev pub HasNone : CountedView → List LineView → Type 0
HasNone counted lines = (name : List ℕ) × (pairs : List RacePair) × IsNewName lines name
    × ArePairs counted lines pairs × HasNoneOf counted lines name pairs (length pairs)

-- each of the messages was added to the chart that those before it made, and was the best; behind the last there is none
pub data AreAdded : CountedView → List LineView → List Addition → CountedView → List LineView → Type 0 where
  none : {counted : CountedView} {lines : List LineView} → HasNone counted lines → AreAdded counted lines [] counted lines
  more : {counted at_end : CountedView} {lines last : List LineView} {added : Addition} {others : List Addition} (left : ℕ)
      → IsBest counted lines added left
      → AreAdded (moved_counted (message_of added.message) counted) (with_message (message_of added.message) lines) others at_end last
      → AreAdded counted lines (added ∷ others) at_end last

-- The same where at most so many pairs are tried. For each message all race pairs of the chart are; where they are more
-- than are left of the limit, none of them is, and it stops. So many were tried in all, and whether it stopped.
pub data AreTried : CountedView → ℕ → List LineView → List Addition → CountedView → List LineView → ℕ → Bool → Type 0 where
  last : {counted : CountedView} {limit : ℕ} {lines : List LineView} (pairs : List RacePair) → ArePairs counted lines pairs
      → length pairs ≤ limit → HasNone counted lines → AreTried counted limit lines [] counted lines (length pairs) false
  stopped : {counted : CountedView} {limit : ℕ} {lines : List LineView} (pairs : List RacePair) → ArePairs counted lines pairs
      → limit < length pairs → AreTried counted limit lines [] counted lines 0 true
  next : {counted at_end : CountedView} {limit tried : ℕ} {lines end : List LineView} {added : Addition}
      {others : List Addition} {is_stopped : Bool} (pairs : List RacePair) (left : ℕ) → ArePairs counted lines pairs
      → length pairs ≤ limit → IsBest counted lines added left
      → AreTried (moved_counted (message_of added.message) counted) (limit - length pairs)
      (with_message (message_of added.message) lines) others at_end end tried is_stopped
      → AreTried counted limit lines (added ∷ others) at_end end (length pairs + tried) is_stopped
