-- Which steps a board's instances may make, and its runs: any such steps of all of them, in any order (this project's
-- profile). A run is a list of steps, the newest first.
use Rattle.std.specs.Prelude.{◌≡◌, ◌≢◌, ℕ, ◌+◌, ◌<◌, ◌≤◌, List, [], ◌∷◌, ◌++◌, length, if◌then◌else◌, ◌==◌}
use Rattle.chart.specs.declared.history.Occurrence.{Occurrence}
use Rattle.chart.specs.declared.line.TheConstants.{MAX_EVENTS}
use Rattle.chart.specs.Histories.{AreTwo}
use Rattle.chart.specs.Reports.{ReportView}
use Rattle.lane_core.specs.Steps as lane
use Rattle.lane_core.specs.IndexWords.{MayFollow as MayBeOnLane}
use Rattle.line_recorder.specs.Recorders.{RecorderView, after_receive, IsReportOf}
use Rattle.board_core.specs.Parcels.{Parcel}
use Rattle.board_core.specs.Steps.{Step, Sender_loads, Fills, Publishes, Closes, Receiver_loads, Takes, Puts_back, Frees, Opens, Shuts}
use Rattle.board_core.specs.World.{World, new_world, after, filled, taken, parcel_of}

-- An instance with parcels in its hands is in the middle of a call, on their lane. It makes one call at a time.

-- q is in the middle of no call except a send to p
pub record SendsAlone (w : World) (q p : ℕ) : Type 0 where
  pub filled_no_other : (b : ℕ) → b ≢ p → filled w q b ≡ []
  pub taken_nothing : (a : ℕ) → taken w a q ≡ []

-- p is in the middle of no call except a receive from q
pub record ReceivesAlone (w : World) (q p : ℕ) : Type 0 where
  pub filled_nothing : (b : ℕ) → filled w p b ≡ []
  pub taken_no_other : (a : ℕ) → a ≢ q → taken w a p ≡ []

-- p is between two calls
pub record IsIdle (w : World) (p : ℕ) : Type 0 where
  pub filled_nothing : (b : ℕ) → filled w p b ≡ []
  pub taken_nothing : (a : ℕ) → taken w a p ≡ []

-- these are the reports that the recorder gives for the receives of these parcels, one for each
abbrev pub AreAnswers : RecorderView → ℕ → ℕ → List Parcel → List ReportView → Type 0
AreAnswers r q c [] [] = Unit {0}
AreAnswers r q c [] (report ∷ reports) = ⊥
AreAnswers r q c (x ∷ xs) [] = ⊥
AreAnswers r q c (x ∷ xs) (report ∷ reports) =
    IsReportOf r q c x.clock report × AreAnswers (after_receive r q x.message.name c x.clock report) q c xs reports

-- the sender of the lane from q to p may make this step of its own
pub record MaySend (n : ℕ) (w : World) (q p : ℕ) (step : lane.Step Parcel) : Type 0 where
  pub two : AreTwo n q p
  pub alone : SendsAlone w q p
  pub end : MayBeOnLane (w.lanes q p) step

-- the receiver of the lane from q to p may make this step of its own
pub record MayReceive (n : ℕ) (w : World) (q p : ℕ) (step : lane.Step Parcel) : Type 0 where
  pub two : AreTwo n q p
  pub alone : ReceivesAlone w q p
  pub end : MayBeOnLane (w.lanes q p) step

-- the recorder's line may get an event for each of these parcels
abbrev pub HasRoom : RecorderView → List Parcel → Type 0
HasRoom r xs = length r.line.events + length xs ≤ MAX_EVENTS

-- The step is allowed among n instances: by its end's own numbers, and for an event also by its recorder, whose line
-- may get it. Nothing is sent in a coregion.
abbrev pub MayFollow : ℕ → World → Step → Type 0
MayFollow n w (Sender_loads q p) = MaySend n w q p lane.Sender_loads
MayFollow n w (Fills q p m) = MaySend n w q p (lane.Fills (parcel_of w q p m))
MayFollow n w (Publishes q p) =
    MaySend n w q p lane.Publishes × (w.regions q ≡ 0) × HasRoom (w.recorders q) (filled w q p)
MayFollow n w (Closes q p) = MaySend n w q p lane.Closes
MayFollow n w (Receiver_loads q p) = MayReceive n w q p lane.Receiver_loads
MayFollow n w (Takes q p) = MayReceive n w q p lane.Takes
MayFollow n w (Puts_back q p) = MayReceive n w q p lane.Puts_back
MayFollow n w (Frees q p reports) =
    MayReceive n w q p lane.Frees × HasRoom (w.recorders p) (taken w q p)
    × AreAnswers (w.recorders p) q (w.regions p) (taken w q p) reports
MayFollow n w (Opens p) = (1 ≤ p) × (p ≤ n) × IsIdle w p × (w.regions p ≡ 0)
MayFollow n w (Shuts p) = (1 ≤ p) × (p ≤ n) × IsIdle w p × (0 < w.regions p)

-- the world after these steps
abbrev pub world_after : ℕ → ℕ → List Step → World
world_after n k [] = new_world n k
world_after n k (step ∷ steps) = after (world_after n k steps) step

-- each step was allowed when it was made
abbrev pub IsRun : ℕ → ℕ → List Step → Type 0
IsRun n k [] = Unit {0}
IsRun n k (step ∷ steps) = MayFollow n (world_after n k steps) step × IsRun n k steps

-- The terms of the laws of runs.

-- the sends, receives and closes of these steps, in their order, the newest first
abbrev pub history_of : ℕ → ℕ → List Step → List Occurrence
history_of n k steps = (world_after n k steps).history

-- the reports of p's receives, in order
abbrev pub reports_of : ℕ → List Step → List ReportView
reports_of p [] = []
reports_of p (Frees a b reports ∷ steps) = if p == b then reports_of p steps ++ reports else reports_of p steps
reports_of p (Sender_loads a b ∷ steps) = reports_of p steps
reports_of p (Fills a b m ∷ steps) = reports_of p steps
reports_of p (Publishes a b ∷ steps) = reports_of p steps
reports_of p (Closes a b ∷ steps) = reports_of p steps
reports_of p (Receiver_loads a b ∷ steps) = reports_of p steps
reports_of p (Takes a b ∷ steps) = reports_of p steps
reports_of p (Puts_back a b ∷ steps) = reports_of p steps
reports_of p (Opens a ∷ steps) = reports_of p steps
reports_of p (Shuts a ∷ steps) = reports_of p steps
