-- The history by which a board takes over what another one left (this project's profile). The newest event comes first.
use Rattle.std.specs.Prelude.{◌≡◌, ℕ, ◌+◌, ◌≤◌, ◌==◌, List, [], ◌∷◌, ◌++◌, length, map, reverse, if◌then◌else◌}
use Rattle.chart.specs.declared.history.Occurrence.{Occurrence}
use Rattle.chart.specs.declared.history.Occurrence.TheVariants.{Close}
use Rattle.chart.specs.Histories.{waiting, is_closed, IsLegal}
use Rattle.board.specs.Gathering.{LaneEnds, LeftView, left_on, waiting_lanes, closed_lanes}
use Rattle.board.specs.Sending.{sends_of}

-- the messages that were left on a lane, sent again in their order
abbrev pub sends_again : LeftView → List Occurrence
sends_again left = sends_of left.lane.sender left.lane.receiver left.messages

-- the same for several lanes, one lane after another
abbrev pub all_again : List LeftView → List Occurrence
all_again [] = []
all_again (left ∷ more) = all_again more ++ sends_again left

-- the lanes closed again, one after another
abbrev pub closes_again : List LaneEnds → List Occurrence
closes_again lanes = reverse (map (λ (lane : LaneEnds). Close lane.sender lane.receiver) lanes)

-- first all messages that were left are sent again, lane by lane, and then the lanes are closed again
abbrev pub carried_history : List LeftView → List LaneEnds → List Occurrence
carried_history left closed = closes_again closed ++ all_again left

-- how many of these messages instance p sends again
abbrev pub sent_again_by : ℕ → List LeftView → ℕ
sent_again_by p [] = 0
sent_again_by p (left ∷ more) = (if left.lane.sender == p then length left.messages else 0) + sent_again_by p more

-- a board of n instances has left this after the history: the messages that wait on its lanes, and its closed lanes
pub record IsLeftBy (n : ℕ) (history : List Occurrence) (left : List LeftView) (closed : List LaneEnds) : Type 0 where
  pub waited : left ≡ map (left_on history) (waiting_lanes n history)
  pub shut : closed ≡ closed_lanes n history

-- a board of n instances, whose lanes have at most k slots, has left this after some legal history
pub record WereLeft (n k : ℕ) (left : List LeftView) (closed : List LaneEnds) : Type 0 where
  pub slots : ℕ
  pub within : slots ≤ k
  pub history : List Occurrence
  pub legal : IsLegal n slots history
  pub left_by : IsLeftBy n history left closed

-- on each lane the same messages wait after both histories, and both have the same closed lanes
pub record HaveSameLanes (h g : List Occurrence) : Type 0 where
  pub waits : (q p : ℕ) → waiting g q p ≡ waiting h q p
  pub closed : (q p : ℕ) → is_closed g q p ≡ is_closed h q p
