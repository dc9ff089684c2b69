-- What the gathering of a whole board answers (this project's profile).
use Rattle.std.specs.Prelude.{◌≡◌, ℕ, Bool, List, [], ◌∷◌, length, map, filter, nat_lt, slice_get, Some, Result, Ok, Err}
use Rattle.std.specs.List.{range_with_len, flat_map}
use Rattle.chart.specs.declared.history.Occurrence.{Occurrence}
use Rattle.chart.specs.Messages.{Content}
use Rattle.chart.specs.Histories.{waiting, is_closed}
use Rattle.chart.specs.HistoryLines.{history_lines}
use Rattle.chart.specs.Reports.{AreReports}
use Rattle.board.specs.declared.error.GatherCause.{GatherCause}
use Rattle.board.specs.declared.error.GatherCause.TheVariants.{NotAllPosts, Memory}
use Rattle.board.specs.declared.gathering.ClosedLane.{ClosedLane}
use Rattle.board.specs.declared.gathering.Left.{Left}
use Rattle.board.specs.declared.gathering.Gathered.{Gathered}
use Rattle.board.specs.declared.gathering.GatherError.{GatherError}
use Rattle.board.specs.Views.{PostView}
use Rattle.board.specs.Meeting.{IsJoint, AreAll, AreNotAll}

-- a lane, by its sender and its receiver
pub record LaneEnds : Type 0 where
  pub sender : ℕ
  pub receiver : ℕ

abbrev pub lane_to : ℕ → ℕ → LaneEnds
lane_to q p = record { sender = q; receiver = p }

-- the lanes of one sender by receiver, and all lanes of n instances by sender and then receiver
abbrev pub lanes_of : ℕ → ℕ → List LaneEnds
lanes_of n q = map (lane_to q) (range_with_len 1 n)

abbrev pub all_lanes : ℕ → List LaneEnds
all_lanes n = flat_map (lanes_of n) (range_with_len 1 n)

-- messages wait on it
abbrev pub is_waiting : List Occurrence → LaneEnds → Bool
is_waiting h lane = nat_lt 0 (length (waiting h lane.sender lane.receiver))

-- the lanes on which messages wait, by sender and then receiver
abbrev pub waiting_lanes : ℕ → List Occurrence → List LaneEnds
waiting_lanes n h = filter (is_waiting h) (all_lanes n)

-- the lane was closed
abbrev pub is_closed_lane : List Occurrence → LaneEnds → Bool
is_closed_lane h lane = is_closed h lane.sender lane.receiver

-- the lanes that were closed, by sender and then receiver
abbrev pub closed_lanes : ℕ → List Occurrence → List LaneEnds
closed_lanes n h = filter (is_closed_lane h) (all_lanes n)

abbrev pub closed_view : ClosedLane → LaneEnds
closed_view lane = lane_to lane.sender lane.receiver

-- a lane with the messages that wait on it
pub record LeftView : Type 0 where
  pub lane : LaneEnds
  pub messages : List Content

abbrev pub left_on : List Occurrence → LaneEnds → LeftView
left_on h lane = record { lane = lane; messages = waiting h lane.sender lane.receiver }

abbrev pub left_view : Left → LeftView
left_view left = record { lane = lane_to left.sender left.receiver; messages = left.messages.items }

-- the chart of the history, the report of each receive, the messages of each lane on which some wait, and the closed
-- lanes
pub record IsGathered (n : ℕ) (h : List Occurrence) (it : Gathered) : Type 0 where
  pub chart : it.chart ≡ history_lines n h
  pub reports : AreReports (history_lines n h) it.reports.items
  pub left : map left_view it.left.items ≡ map (left_on h) (waiting_lanes n h)
  pub closed : map closed_view it.closed.items ≡ closed_lanes n h

-- the history begins with all that each post had seen, and has just those events of each post that its calls made
abbrev pub AreJoint : List Occurrence → List PostView → Type 0
AreJoint h posts = (i : ℕ) (post : PostView) → slice_get posts i ≡ Some post → IsJoint h post

-- how many instances the posts' board has
abbrev pub size_of : List PostView → ℕ
size_of [] = 0
size_of (post ∷ posts) = post.board.size

-- they are all posts of their board, and this is the result for one history that they have in common
pub record IsWhole (posts : List PostView) (it : Gathered) : Type 0 where
  pub all : AreAll posts
  pub history : List Occurrence
  pub joint : AreJoint history posts
  pub gathered : IsGathered (size_of posts) history it

-- why a board isn't gathered
abbrev pub IsUngathered : List PostView → GatherCause → Type 0
IsUngathered posts NotAllPosts = AreNotAll posts
IsUngathered posts Memory = AreAll posts

-- what the gathering of posts answers; a refusal gives them back as they were
abbrev pub Gathers : List PostView → Result Gathered GatherError → Type 0
Gathers posts (Ok it) = IsWhole posts it
Gathers posts (Err error) = (error.posts.items ≡ posts) × IsUngathered posts error.cause
