-- Laws of what a board leaves and the next one takes over (this project's profile).
use Rattle.std.specs.Prelude.{◌≡◌, ℕ, ◌≤◌, List, [], map, slice_get, Some}
use Rattle.chart.specs.declared.history.Occurrence.{Occurrence}
use Rattle.chart.specs.Histories.{IsLegal}
use Rattle.board.specs.declared.gathering.Gathered.{Gathered}
use Rattle.board.specs.Views.{BoardView, PostView}
use Rattle.board.specs.Boards.{AreNewPosts}
use Rattle.board.specs.Gathering.{LaneEnds, LeftView, left_view, closed_view, size_of, IsWhole}
use Rattle.board.specs.LongRuns.CarriedHistories.{carried_history, WereLeft, IsLeftBy, HaveSameLanes}
use Rattle.board.specs.LongRuns.CarryingOver.{MayAllCarry, HaveMoreRoom}

-- nothing was left before the first board
abbrev pub FirstLaw : Type 0
FirstLaw = (n k : ℕ) → WereLeft n k [] []

-- the result of gathering a board's posts was left by this board, for boards whose lanes have at least as many slots
abbrev pub GatheredLaw : Type 0
GatheredLaw = (posts : List PostView) (it : Gathered) (k : ℕ) → IsWhole posts it
    → ((i : ℕ) (post : PostView) → slice_get posts i ≡ Some post → post.board.capacity ≤ k)
    → WereLeft (size_of posts) k (map left_view it.left.items) (map closed_view it.closed.items)

-- what was left may be carried over to the posts of a new board
abbrev pub NewPostsLaw : Type 0
NewPostsLaw = (board : BoardView) (posts : List PostView) (left : List LeftView) (closed : List LaneEnds)
    → AreNewPosts board posts → WereLeft board.size board.capacity left closed → MayAllCarry left closed posts

-- the carried history is legal, on lanes of at least as many slots, and each lane is in it as it was left
abbrev pub LegalLaw : Type 0
LegalLaw = (n k : ℕ) (left : List LeftView) (closed : List LaneEnds) → WereLeft n k left closed
    → IsLegal n k (carried_history left closed)

abbrev pub LanesLaw : Type 0
LanesLaw = (n k : ℕ) (h : List Occurrence) (left : List LeftView) (closed : List LaneEnds)
    → IsLegal n k h → IsLeftBy n h left closed → HaveSameLanes h (carried_history left closed)

-- after a refusal for lack of memory, it may be carried over to the same posts again
abbrev pub AgainLaw : Type 0
AgainLaw = (left : List LeftView) (closed : List LaneEnds) (old new : List PostView) → MayAllCarry left closed old
    → HaveMoreRoom old new → MayAllCarry left closed new
