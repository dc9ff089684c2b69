-- What carrying over answers: a new board takes over what another board left (this project's profile).
use Rattle.std.specs.Prelude.{◌≡◌, ℕ, ◌-◌, ◌≤◌, List, [], length, map, slice_get, Some, Result, Ok, Err}
use Rattle.std.specs.List.{range_with_len}
use Rattle.chart.specs.declared.history.Occurrence.{Occurrence}
use Rattle.chart.specs.Histories.{own, IsLegal}
use Rattle.board.specs.declared.gathering.ClosedLane.{ClosedLane}
use Rattle.board.specs.declared.gathering.Left.{Left}
use Rattle.board.specs.Views.{PostView, IsSamePost}
use Rattle.board.specs.Meeting.{AreAll, AreNotAll}
use Rattle.board.specs.Gathering.{LaneEnds, LeftView, left_view, closed_view, size_of}
use Rattle.board.specs.declared.long_runs.carrying.CarryCause.{CarryCause}
use Rattle.board.specs.declared.long_runs.carrying.CarryCause.TheVariants.{NotAllPosts, Memory}
use Rattle.board.specs.declared.long_runs.carrying.CarryError.{CarryError}
use Rattle.board.specs.declared.long_runs.carrying.Carried.{Carried}
use Rattle.board.specs.LongRuns.CarriedHistories.{carried_history, sent_again_by, IsLeftBy, WereLeft, HaveSameLanes}

-- this post has made nothing yet, and has no open coregion
pub record IsUntouched (post : PostView) : Type 0 where
  pub made : post.made ≡ []
  pub region : post.region ≡ 0

-- this may be carried over to the post's board. The post has made nothing yet, and a board with as many instances, and
-- lanes of at most as many slots, left this
pub record MayCarry (left : List LeftView) (closed : List LaneEnds) (post : PostView) : Type 0 where
  pub untouched : IsUntouched post
  pub were : WereLeft post.board.size post.board.capacity left closed

abbrev pub MayAllCarry : List LeftView → List LaneEnds → List PostView → Type 0
MayAllCarry left closed posts = (i : ℕ) (post : PostView) → slice_get posts i ≡ Some post → MayCarry left closed post

-- The answer.

-- the post has seen exactly this history, and made its own events of it; each of `sends` sends took a place of its
-- room, while there was one
pub record HasCarried (h : List Occurrence) (sends : ℕ) (old new : PostView) : Type 0 where
  pub same : IsSamePost old new
  pub seen : new.seen ≡ h
  pub made : new.made ≡ own h new.number
  pub region : new.region ≡ 0
  pub looks : old.looks ≤ new.looks
  pub room : new.room ≡ old.room - sends

-- the posts are the same as before, and each has seen exactly the carried history
pub record HaveCarried (left : List LeftView) (closed : List LaneEnds) (old new : List PostView) : Type 0 where
  pub as_many : length new ≡ length old
  pub each : (i : ℕ) (x y : PostView) → slice_get old i ≡ Some x → slice_get new i ≡ Some y
      → HasCarried (carried_history left closed) (sent_again_by y.number left) x y

-- all posts of the board have carried it over, and the result has the number of carried sends for each instance
pub record IsCarriedOver (left : List LeftView) (closed : List LaneEnds) (old : List PostView) (it : Carried)
    (new : List PostView) : Type 0 where
  pub all : AreAll old
  pub carried : HaveCarried left closed old new
  pub sends : it.sends.items ≡ map (λ p. sent_again_by p left) (range_with_len 1 (size_of old))

-- nothing has changed, except that there may be more room
pub record HasMoreRoom (old new : PostView) : Type 0 where
  pub rest : new ≡ record old { room = new.room }
  pub room : old.room ≤ new.room

pub record HaveMoreRoom (old new : List PostView) : Type 0 where
  pub as_many : length new ≡ length old
  pub each : (i : ℕ) (x y : PostView) → slice_get old i ≡ Some x → slice_get new i ≡ Some y → HasMoreRoom x y

-- why nothing is carried over
abbrev pub IsUncarried : List PostView → CarryCause → List PostView → Type 0
IsUncarried old NotAllPosts new = AreNotAll old × (new ≡ old)
IsUncarried old Memory new = AreAll old × HaveMoreRoom old new

-- what carrying over answers; a refusal gives back what was left, as it was
abbrev pub CarriesOver : List Left → List ClosedLane → List PostView → Result Carried CarryError → List PostView → Type 0
CarriesOver left closed old (Ok it) new = IsCarriedOver (map left_view left) (map closed_view closed) old it new
CarriesOver left closed old (Err error) new = (error.left.items ≡ left) × IsUncarried old error.cause new

-- After carrying over, each lane is for every post as in the history that left it. The same messages wait in the same
-- order, and the lane is closed if it was.
abbrev pub KeepLanes : List LeftView → List LaneEnds → List PostView → Type 0
KeepLanes left closed new = (n k : ℕ) (h : List Occurrence) → IsLegal n k h → IsLeftBy n h left closed
    → (i : ℕ) (post : PostView) → slice_get new i ≡ Some post → HaveSameLanes h post.seen
