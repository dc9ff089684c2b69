-- What a contract sees of a post, and what every call preserves: views of one legal history (this project's profile).
use Rattle.std.specs.Prelude.{◌≡◌, ℕ, ◌≤◌, List, ◌++◌, length}
use Rattle.atomic_table.specs.Seated.{TableId}
use Rattle.chart.specs.declared.history.Occurrence.{Occurrence}
use Rattle.chart.specs.declared.instance.EventNo.{EventNo}
use Rattle.chart.specs.declared.event.Event.{Event}
use Rattle.chart.specs.Histories.{own, received, chart_of, AreTwo, IsLegal, Begins}

-- which board it is, how many instances it has, and how many slots each of its lanes has
pub record BoardView : Type 0 where
  pub table : TableId
  pub size : ℕ
  pub capacity : ℕ

pub record PostView : Type 0 where
  pub board : BoardView
  -- which of the board's instances the post is, from 1
  pub number : ℕ
  -- the history that it has seen, and what its own calls made; the newest event first
  pub seen : List Occurrence
  pub made : List Occurrence
  -- how often it looked at a word of another post, that is, polled it
  pub looks : ℕ
  -- its open coregion, 0 for none
  pub region : ℕ
  -- the number of further events for which its line has memory
  pub room : ℕ

-- the post's line in the chart of what it has seen
abbrev pub line_of : PostView → List Event
line_of post = chart_of post.seen post.number

-- they are one post
pub record IsSamePost (old new : PostView) : Type 0 where
  pub board : new.board ≡ old.board
  pub number : new.number ≡ old.number

-- after every call, the seen history is legal and begins with the one seen before. The post's own events in it are
-- those that its calls made
pub record Sound (old new : PostView) : Type 0 where
  pub same : IsSamePost old new
  pub later : Begins old.seen new.seen
  pub legal : IsLegal new.board.size new.board.capacity new.seen
  pub own : own new.seen new.number ≡ new.made
  pub looks : old.looks ≤ new.looks

-- the call made these events, the newest first: one directly after another, and after all that it saw
pub record Makes (old : PostView) (before events : List Occurrence) (new : PostView) : Type 0 where
  pub later : Begins old.seen before
  pub seen : new.seen ≡ events ++ before
  pub made : new.made ≡ events ++ old.made
  pub region : new.region ≡ old.region

-- the call made no event
pub record Stays (old new : PostView) : Type 0 where
  pub made : new.made ≡ old.made
  pub region : new.region ≡ old.region
  pub room : new.room ≡ old.room

-- the last event of the post's line
abbrev pub last_event : PostView → EventNo
last_event post = record { instance = post.number; index = length (line_of post) }

-- the post and another instance of its board
abbrev pub IsPartner : PostView → ℕ → Type 0
IsPartner post q = AreTwo post.board.size post.number q

-- the post has received no message
abbrev pub HasReceivedNothing : PostView → Type 0
HasReceivedNothing post = (q : ℕ) → received post.made q post.number ≡ 0
