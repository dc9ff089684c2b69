-- What the steps of carrying over state to each other (this project's profile).
use Rattle.std.specs.Prelude.{◌≡◌, ℕ, suc, ◌<◌, ◌≤◌, max, List, length, slice_get, Some}
use Rattle.chart.specs.Words.{Counts}
use Rattle.chart.specs.declared.history.Occurrence.{Occurrence}
use Rattle.chart.specs.Histories.{received, chart_of, IsLegal}
use Rattle.board.specs.Views.{PostView}
use Rattle.board.specs.Meeting.{AreOfOneBoard, HasPost}
use Rattle.board.specs.LongRuns.CarryingOver.{HasCarried}

-- all posts of a board of n instances, whose lanes have k slots
pub record AreAllOf (n k : ℕ) (posts : List PostView) : Type 0 where
  pub one : AreOfOneBoard posts
  pub size : (i : ℕ) (post : PostView) → slice_get posts i ≡ Some post → (post.board.size ≡ n) × (post.board.capacity ≡ k)
  pub all : (number : ℕ) → 1 ≤ number → number ≤ n → HasPost posts number

-- the posts `old` have become the posts `new`, which have seen exactly this history; nothing was received in it, and
-- each of its sends took a place of its sender's room
pub record AreOn (n k : ℕ) (h : List Occurrence) (old new : List PostView) : Type 0 where
  pub are : AreAllOf n k old
  pub unreceived : (q p : ℕ) → received h q p ≡ 0
  pub as_many : length new ≡ length old
  pub each : (i : ℕ) (x y : PostView) → slice_get old i ≡ Some x → slice_get new i ≡ Some y
      → HasCarried h (length (chart_of h y.number)) x y

-- at first each post had room for as many events as its line has in the history
abbrev pub HaveRoom : List Occurrence → List PostView → Type 0
HaveRoom h old = (i : ℕ) (x : PostView) → slice_get old i ≡ Some x → length (chart_of h x.number) ≤ x.room

-- these posts, which have seen the history h, may go on to the history g
pub record MayGoOn (n k : ℕ) (h g : List Occurrence) (old new : List PostView) : Type 0 where
  pub on : AreOn n k h old new
  pub legal : IsLegal n k g
  pub room : HaveRoom g old

-- the post has room for the number of events that this list has for its instance, and nothing else has changed
pub record HasReserved (sends : Counts) (old new : PostView) : Type 0 where
  pub place : ℕ
  pub many : ℕ
  pub number : old.number ≡ suc place
  pub at : slice_get sends place ≡ Some many
  pub rest : new ≡ record old { room = new.room }
  pub room : new.room ≡ max old.room many

pub record HaveReserved (sends : Counts) (old new : List PostView) : Type 0 where
  pub as_many : length new ≡ length old
  pub each : (i : ℕ) (x y : PostView) → slice_get old i ≡ Some x → slice_get new i ≡ Some y → HasReserved sends x y

-- room was made for the first `many` posts, and nothing else has changed
pub record AreReserved (sends : Counts) (many : ℕ) (old new : List PostView) : Type 0 where
  pub as_many : length new ≡ length old
  pub each : (i : ℕ) (x y : PostView) → i < many → slice_get old i ≡ Some x → slice_get new i ≡ Some y → HasReserved sends x y
  pub others : (i : ℕ) → many ≤ i → slice_get new i ≡ slice_get old i
