-- How far the posts of a replay are (this project's profile).
use Rattle.std.specs.Prelude.{◌≡◌, ◌≢◌, ℕ, suc, ◌≤◌, List, length, slice_get, Option, Some, unwrap_or, Result}
use Rattle.chart.specs.declared.history.Occurrence.{Occurrence}
use Rattle.chart.specs.Histories.{own, Begins, IsLegal}
use Rattle.chart.specs.HistoryLines.{history_lines}
use Rattle.chart.specs.Reports.{AreReports}
use Rattle.board.specs.declared.gathering.Gathered.{Gathered}
use Rattle.board.specs.Boards.{AreNewPosts}
use Rattle.board.specs.Views.{BoardView, PostView, IsSamePost}
use Rattle.board.specs.Meeting.{IsJoint}
use Rattle.board.specs.Known.{IsSized}
use Rattle.schedule.specs.declared.command.Word.{Word}
use Rattle.schedule.specs.declared.command.Action.{Action}
use Rattle.schedule.specs.declared.command.Command.{Command}
use Rattle.schedule.specs.declared.command.Note.{Note}
use Rattle.schedule.specs.Meaning.{Run, acts, after}
use Rattle.schedule.specs.declared.outcomes.error.ReplayError.{ReplayError}
use Rattle.schedule.specs.Outcomes.Outcomes.{AreByLine}
use Rattle.schedule.specs.Outcomes.Performed.{HasDone}

-- after a call the post is the same, and has seen a history that begins with what it had seen
pub record GoesOn (old new : PostView) : Type 0 where
  pub same : IsSamePost old new
  pub later : Begins old.seen new.seen

-- the post, whose instance received last from `from`, is as far as the run, and has seen all of it
pub record IsAsFar (r : Run) (from : Option ℕ) (post : PostView) : Type 0 where
  pub seen : post.seen ≡ r.history
  pub made : post.made ≡ own r.history post.number
  pub region : post.region ≡ r.region post.number
  pub last : unwrap_or from 0 ≡ r.last post.number
  pub known : unwrap_or from 0 ≤ post.board.size

-- what all posts see when they meet after a call of this post: no other instance has gone on since the history
pub record IsMet (h : List Occurrence) (new : PostView) (met : List Occurrence) : Type 0 where
  pub joint : IsJoint met new
  pub others : (q : ℕ) → 1 ≤ q → q ≤ new.board.size → q ≢ new.number → own met q ≡ own h q

-- the run t is as far as the history that was met, and p's post, whose instance received last from `from`, agrees with
-- it; for the other instances it has what the run s had
pub record HasGone (s t : Run) (p : ℕ) (met : List Occurrence) (from : Option ℕ) (post : PostView) : Type 0 where
  pub history : t.history ≡ met
  pub region : post.region ≡ t.region p
  pub last : unwrap_or from 0 ≡ t.last p
  pub known : unwrap_or from 0 ≤ post.board.size
  pub other_regions : (q : ℕ) → q ≢ p → t.region q ≡ s.region q
  pub other_lasts : (q : ℕ) → q ≢ p → t.last q ≡ s.last q

-- what a call for a command left
abbrev pub HasCalled : Run → ℕ → List Occurrence → Option ℕ → PostView → Result (Option Word) ReplayError
    → Result Run Word → Type 0
HasCalled r p met from new answer acted = HasDone (λ s. HasGone r s p met from new) r answer acted

-- a call does the meaning of the action, as the next meeting shows
abbrev pub Does : PostView → Option ℕ → Action → Result (Option Word) ReplayError → PostView → Option ℕ → Type 0
Does old was action answer new from =
    (r : Run) → IsAsFar r was old → (met : List Occurrence) → IsMet r.history new met
    → HasCalled r old.number met from new answer (acts old.board.size old.board.capacity r old.number action)

-- these are all posts of the board, in order of their numbers
pub record ArePosts (board : BoardView) (posts : List PostView) : Type 0 where
  pub sized : IsSized board.size board.capacity
  pub many : length posts ≡ board.size
  pub each : (i : ℕ) (post : PostView) → slice_get posts i ≡ Some post → (post.board ≡ board) × (post.number ≡ suc i)

-- a board's posts, each with the instance from which it received last, are as far as the run, which is legal over the
-- board's lanes
pub record Agrees (board : BoardView) (r : Run) (them : List PostView) (last : List (Option ℕ)) : Type 0 where
  pub posts : ArePosts board them
  pub legal : IsLegal board.size board.capacity r.history
  pub as_many : length last ≡ board.size
  pub far : (i : ℕ) (post : PostView) (from : Option ℕ) → slice_get them i ≡ Some post → slice_get last i ≡ Some from
      → IsAsFar r from post

-- they are as far as some run
abbrev pub IsReached : List PostView → List (Option ℕ) → Type 0
IsReached posts last = (board : BoardView) × (r : Run) × Agrees board r posts last

-- what a command left
abbrev pub HasActed : BoardView → Run → Command → Result (Option Word) ReplayError → List PostView → List (Option ℕ)
    → Type 0
HasActed board r command answer posts last =
    HasDone (λ s. Agrees board s posts last) r answer (acts board.size board.capacity r command.actor command.action)

-- what these commands left: the posts are as far as the commands lead, and these are their notes as they came
pub record HavePerformed (board : BoardView) (commands : List Command) (posts : List PostView) (last : List (Option ℕ))
    (notes : List Note) : Type 0 where
  pub agrees : Agrees board (after board.size board.capacity commands).run posts last
  pub noted : notes ≡ (after board.size board.capacity commands).notes

-- these are all posts of a new board
pub record AreFresh (board : BoardView) (posts : List PostView) : Type 0 where
  pub sized : IsSized board.size board.capacity
  pub new : AreNewPosts board posts

-- the outcome of the board by these commands: the chart of the history that they make, with its reports, and the notes
-- by line
pub record HasCome (board : BoardView) (commands : List Command) (gathered : Gathered)
    (listed : List Note) : Type 0 where
  pub chart : gathered.chart ≡ history_lines board.size (after board.size board.capacity commands).run.history
  pub reports : AreReports gathered.chart gathered.reports.items
  pub notes : AreByLine (after board.size board.capacity commands).notes listed
