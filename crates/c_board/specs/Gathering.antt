-- What gathering a board over handles answers (this project's profile).
use Rattle.std.specs.Prelude.{◌≡◌, ℕ, List, slice_get, Option, None, Some, Result, Ok, Err}
use Rattle.board.specs.declared.gathering.Gathered.{Gathered}
use Rattle.board.specs.declared.error.GatherCause.{GatherCause}
use Rattle.board.specs.declared.error.GatherCause.TheVariants as cause
use Rattle.board.specs.Views.{PostView}
use Rattle.board.specs.Meeting.{AreNotAll}
use Rattle.board.specs.Gathering.{IsWhole}
use Rattle.c_board.specs.declared.away.Returned.{Returned}
use Rattle.c_board.specs.declared.kept.Kept.{Kept}
use Rattle.c_board.specs.declared.kept.Kept.TheVariants.{Board}
use Rattle.c_board.specs.declared.gathering.GatherRefusal.{GatherRefusal}
use Rattle.c_board.specs.declared.gathering.GatherRefusal.TheVariants as why
use Rattle.c_board.specs.declared.misuse.Misuse.TheVariants as misuse
use Rattle.c_board.specs.declared.misuse.Numbering.{Numbering}
use Rattle.c_board.specs.declared.taking.TakingError.{TakingError}
use Rattle.c_board.specs.declared.taking.TakingError.TheVariants as taking
use Rattle.c_board.specs.Opening.{AreEmpty}
use Rattle.c_board.specs.Chairs.{kept_seats, posts_of, KeepPosts, IsOneNoPost, HaveOneNumber, AreOfTwoBoards}
use Rattle.c_board.specs.PostStates.{PostStateView}
use Rattle.c_board.specs.Refusals.{of_misuse}
use Rattle.c_board.specs.Wholes.{WholeView}

-- the handles keep these posts, which are not all of their board
pub record LackPosts (all : List (Option Kept)) : Type 0 where
  pub seats : List PostStateView
  pub kept : all ≡ kept_seats seats
  pub lacking : AreNotAll (posts_of seats)

-- the handles kept all posts of a board, and keep nothing now; the other handle kept nothing, and keeps the result of
-- the gathering now
pub record IsGathered (old : List (Option Kept)) (board : Option Kept) (new : List (Option Kept))
    (made : Option Kept) : Type 0 where
  pub vacant : board ≡ None
  pub seats : List PostStateView
  pub kept : old ≡ kept_seats seats
  pub it : WholeView
  pub whole : IsWhole (posts_of seats) it.gathered
  pub slots : (i : ℕ) (post : PostView) → slice_get (posts_of seats) i ≡ Some post → post.board.capacity ≡ it.capacity
  pub empty : AreEmpty new
  pub made_is : made ≡ Some (Board it)

-- nothing has changed, and the handle for the board keeps nothing
pub record AreAsBefore (old : List (Option Kept)) (board : Option Kept) (new : List (Option Kept))
    (made : Option Kept) : Type 0 where
  pub same : new ≡ old
  pub vacant : board ≡ None
  pub unmade : made ≡ None

-- what gathering the posts of these handles into another handle answers
abbrev pub Gathers : List (Option Kept) → Option Kept → Result (Unit {0}) GatherRefusal → List (Option Kept) → Option Kept
    → Type 0
Gathers old board (Ok done) new made = IsGathered old board new made × HaveOneNumber old
Gathers old board (Err why.InUse) new made = (new ≡ old) × (made ≡ board) × (board ≡ None → ⊥)
Gathers old board (Err why.NoPost) new made = AreAsBefore old board new made × IsOneNoPost old
Gathers old board (Err why.OtherBoard) new made = AreAsBefore old board new made × KeepPosts old × AreOfTwoBoards old
Gathers old board (Err why.NotAllPosts) new made = AreAsBefore old board new made × LackPosts old × HaveOneNumber old
Gathers old board (Err why.Memory) new made = AreAsBefore old board new made

-- the refusal of each cause
abbrev pub refusal_of_taking : TakingError → GatherRefusal
refusal_of_taking taking.NoHandles = why.NotAllPosts
refusal_of_taking taking.NoPost = why.NoPost
refusal_of_taking taking.Memory = why.Memory
refusal_of_taking taking.OtherBoard = why.OtherBoard

abbrev pub refusal_of_cause : GatherCause → GatherRefusal
refusal_of_cause cause.NotAllPosts = why.NotAllPosts
refusal_of_cause cause.Memory = why.Memory

-- the number of each refusal
abbrev pub of_gathering : Numbering → GatherRefusal → ℕ
of_gathering misuses why.InUse = of_misuse misuses misuse.InUse
of_gathering misuses why.NoPost = of_misuse misuses misuse.NoPost
of_gathering misuses why.OtherBoard = of_misuse misuses misuse.OtherBoard
of_gathering misuses why.NotAllPosts = 15
of_gathering misuses why.Memory = 6

-- why posts aren't gathered
abbrev pub IsUngathered : List PostView → GatherCause → Type 0
IsUngathered posts cause.NotAllPosts = AreNotAll posts
IsUngathered posts cause.Memory = Unit {0}

-- what gathering posts without their board's words answers; a refusal gives them back as they were
abbrev pub GathersParked : List PostView → Result Gathered Returned → Type 0
GathersParked posts (Ok it) = IsWhole posts it
GathersParked posts (Err back) = (back.posts.items ≡ posts) × IsUngathered posts back.cause
