-- What a meeting of posts over handles answers (this project's profile).
use Rattle.std.specs.Prelude.{◌≡◌, ℕ, List, map, length, slice_get, Option, Some, Result, Ok, Err}
use Rattle.chart.specs.declared.history.Occurrence.{Occurrence}
use Rattle.board.specs.Views.{PostView}
use Rattle.board.specs.declared.error.GatherCause.{GatherCause}
use Rattle.board.specs.declared.error.GatherCause.TheVariants as cause
use Rattle.board.specs.Meeting.{IsJoint, HaveMet, AreAll, AreNotAll}
use Rattle.c_board.specs.declared.kept.Kept.{Kept}
use Rattle.c_board.specs.declared.meeting.MeetRefusal.{MeetRefusal}
use Rattle.c_board.specs.declared.meeting.MeetRefusal.TheVariants as why
use Rattle.c_board.specs.declared.misuse.Misuse.TheVariants as misuse
use Rattle.c_board.specs.declared.misuse.Numbering.{Numbering}
use Rattle.c_board.specs.declared.taking.TakingError.{TakingError}
use Rattle.c_board.specs.declared.taking.TakingError.TheVariants as taking
use Rattle.c_board.specs.Chairs.{kept_seats, posts_of, KeepPosts, IsOneNoPost, HaveOneNumber, AreOfTwoBoards}
use Rattle.c_board.specs.Gathering.{LackPosts}
use Rattle.c_board.specs.PostStates.{PostStateView}
use Rattle.c_board.specs.Refusals.{of_misuse}

-- the seat whose post has seen this history
abbrev pub seat_seen : List Occurrence → PostStateView → PostStateView
seat_seen history state = record state { post = record state.post { seen = history } }

-- the handles keep all posts of a board, which have now seen one history, and nothing else has changed
pub record HaveMetOver (old new : List (Option Kept)) : Type 0 where
  pub seats : List PostStateView
  pub kept : old ≡ kept_seats seats
  pub all : AreAll (posts_of seats)
  pub history : List Occurrence
  pub joint : (i : ℕ) (post : PostView) → slice_get (posts_of seats) i ≡ Some post → IsJoint history post
  pub seen : new ≡ kept_seats (map (seat_seen history) seats)

-- The first of these that applies refuses a meeting (docs/reference/refusals.md): that a handle keeps no post, which is a
-- misuse; memory, F6; that the posts are of two boards, which is a misuse too; and that posts of their board lack, F15.
abbrev pub IsFirstOfMeeting : List (Option Kept) → MeetRefusal → Type 0
IsFirstOfMeeting old why.NoPost = IsOneNoPost old
IsFirstOfMeeting old why.Memory = KeepPosts old × (length old ≡ 0 → ⊥)
IsFirstOfMeeting old why.OtherBoard = KeepPosts old × AreOfTwoBoards old
IsFirstOfMeeting old why.NotAllPosts = LackPosts old × HaveOneNumber old

-- what a meeting of the posts of these handles answers
abbrev pub Meets : List (Option Kept) → Result (Unit {0}) MeetRefusal → List (Option Kept) → Type 0
Meets old (Ok done) new = HaveMetOver old new × HaveOneNumber old
Meets old (Err refusal) new = (new ≡ old) × IsFirstOfMeeting old refusal

-- the refusal of each cause
abbrev pub refusal_of_taking : TakingError → MeetRefusal
refusal_of_taking taking.NoHandles = why.NotAllPosts
refusal_of_taking taking.NoPost = why.NoPost
refusal_of_taking taking.Memory = why.Memory
refusal_of_taking taking.OtherBoard = why.OtherBoard

abbrev pub refusal_of_cause : GatherCause → MeetRefusal
refusal_of_cause cause.NotAllPosts = why.NotAllPosts
refusal_of_cause cause.Memory = why.Memory

-- the number of each refusal
abbrev pub of_meeting : Numbering → MeetRefusal → ℕ
of_meeting misuses why.NoPost = of_misuse misuses misuse.NoPost
of_meeting misuses why.OtherBoard = of_misuse misuses misuse.OtherBoard
of_meeting misuses why.NotAllPosts = 15
of_meeting misuses why.Memory = 6

-- what a meeting of posts without their board's words answers
abbrev pub MeetsParked : List PostView → Result (Unit {0}) GatherCause → List PostView → Type 0
MeetsParked old (Ok done) new = AreAll old × HaveMet old new
MeetsParked old (Err cause.NotAllPosts) new = (new ≡ old) × AreNotAll old
MeetsParked old (Err cause.Memory) new = new ≡ old
