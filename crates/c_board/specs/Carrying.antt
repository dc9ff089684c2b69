-- What carrying over between handles answers: a new board takes over what a gathered board left (this project's
-- profile).
use Rattle.std.specs.Prelude.{◌≡◌, ℕ, ◌≤◌, List, [], length, map, slice_get, Option, None, Some, Result, Ok, Err}
use Rattle.std.specs.Global.{Vec}
use Rattle.board.specs.declared.gathering.ClosedLane.{ClosedLane}
use Rattle.board.specs.declared.gathering.Left.{Left}
use Rattle.board.specs.Views.{PostView}
use Rattle.board.specs.Meeting.{AreNotAll}
use Rattle.board.specs.declared.long_runs.carrying.Carried.{Carried}
use Rattle.board.specs.declared.long_runs.carrying.CarryCause.{CarryCause}
use Rattle.board.specs.declared.long_runs.carrying.CarryCause.TheVariants as cause
use Rattle.board.specs.declared.long_runs.carrying.CarryError.{CarryError}
use Rattle.board.specs.LongRuns.CarryingOver.{IsUntouched, CarriesOver, HaveMoreRoom}
use Rattle.c_board.specs.declared.carrying.CarryRefusal.{CarryRefusal}
use Rattle.c_board.specs.declared.carrying.CarryRefusal.TheVariants as why
use Rattle.c_board.specs.declared.carrying.FitError.{FitError}
use Rattle.c_board.specs.declared.carrying.FitError.TheVariants as fitting
use Rattle.c_board.specs.declared.carrying.Misfit.{Misfit}
use Rattle.c_board.specs.declared.carrying.Misfit.TheVariants.{Size, Used}
use Rattle.c_board.specs.declared.chair.Taken.{Taken}
use Rattle.c_board.specs.declared.kept.Kept.{Kept}
use Rattle.c_board.specs.declared.kept.Kept.TheVariants.{Board}
use Rattle.c_board.specs.declared.misuse.Misuse.TheVariants as misuse
use Rattle.c_board.specs.declared.misuse.Numbering.{Numbering}
use Rattle.c_board.specs.declared.taking.TakingError.TheVariants as taking
use Rattle.c_board.specs.Chairs.{kept_seats, posts_of, KeepPosts, IsOneNoPost, HaveOneNumber, AreOfTwoBoards, TakesPosts}
use Rattle.c_board.specs.Copying.{put_over}
use Rattle.c_board.specs.Contents.{board_in}
use Rattle.c_board.specs.PostStates.{PostStateView}
use Rattle.c_board.specs.Refusals.{of_misuse}
use Rattle.c_board.specs.Wholes.{WholeView}

-- this holds for each post, or for one of them it doesn't
abbrev pub AreEach : (PostView → Type 0) → List PostView → Type 0
AreEach P posts = (i : ℕ) (post : PostView) → slice_get posts i ≡ Some post → P post

abbrev pub IsOneNot : (PostView → Type 0) → List PostView → Type 0
IsOneNot P posts = (i : ℕ) × (post : PostView) × (slice_get posts i ≡ Some post) × (P post → ⊥)

-- the post's board has n instances, and lanes of at least k slots
pub record IsAsLarge (n k : ℕ) (post : PostView) : Type 0 where
  pub size : post.board.size ≡ n
  pub slots : k ≤ post.board.capacity

-- What the gathered board left may be carried over to these posts: their board has as many instances, and lanes of at
-- least as many slots, and each post is untouched. So no post has an event, a lane that it closed, or an open coregion.
pub record MayTakeOver (it : WholeView) (posts : List PostView) : Type 0 where
  pub large : AreEach (IsAsLarge (length it.gathered.chart) it.capacity) posts
  pub untouched : AreEach IsUntouched posts

-- each seat keeps the messages that were received last, and its board's number
pub record KeepAll (old new : List PostStateView) : Type 0 where
  pub last : map (λ (state : PostStateView). state.last) new ≡ map (λ (state : PostStateView). state.last) old
  pub came : map (λ (state : PostStateView). state.came) new ≡ map (λ (state : PostStateView). state.came) old
  pub numbers : map (λ (state : PostStateView). state.board_number) new
      ≡ map (λ (state : PostStateView). state.board_number) old

-- the handle kept this board, whose messages and closed lanes these posts have carried over: none is left on it; how
-- many sends each instance made again is copied out
pub record IsCarried (board : Option Kept) (old : List (Option Kept)) (room : List ℕ) (many : ℕ) (now : Option Kept)
    (new : List (Option Kept)) (out : List ℕ) : Type 0 where
  pub it : WholeView
  pub board_is : board ≡ Some (Board it)
  pub seats : List PostStateView
  pub kept : old ≡ kept_seats seats
  pub may : MayTakeOver it (posts_of seats)
  pub after : List PostStateView
  pub carried : Carried
  pub over : CarriesOver it.gathered.left.items it.gathered.closed.items (posts_of seats) (Ok carried) (posts_of after)
  pub stay : KeepAll seats after
  pub new_is : new ≡ kept_seats after
  pub many_is : many ≡ length carried.sends.items
  pub copied : out ≡ put_over carried.sends.items room
  pub left : Vec Left
  pub closed : Vec ClosedLane
  pub now_is : now ≡ Some (Board (record it { gathered = record it.gathered { left = left; closed = closed } }))
  pub none_left : left.items ≡ []
  pub none_closed : closed.items ≡ []

-- the handle keeps this board, with what it left, and no count is copied out
pub record IsUncarried (it : WholeView) (board : Option Kept) (room : List ℕ) (now : Option Kept) (out : List ℕ)
    : Type 0 where
  pub board_is : board ≡ Some (Board it)
  pub left : Vec Left
  pub same : left.items ≡ it.gathered.left.items
  pub now_is : now ≡ Some (Board (record it { gathered = record it.gathered { left = left } }))
  pub out_is : out ≡ room

-- the handles keep these seats, whose posts are of boards with one number
pub record AreSeats (all : List (Option Kept)) (seats : List PostStateView) : Type 0 where
  pub kept : all ≡ kept_seats seats
  pub one : HaveOneNumber all

-- nothing has changed, except that there may be more room for events
pub record HaveRoomOver (old new : List (Option Kept)) : Type 0 where
  pub seats : List PostStateView
  pub kept : old ≡ kept_seats seats
  pub after : List PostStateView
  pub more : HaveMoreRoom (posts_of seats) (posts_of after)
  pub stay : KeepAll seats after
  pub new_is : new ≡ kept_seats after

-- What carrying over from the board of a handle to the posts of these handles answers. The refusals exclude each other,
-- and memory, F6 (docs/reference/refusals.md): that no board is kept; that a handle keeps no post; that the posts are of
-- two boards; that their board is of another size; that one of them is in use. All these are misuses. And that posts of
-- their board lack, F15.
abbrev pub Carries : Option Kept → List (Option Kept) → List ℕ → Result ℕ CarryRefusal → Option Kept
    → List (Option Kept) → List ℕ → Type 0
Carries board old room (Ok many) now new out = IsCarried board old room many now new out × HaveOneNumber old
Carries board old room (Err why.NoBoard) now new out = (board_in board ≡ None) × (now ≡ board) × (new ≡ old)
    × (out ≡ room)
Carries board old room (Err why.NoPost) now new out = (it : WholeView) × IsUncarried it board room now out
    × (new ≡ old) × IsOneNoPost old
Carries board old room (Err why.OtherBoard) now new out = (it : WholeView) × IsUncarried it board room now out
    × (new ≡ old) × KeepPosts old × AreOfTwoBoards old
Carries board old room (Err why.WrongNumber) now new out = (it : WholeView) × IsUncarried it board room now out
    × (new ≡ old) × (seats : List PostStateView) × AreSeats old seats
    × IsOneNot (IsAsLarge (length it.gathered.chart) it.capacity) (posts_of seats)
Carries board old room (Err why.InUse) now new out = (it : WholeView) × IsUncarried it board room now out
    × (new ≡ old) × (seats : List PostStateView) × AreSeats old seats
    × AreEach (IsAsLarge (length it.gathered.chart) it.capacity) (posts_of seats) × IsOneNot IsUntouched (posts_of seats)
Carries board old room (Err why.NotAllPosts) now new out = (it : WholeView) × IsUncarried it board room now out
    × (new ≡ old) × (seats : List PostStateView) × AreSeats old seats × MayTakeOver it (posts_of seats)
    × AreNotAll (posts_of seats)
Carries board old room (Err why.Memory) now new out = (it : WholeView) × IsUncarried it board room now out
    × HaveRoomOver old new

-- what checking the posts of a new board answers, for what a board of n instances left whose lanes had k slots
abbrev pub ChecksFit : ℕ → ℕ → List PostView → Result (Unit {0}) Misfit → Type 0
ChecksFit n k posts (Ok done) = AreEach (IsAsLarge n k) posts × AreEach IsUntouched posts
ChecksFit n k posts (Err Size) = IsOneNot (IsAsLarge n k) posts
ChecksFit n k posts (Err Used) = AreEach (IsAsLarge n k) posts × IsOneNot IsUntouched posts

-- what taking such posts out of handles answers; a refusal leaves them there
abbrev pub TakesFit : ℕ → ℕ → List (Option Kept) → Result Taken FitError → List (Option Kept) → Type 0
TakesFit n k old (Ok it) new = TakesPosts old (Ok it) new × ChecksFit n k it.posts.items (Ok tt)
TakesFit n k old (Err (fitting.NotTaken error)) new = TakesPosts old (Err error) new
TakesFit n k old (Err (fitting.Misfit misfit)) new = (new ≡ old) × (seats : List PostStateView) × AreSeats old seats
    × ChecksFit n k (posts_of seats) (Err misfit)

-- what carrying over answers for posts without their board's words
abbrev pub IsUnborne : List PostView → CarryCause → List PostView → Type 0
IsUnborne old cause.NotAllPosts new = AreNotAll old × (new ≡ old)
IsUnborne old cause.Memory new = HaveMoreRoom old new

abbrev pub CarriesParked : List Left → List ClosedLane → List PostView → Result Carried CarryError → List PostView
    → Type 0
CarriesParked left closed old (Ok carried) new = CarriesOver left closed old (Ok carried) new
CarriesParked left closed old (Err error) new = (error.left.items ≡ left) × IsUnborne old error.cause new

-- the refusal of each cause
abbrev pub refusal_of_fit : FitError → CarryRefusal
refusal_of_fit (fitting.NotTaken taking.NoHandles) = why.NotAllPosts
refusal_of_fit (fitting.NotTaken taking.NoPost) = why.NoPost
refusal_of_fit (fitting.NotTaken taking.Memory) = why.Memory
refusal_of_fit (fitting.NotTaken taking.OtherBoard) = why.OtherBoard
refusal_of_fit (fitting.Misfit Size) = why.WrongNumber
refusal_of_fit (fitting.Misfit Used) = why.InUse

abbrev pub refusal_of_cause : CarryCause → CarryRefusal
refusal_of_cause cause.NotAllPosts = why.NotAllPosts
refusal_of_cause cause.Memory = why.Memory

-- the number of each refusal
abbrev pub of_carrying : Numbering → CarryRefusal → ℕ
of_carrying misuses why.NoBoard = of_misuse misuses misuse.NoBoard
of_carrying misuses why.NoPost = of_misuse misuses misuse.NoPost
of_carrying misuses why.OtherBoard = of_misuse misuses misuse.OtherBoard
of_carrying misuses why.WrongNumber = of_misuse misuses misuse.WrongNumber
of_carrying misuses why.InUse = of_misuse misuses misuse.InUse
of_carrying misuses why.NotAllPosts = 15
of_carrying misuses why.Memory = 6
