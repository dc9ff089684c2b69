-- Seats whose posts are elsewhere: a single seat, and several in order (this project's profile).
use Rattle.std.specs.Prelude.{◌≡◌, ◌≢◌, ℕ, ◌≤◌, Bool, true, false, List, [], ◌∷◌, map, length, slice_get, unwrap_or, Option, None, Some, Result, Ok, Err}
use Rattle.board.specs.Views.{PostView}
use Rattle.board.specs.Parked.{IsAtBoard}
use Rattle.c_board.specs.Came.{came_list}
use Rattle.c_board.specs.declared.chair.Chair.{Chair}
use Rattle.c_board.specs.declared.chair.Taken.{Taken}
use Rattle.c_board.specs.declared.kept.Kept.{Kept}
use Rattle.c_board.specs.declared.kept.Kept.TheVariants.{Post, Board, Away}
use Rattle.c_board.specs.declared.taking.TakingError.{TakingError}
use Rattle.c_board.specs.declared.taking.TakingError.TheVariants.{NoHandles, NoPost, Memory, OtherBoard}
use Rattle.c_board.specs.Opening.{AreEmpty}
use Rattle.c_board.specs.PostStates.{PostStateView}

-- the seat is the one of this post, or of another post of the same board
pub record Fits (chair : Chair) (post : PostView) : Type 0 where
  pub at : IsAtBoard chair.table.value.shared.key chair.table.value.shared.table_id post
  pub known : unwrap_or chair.last 0 ≤ post.board.size

-- the seat with the post
abbrev pub seat_with : Chair → PostView → PostStateView
seat_with chair post = record {
  post = post;
  last = unwrap_or chair.last 0;
  came = came_list chair.came;
  board_number = chair.board_number;
}

-- a post was taken out of its seat
pub record IsParted (kept : Kept) (chair : Chair) (post : PostView) : Type 0 where
  pub same : kept ≡ Post (seat_with chair post)
  pub fits : Fits chair post

-- several seats, each with its post
abbrev pub AreFit : List Chair → List PostView → Type 0
AreFit [] [] = Unit {0}
AreFit [] (post ∷ posts) = ⊥
AreFit (chair ∷ chairs) [] = ⊥
AreFit (chair ∷ chairs) (post ∷ posts) = Fits chair post × AreFit chairs posts

abbrev pub seats_with : List Chair → List PostView → List PostStateView
seats_with [] posts = []
seats_with (chair ∷ chairs) [] = []
seats_with (chair ∷ chairs) (post ∷ posts) = seat_with chair post ∷ seats_with chairs posts

-- what handles that keep these seats in order keep, and the posts of these seats
abbrev pub kept_seats : List PostStateView → List (Option Kept)
kept_seats seats = map (λ (state : PostStateView). Some (Post state)) seats

abbrev pub posts_of : List PostStateView → List PostView
posts_of seats = map (λ (state : PostStateView). state.post) seats

-- what is kept is a post
abbrev pub is_post : Option Kept → Bool
is_post None = false
is_post (Some (Post state)) = true
is_post (Some (Board it)) = false
is_post (Some Away) = false

-- each handle keeps a post
abbrev pub KeepPosts : List (Option Kept) → Type 0
KeepPosts all = (i : ℕ) (kept : Option Kept) → slice_get all i ≡ Some kept → is_post kept ≡ true

-- one of the handles keeps no post
abbrev pub IsOneNoPost : List (Option Kept) → Type 0
IsOneNoPost all = (i : ℕ) × (kept : Option Kept) × (slice_get all i ≡ Some kept) × (is_post kept ≡ false)

-- Boards are numbered apart: kept posts whose boards have one number are of one board. This is the caller's promise,
-- who gives each board its number.
abbrev pub AreNumberedApart : List (Option Kept) → Type 0
AreNumberedApart all = (i j : ℕ) (x y : PostStateView) → slice_get all i ≡ Some (Some (Post x))
    → slice_get all j ≡ Some (Some (Post y))
    → x.board_number ≡ y.board_number → x.post.board ≡ y.post.board

-- the boards of all kept posts have one number
abbrev pub HaveOneNumber : List (Option Kept) → Type 0
HaveOneNumber all = (i j : ℕ) (x y : PostStateView) → slice_get all i ≡ Some (Some (Post x))
    → slice_get all j ≡ Some (Some (Post y))
    → x.board_number ≡ y.board_number

-- two kept posts are of boards with different numbers
abbrev pub AreOfTwoBoards : List (Option Kept) → Type 0
AreOfTwoBoards all = (i j : ℕ) × (x y : PostStateView) × (slice_get all i ≡ Some (Some (Post x)))
    × (slice_get all j ≡ Some (Some (Post y))) × (x.board_number ≢ y.board_number)

-- the posts of these seats are of boards with one number, or one of them is of another board than the first
abbrev pub AreOfOneNumber : List Chair → Type 0
AreOfOneNumber chairs = (i : ℕ) (first chair : Chair) → slice_get chairs 0 ≡ Some first → slice_get chairs i ≡ Some chair
    → first.board_number ≡ chair.board_number

abbrev pub IsOneOfAnother : List Chair → Type 0
IsOneOfAnother chairs = (i : ℕ) × (first chair : Chair) × (slice_get chairs 0 ≡ Some first)
    × (slice_get chairs i ≡ Some chair) × (first.board_number ≢ chair.board_number)

-- the handles kept these seats, and keep nothing now
pub record AreTaken (old : List (Option Kept)) (chairs : List Chair) (posts : List PostView)
    (new : List (Option Kept)) : Type 0 where
  pub seats : old ≡ kept_seats (seats_with chairs posts)
  pub fit : AreFit chairs posts
  pub empty : AreEmpty new

-- The first of these that applies keeps posts from being taken out of handles (docs/reference/refusals.md): that there
-- are no handles, F15; that one of them keeps no post, which is a misuse; memory for the lists, F6; and that the posts
-- are of two boards, which is a misuse too.
abbrev pub IsFirstOfTaking : List (Option Kept) → TakingError → Type 0
IsFirstOfTaking old NoHandles = old ≡ []
IsFirstOfTaking old NoPost = IsOneNoPost old
IsFirstOfTaking old Memory = KeepPosts old × (length old ≡ 0 → ⊥)
IsFirstOfTaking old OtherBoard = KeepPosts old × AreOfTwoBoards old

-- what taking the posts out of handles answers
abbrev pub TakesPosts : List (Option Kept) → Result Taken TakingError → List (Option Kept) → Type 0
TakesPosts old (Ok it) new = AreTaken old it.chairs.items it.posts.items new × (length old ≡ 0 → ⊥) × HaveOneNumber old
TakesPosts old (Err error) new = (new ≡ old) × IsFirstOfTaking old error
