-- What the making of a board answers, and what asking for its posts answers (this project's profile).
use Rattle.std.specs.Prelude.{◌≡◌, ℕ, suc, ◌+◌, ◌<◌, ◌≤◌, ◌⊎◌, Bool, true, false, List, [], ◌∷◌, length, replicate, slice_get, Option, Some, None, Result, Ok, Err}
use Rattle.chart.specs.declared.instance.TheConstants.{MAX_INSTANCES}
use Rattle.atomic_table.specs.Seated.{TableId}
use Rattle.chart.specs.declared.history.TheConstants.{MAX_CAPACITY}
use Rattle.board_table.specs.Knowing.{Mine, new_held}
use Rattle.board_table.specs.Rule.{new_helds}
use Rattle.board.specs.declared.ends.Outgoing.{Outgoing}
use Rattle.board.specs.declared.ends.Incoming.{Incoming}
use Rattle.board.specs.declared.error.BoardError.{BoardError}
use Rattle.board.specs.declared.error.BoardError.TheVariants.{Instances, Capacity, Memory}
use Rattle.board.specs.Known.{IsSized}
use Rattle.board.specs.Views.{BoardView, PostView}

-- a board, and whether its posts were asked for
pub record BoardState : Type 0 where
  pub board : BoardView
  pub asked : Bool

-- a board of this size, whose posts weren't asked for yet
pub record IsNewBoard (n k : ℕ) (state : BoardState) : Type 0 where
  pub sized : IsSized n k
  pub size : state.board.size ≡ n
  pub capacity : state.board.capacity ≡ k
  pub asked : state.asked ≡ false

-- a board may not have n instances
abbrev pub IsOddSize : ℕ → Type 0
IsOddSize n = (n < 2) ⊎ (MAX_INSTANCES < n)

-- why no board is made
abbrev pub IsUnmade : ℕ → ℕ → BoardError → Type 0
IsUnmade n k Instances = IsOddSize n
IsUnmade n k Capacity = (2 ≤ n) × (n ≤ MAX_INSTANCES) × ((k < 1) ⊎ (MAX_CAPACITY < k))
IsUnmade n k Memory = IsSized n k

-- what the making of a board answers
abbrev pub MakesBoard : ℕ → ℕ → Result BoardState BoardError → Type 0
MakesBoard n k (Ok state) = IsNewBoard n k state
MakesBoard n k (Err error) = IsUnmade n k error

-- a post before its first call
abbrev pub new_post : BoardView → ℕ → PostView
new_post board number = record { board = board; number = number; seen = []; made = []; looks = 0; region = 0; room = 0 }

-- the first `many` posts of a board, before their first calls
pub record FirstPosts (many : ℕ) (board : BoardView) (posts : List PostView) : Type 0 where
  pub as_many : length posts ≡ many
  pub each : (i : ℕ) (post : PostView) → slice_get posts i ≡ Some post → post ≡ new_post board (suc i)

-- all posts of a board, before their first calls
abbrev pub AreNewPosts : BoardView → List PostView → Type 0
AreNewPosts board posts = FirstPosts board.size board posts

-- what a seat knows before the first call of its post; and before it is dealt, as the seat of `many` posts from one
-- number on
abbrev pub new_seat : ℕ → ℕ → ℕ → Mine
new_seat n k number = (new_held n k number ∷ [], [])

abbrev pub new_seats : ℕ → ℕ → ℕ → ℕ → Mine
new_seats n k number many = (new_helds n k number many, [])

-- a lane's two ends before the first call on a board of n instances, and such ends of `many` lanes
abbrev pub new_outgoing : ℕ → Outgoing
new_outgoing n = record { put = 0; known_taken = 0; closed = false; base = replicate n 0 }

abbrev pub new_incoming : ℕ → Incoming
new_incoming n = record { taken = 0; known_put = 0; base = replicate n 0 }

pub record AreNewEnds (n many : ℕ) (outgoing : List Outgoing) (incoming : List Incoming) : Type 0 where
  pub as_many : length outgoing ≡ many
  pub of_each : length incoming ≡ many
  pub sends : (i : ℕ) (o : Outgoing) → slice_get outgoing i ≡ Some o → o ≡ new_outgoing n
  pub takes : (i : ℕ) (e : Incoming) → slice_get incoming i ≡ Some e → e ≡ new_incoming n

-- the seat is that of all posts of a board of n instances
pub record IsWholeSeat (n k : ℕ) (table chair : TableId) (me : Mine) : Type 0 where
  pub same : chair ≡ table
  pub whole : me ≡ new_seats n k 1 n

-- the value was taken
abbrev pub is_gone : {X : Type 0} → Option X → Bool
is_gone None = true
is_gone (Some x) = false

-- the seat is that of the posts after the first `dealt` ones
pub record AreLeft (n k dealt : ℕ) (me : Mine) : Type 0 where
  pub left : ℕ
  pub as_many : dealt + left ≡ n
  pub seats : me ≡ new_seats n k (suc dealt) left
