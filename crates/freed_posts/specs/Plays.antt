-- What each step on a shelf's table guarantees to its caller (this project's profile).
use Rattle.std.specs.Prelude.{◌≡◌, ◌≢◌, ℕ, suc, Bool, true, false, List, [], ◌∷◌, Option, Some, None}
use Rattle.atomic_table.specs.Seated.{TableId}
use Rattle.atomic_table.specs.Table.{rest}
use Rattle.board_table.specs.declared.shape.Shape.{Shape}
use Rattle.board.specs.Views.{PostView}
use Rattle.board.specs.Parked.{IsAtBoard}
use Rattle.freed_posts.specs.declared.change.Change.{Change}
use Rattle.freed_posts.specs.declared.change.Change.TheVariants.{Kept, Taken}
use Rattle.freed_posts.specs.declared.knowledge.Right.TheVariants.{Nothing, Taking, Handing}
use Rattle.freed_posts.specs.declared.knowledge.Knowledge.{Knowledge}
use Rattle.freed_posts.specs.Shelves.{lying, AreOthers}
use Rattle.freed_posts.specs.Knowing.{Mine, knowledge, issued, place_of}

-- the place goes out with the ticket's seat, and is empty
abbrev pub Issues : ℕ → Mine → Mine → Type 0
Issues place m w = w ≡ (issued place m.0.seen, (place, None) ∷ m.1)

-- the place of a taken post is home again, and empty, for a new ticket
abbrev pub Hands : ℕ → Mine → Mine → Type 0
Hands place m w = w ≡ (knowledge (Handing (place_of m.0.right) place) m.0.seen, rest m.1)

-- the changes, and then that what is in the place that is out first is kept
abbrev pub kept_in : Option PostView → List Change → List Change
kept_in None changes = changes
kept_in (Some post) changes = Kept post ∷ changes

abbrev pub with_kept : List (ℕ × Option PostView) → List Change → List Change
with_kept [] changes = changes
with_kept (x ∷ out) changes = kept_in x.1 changes

-- the place is home again, and what the seat put into it is kept
pub record KeepsAt (place : ℕ) (m w : Mine) : Type 0 where
  pub before : List Change
  pub others : AreOthers (suc place) m.0.seen before
  pub vacant : lying before (suc place) ≡ None
  pub is : w ≡ (knowledge Nothing (with_kept m.1 before), rest m.1)

-- before the step the post was in the place, which isn't the ticket's own
pub record WasThere (key : Shape) (board : TableId) (place mine : ℕ) (seen : List Change) (post : PostView)
    (before : List Change) : Type 0 where
  pub others : AreOthers (suc mine) seen before
  pub lay : lying before (suc place) ≡ Some post
  pub at : IsAtBoard key board post
  pub number : post.number ≡ suc place
  pub apart : mine ≢ place

-- what the ticket's seat knows and has after it took the post, with this left in the post's place
abbrev pub taken_with : Option PostView → ℕ → ℕ → List Change → Mine
taken_with left place mine before = (
  knowledge (Taking mine place) (Taken (suc place) (suc mine) ∷ before),
  (place, left) ∷ (mine, None) ∷ [],
)

abbrev pub TakesWith : Option PostView → Shape → TableId → ℕ → Knowledge → PostView → Mine → Type 0
TakesWith left key board place view post w = (before : List Change)
    × WasThere key board place (place_of view.right) view.seen post before
    × (w ≡ taken_with left place (place_of view.right) before)

abbrev pub TakesOut : Shape → TableId → ℕ → Knowledge → PostView → Mine → Type 0
TakesOut key board place view post w = TakesWith None key board place view post w

-- nothing is in the place
pub record FindsNothing (place : ℕ) (view : Knowledge) (w : Mine) : Type 0 where
  pub others : AreOthers (suc (place_of view.right)) view.seen w.0.seen
  pub none : lying w.0.seen (suc place) ≡ None
  pub is : w ≡ (issued (place_of view.right) w.0.seen, (place_of view.right, None) ∷ [])

-- what a step finds in the place: a post or nothing
abbrev pub TakesAt : Shape → TableId → ℕ → Mine → Bool → Mine → Type 0
TakesAt key board place m true w = (post : PostView) × TakesWith (Some post) key board place m.0 post w
TakesAt key board place m false w = FindsNothing place m.0 w
