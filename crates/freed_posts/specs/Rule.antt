-- The rule of a shelf (this project's profile). There is always one list of changes that agrees with the words, with
-- what is in the places at home, and with what the seats know.
use Rattle.std.specs.Prelude.{◌≡◌, ℕ, suc, ◌<◌, ◌≤◌, ◌⊎◌, List, [], length, slice_index, Option, Some, None}
use mathlib.Core.Option.{some}
use mathlib.Core.Option as maybe
use lib.ListN.{get_elem?}
use Rattle.atomic_table.specs.Table.{State}
use Rattle.atomic_table.specs.Seated.{TableId}
use Rattle.board_table.specs.declared.shape.Shape.{Shape}
use Rattle.board.specs.Views.{PostView}
use Rattle.board.specs.Parked.{IsAtBoard}
use Rattle.freed_posts.specs.declared.change.Change.{Change}
use Rattle.freed_posts.specs.declared.knowledge.Right.{Right}
use Rattle.freed_posts.specs.declared.knowledge.Right.TheVariants.{Nothing, Unissued, Issued, Taking, Handing}
use Rattle.freed_posts.specs.declared.knowledge.Knowledge.{Knowledge}
use Rattle.freed_posts.specs.Shelves.{lying, made_with, GoOn}

-- the places at home, each with what it has
abbrev pub Homes : Type 0
Homes = List (maybe.Option (Option PostView))

-- the table has a word and a slot for each post of the board
pub record IsShelfTable (key : Shape) (table : TableId) : Type 0 where
  pub words : table.words ≡ key.instances
  pub slots : table.slots ≡ key.instances

-- the post is at home in the place of its number, and the place's word says so
pub record Lies (key : Shape) (board : TableId) (place : ℕ) (words : List ℕ) (homes : Homes) (post : PostView)
    : Type 0 where
  pub word : slice_index words place ≡ 1
  pub home : get_elem? homes place ≡ some (some (Some post))
  pub at : IsAtBoard key board post
  pub number : post.number ≡ suc place

-- the place's word, and what is at home in it, agree with the post that is on the shelf
abbrev pub IsPlace : Shape → TableId → ℕ → List ℕ → Homes → Option PostView → Type 0
IsPlace key board place words homes None = slice_index words place ≡ 0
IsPlace key board place words homes (Some post) = Lies key board place words homes post

-- the right is to this place
abbrev pub HasPlace : Right → ℕ → Type 0
HasPlace Nothing place = ⊥
HasPlace (Unissued first end) place = (first ≤ place) × (place < end)
HasPlace (Issued mine) place = place ≡ mine
HasPlace (Taking mine other) place = (place ≡ mine) ⊎ (place ≡ other)
HasPlace (Handing mine other) place = (place ≡ mine) ⊎ (place ≡ other)

-- the places that are to be issued are at home, and empty
abbrev pub AreVacant : Right → Homes → Type 0
AreVacant Nothing homes = Unit {0}
AreVacant (Unissued first end) homes = (place : ℕ) → first ≤ place → place < end → get_elem? homes place ≡ some (some None)
AreVacant (Issued mine) homes = Unit {0}
AreVacant (Taking mine other) homes = Unit {0}
AreVacant (Handing mine other) homes = get_elem? homes other ≡ some (some None)

-- the place is this seat's, and so no post of its number is on the shelf. The seat has seen all changes that were made
-- with the place's ticket
pub record IsOwned (n : ℕ) (log : List Change) (owner : ℕ → ℕ) (id : ℕ) (seen : List Change) (place : ℕ)
    : Type 0 where
  pub within : place < n
  pub owner_is : owner place ≡ id
  pub away : lying log (suc place) ≡ None
  pub made : made_with (suc place) log ≡ made_with (suc place) seen

-- what a seat knows agrees with the changes, and its places are no other seat's
pub record Fits (n : ℕ) (log : List Change) (owner : ℕ → ℕ) (homes : Homes) (id : ℕ) (v : Knowledge) : Type 0 where
  pub seen : GoOn v.seen log
  pub owns : (place : ℕ) → HasPlace v.right place → IsOwned n log owner id v.seen place
  pub vacant : AreVacant v.right homes

pub record IsShelf (key : Shape) (board : TableId) (s : State (Option PostView) Knowledge) : Type 0 where
  -- all changes so far, the newest first
  pub log : List Change
  -- by place, the seat whose it is
  pub owner : ℕ → ℕ
  pub words_are : length s.words ≡ key.instances
  pub slots_are : length s.homes ≡ key.instances
  pub places : (place : ℕ) → place < key.instances → IsPlace key board place s.words s.homes (lying log (suc place))
  pub entries : (id : ℕ) (v : Knowledge) → get_elem? s.views id ≡ some v
      → Fits key.instances log owner s.homes id v

-- a name that no table has
abbrev pub no_table : TableId
no_table = record {
  words = 0;
  slots = 0;
  views_name = 0;
  atom = 0;
  block = 0;
  offset = 0;
  slot_names = [];
}
