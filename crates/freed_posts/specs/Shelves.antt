-- Shelves of freed posts: what a contract sees of a shelf and its tickets, and what each call answers (this project's
-- profile).
use Rattle.std.specs.Prelude.{◌≡◌, ℕ, suc, ◌==◌, List, [], ◌∷◌, ◌++◌, length, slice_get, Option, Some, None, if◌then◌else◌}
use Rattle.atomic_table.specs.Seated.{TableId}
use Rattle.board_table.specs.declared.shape.Shape.{Shape}
use Rattle.board.specs.Views.{PostView}
use Rattle.board.specs.Parked.{IsAtBoard}
use Rattle.freed_posts.specs.declared.change.Change.{Change}
use Rattle.freed_posts.specs.declared.change.Change.TheVariants.{Kept, Taken}

-- the size and the table of the shelf's board, and the shelf's own table
pub record ShelfView : Type 0 where
  pub key : Shape
  pub board : TableId
  pub table : TableId

-- the table of the ticket's shelf, the number of the post that it is for, and the changes of the shelf that it has
-- seen, the newest first
pub record TicketView : Type 0 where
  pub shelf : TableId
  pub number : ℕ
  pub seen : List Change

-- the table of the shelf, and the changes of the shelf up to that of the receipt, the newest first
pub record ReceiptView : Type 0 where
  pub shelf : TableId
  pub seen : List Change

-- the post with this number that is on the shelf after these changes
abbrev pub lying : List Change → ℕ → Option PostView
lying [] p = None
lying (Kept post ∷ changes) p = if post.number == p then Some post else lying changes p
lying (Taken q by ∷ changes) p = if q == p then None else lying changes p

-- the change was made with the ticket of the post with this number
abbrev pub maker : Change → ℕ
maker (Kept post) = post.number
maker (Taken q by) = by

-- of these changes those that were made with the ticket of the post with this number
abbrev pub made_with : ℕ → List Change → List Change
made_with p [] = []
made_with p (change ∷ changes) = if maker change == p then change ∷ made_with p changes else made_with p changes

-- the later changes are the earlier ones, and newer ones
abbrev pub GoOn : List Change → List Change → Type 0
GoOn earlier later = (newer : List Change) × (later ≡ newer ++ earlier)

-- the changes go on from those that were seen, and none of the newer ones was made with the ticket for this number
pub record AreOthers (number : ℕ) (seen changes : List Change) : Type 0 where
  pub later : GoOn seen changes
  pub made : made_with number changes ≡ made_with number seen

-- the post is one of the shelf's board, and the ticket is that of the post on this shelf
pub record IsTicketOf (shelf : ShelfView) (post : PostView) (ticket : TicketView) : Type 0 where
  pub shelf_is : ticket.shelf ≡ shelf.table
  pub number_is : ticket.number ≡ post.number
  pub at : IsAtBoard shelf.key shelf.board post

-- the ticket of a new shelf for the post with this number
abbrev pub new_ticket : TableId → ℕ → TicketView
new_ticket table number = record { shelf = table; number = number; seen = [] }

-- the tickets of the first `many` posts
pub record AreFirst (many : ℕ) (table : TableId) (tickets : List TicketView) : Type 0 where
  pub as_many : length tickets ≡ many
  pub each : (i : ℕ) (ticket : TicketView) → slice_get tickets i ≡ Some ticket → ticket ≡ new_ticket table (suc i)

-- a new shelf of the board with this table, and its tickets
pub record IsNewShelf (key : Shape) (board : TableId) (shelf : ShelfView) (tickets : List TicketView) : Type 0 where
  pub key_is : shelf.key ≡ key
  pub board_is : shelf.board ≡ board
  pub tickets_are : AreFirst key.instances shelf.table tickets

-- the post is kept on the shelf, where no post of its number was: by one change, directly after others that go on from
-- those that the ticket had seen
pub record Keeps (ticket : TicketView) (post : PostView) (receipt : ReceiptView) : Type 0 where
  pub shelf_is : receipt.shelf ≡ ticket.shelf
  pub before : List Change
  pub others : AreOthers ticket.number ticket.seen before
  pub vacant : lying before post.number ≡ None
  pub seen : receipt.seen ≡ Kept post ∷ before

-- it is the same ticket, and may have seen more
pub record IsSameTicket (old new : TicketView) : Type 0 where
  pub shelf_is : new.shelf ≡ old.shelf
  pub number_is : new.number ≡ old.number

-- nothing is changed, and no post of this number is on the shelf, after all changes that the ticket has seen now
pub record FindsNone (old : TicketView) (number : ℕ) (new : TicketView) : Type 0 where
  pub same : IsSameTicket old new
  pub others : AreOthers old.number old.seen new.seen
  pub none : lying new.seen number ≡ None

-- the post with this number is taken from the shelf, where it was, and its ticket with it: by one change, which both
-- tickets have seen as the newest
pub record TakesPost (shelf : ShelfView) (old : TicketView) (number : ℕ) (ticket : TicketView) (post : PostView)
    (new : TicketView) : Type 0 where
  pub same : IsSameTicket old new
  pub before : List Change
  pub others : AreOthers old.number old.seen before
  pub lay : lying before number ≡ Some post
  pub seen : new.seen ≡ Taken number old.number ∷ before
  pub number_is : post.number ≡ number
  pub ticket_is : IsTicketOf shelf post ticket
  pub ticket_seen : ticket.seen ≡ new.seen

-- what a take of the post with this number answers
abbrev pub Takes : ShelfView → TicketView → ℕ → Option (TicketView × PostView) → TicketView → Type 0
Takes shelf old number None new = FindsNone old number new
Takes shelf old number (Some found) new = TakesPost shelf old number found.0 found.1 new
