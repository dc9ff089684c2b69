-- What a seat at a shelf's table knows (this project's profile). A place of the shelf is counted from 0, and is that of
-- the post with the next number.
use Rattle.std.specs.Prelude.{◌≡◌, ◌≢◌, ℕ, suc, ◌+◌, ◌<◌, List, [], ◌∷◌, Option, None}
use Rattle.atomic_table.specs.Seated.{TableId}
use Rattle.atomic_table.specs.Table.{Me}
use Rattle.board.specs.Views.{PostView}
use Rattle.freed_posts.specs.declared.change.Change.{Change}
use Rattle.freed_posts.specs.declared.knowledge.Right.{Right}
use Rattle.freed_posts.specs.declared.knowledge.Right.TheVariants.{Nothing, Unissued, Issued, Taking, Handing}
use Rattle.freed_posts.specs.declared.knowledge.Knowledge.{Knowledge}
use Rattle.freed_posts.specs.Shelves.{TicketView}

-- what a seat knows, and the places that are out with it, each with what it has
abbrev pub Mine : Type 0
Mine = Me (Option PostView) Knowledge

abbrev pub knowledge : Right → List Change → Knowledge
knowledge right seen = record { right = right; seen = seen }

-- the right to places from the first one to before the second, which aren't issued yet
abbrev pub unissued : ℕ → ℕ → List Change → Knowledge
unissued first end seen = knowledge (Unissued first end) seen

-- the right to a place, which is out
abbrev pub issued : ℕ → List Change → Knowledge
issued place seen = knowledge (Issued place) seen

-- the next place to be issued, and the other ones
abbrev pub next_place : Right → Right
next_place Nothing = Nothing
next_place (Unissued first end) = Unissued first (first + 1)
next_place (Issued place) = Nothing
next_place (Taking place other) = Nothing
next_place (Handing place other) = Unissued other (other + 1)

abbrev pub other_places : Right → Right
other_places Nothing = Nothing
other_places (Unissued first end) = Unissued (first + 1) end
other_places (Issued place) = Issued place
other_places (Taking place other) = Taking place other
other_places (Handing place other) = Issued place

abbrev pub first_issued : Knowledge → Knowledge
first_issued view = knowledge (next_place view.right) view.seen

abbrev pub rest_unissued : Knowledge → Knowledge
rest_unissued view = knowledge (other_places view.right) view.seen

-- the place is the next to be issued
abbrev pub IsNext : Right → ℕ → Type 0
IsNext Nothing place = ⊥
IsNext (Unissued first end) place = (place ≡ first) × (first < end)
IsNext (Issued mine) place = ⊥
IsNext (Taking mine other) place = ⊥
IsNext (Handing mine other) place = (place ≡ other) × (mine ≢ other)

-- the place of a ticket
abbrev pub place_of : Right → ℕ
place_of Nothing = 0
place_of (Unissued first end) = 0
place_of (Issued place) = place
place_of (Taking place other) = place
place_of (Handing place other) = place

-- the ticket for this number, which has seen these changes
abbrev pub ticket_for : TableId → ℕ → List Change → TicketView
ticket_for table number seen = record { shelf = table; number = number; seen = seen }

-- the ticket with this seat
abbrev pub ticket_of : TableId → Mine → TicketView
ticket_of table me = ticket_for table (suc (place_of me.0.right)) me.0.seen

-- the seat is that of a ticket: its place is out with it, and empty
pub record IsTicket (table : TableId) (me : Mine) : Type 0 where
  pub within : place_of me.0.right < table.words
  pub is : me ≡ (issued (place_of me.0.right) me.0.seen, (place_of me.0.right, None) ∷ [])
