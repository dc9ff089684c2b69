-- The messages that were received last, and how one of them is selected (this project's profile).
use Rattle.std.specs.Prelude.{◌≡◌, ◌-◌, List, [], ◌∷◌, length, slice_get, Option, None, Some}
use Rattle.std.specs.Borrow.{Bor}
use Rattle.board.specs.declared.answer.Arrival.{Arrival}
use Rattle.c_board.specs.declared.came.Came.{Came}
use Rattle.c_board.specs.declared.came.Came.TheVariants as came
use Rattle.c_board.specs.declared.came.Which.{Which}
use Rattle.c_board.specs.declared.came.Which.TheVariants.{Last, At}

-- these messages, in their order
abbrev pub came_list : Came → List Arrival
came_list came.None = []
came_list (came.One arrival) = arrival ∷ []
came_list (came.Several arrivals) = arrivals.items

-- the last one, or the one at a place, if there is one
abbrev pub picked : Which → List Arrival → Option Arrival
picked Last arrivals = slice_get arrivals (length arrivals - 1)
picked (At place) arrivals = slice_get arrivals place

-- the result borrows this message, or there is none
abbrev pub IsSeen : Option Arrival → Option (Bor Arrival) → Type 0
IsSeen its None = its ≡ None
IsSeen its (Some seen) = its ≡ Some seen.now
