-- The receives of a lane in their turn (lanes are first in, first out, as Alur, Holzmann and Peled 1996 have them).
use Rattle.std.specs.Prelude.{◌≡◌, ℕ, true, List, Some}
use Rattle.chart.specs.declared.event.Event.{Event}
use Rattle.chart.specs.Events.{ith, tally, is_receive_from}

-- the event at j of the line is a receive from q, and there are `many` of these up to it
pub record IsReceiveInTurn (line : List Event) (q many j : ℕ) : Type 0 where
  pub received : (m : Event) × (ith line j ≡ Some m) × (is_receive_from q m ≡ true)
  pub turn : tally (is_receive_from q) line j ≡ many
