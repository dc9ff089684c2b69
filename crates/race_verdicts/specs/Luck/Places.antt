-- The events of a recording's hosts by their places (as ITU-T Z.120 numbers the events of an instance: along its line,
-- from 1).
use Rattle.std.specs.Prelude.{◌≡◌, ℕ, zero, suc, List, [], Option, None, Some, slice_index_or}
use Rattle.chart.specs.Charts.{Place}
use Rattle.chart.specs.Events.{ith}
use Rattle.log_chart.specs.declared.item.Item.{Item}
use Rattle.race_verdicts.specs.Recordings.{RecordingView}

-- the events of one of these hosts
abbrev pub host_items : List (List Item) → ℕ → List Item
host_items hosts zero = []
host_items hosts (suc p) = slice_index_or hosts p []

abbrev pub items_of : RecordingView → ℕ → List Item
items_of rec p = host_items rec.hosts p

-- the event at a place
abbrev pub item_at : RecordingView → Place → Option Item
item_at rec e = ith (items_of rec e.instance) e.index

-- the event at the place is an invented send: it has no line of the log
pub record IsInvented (rec : RecordingView) (e : Place) : Type 0 where
  pub item : Item
  pub is : item_at rec e ≡ Some item
  pub unlogged : item.line ≡ None
