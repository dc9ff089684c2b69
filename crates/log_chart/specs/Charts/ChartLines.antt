-- The chart of a log's hosts. A message has the name of the line that sends it or, if its send is invented, of the line
-- that receives it.
use Rattle.std.specs.Prelude.{ℕ, zero, suc, ◌<◌, nat_lt, List, [], ◌∷◌, length, map, All, Option, None, Some, if◌then◌else◌}
use Rattle.chart.specs.Charts.{LineView}
use Rattle.chart.specs.Events.{send_event, receive_event}
use Rattle.chart.specs.declared.event.Event.{Event}
use Rattle.chart.specs.declared.line.TheConstants.{MAX_EVENTS}
use Rattle.log_chart.specs.declared.entry.Entry.{Entry}
use Rattle.log_chart.specs.declared.item.Item.{Item}
use Rattle.log_chart.specs.Items.{naming_line}

-- the name in the line of this number
abbrev pub name_at : List Entry → ℕ → List ℕ
name_at [] n = []
name_at (e ∷ log) zero = e.name
name_at (e ∷ log) (suc n) = name_at log n

abbrev pub message_name : List Entry → Item → List ℕ
message_name log i = name_at log (naming_line i.message)

abbrev pub event_of : List Entry → Item → Event
event_of log i = if i.sends then send_event i.partner (message_name log i) else receive_event i.partner (message_name log i) 0

-- the lines, of which the first is p's
unfoldable pub chart_from : List Entry → ℕ → List (List Item) → List LineView
chart_from log p [] = []
chart_from log p (items ∷ lines) = record { instance = p; events = map (event_of log) items } ∷ chart_from log (suc p) lines

-- the first instance with more events than a line holds
unfoldable pub first_full : ℕ → List (List Item) → Option ℕ
first_full p [] = None
first_full p (items ∷ lines) = if nat_lt MAX_EVENTS (length items) then Some p else first_full (suc p) lines

-- the lines that name these events are among n
abbrev pub AreNamed : ℕ → List Item → Type 0
AreNamed n items = All (λ i. naming_line i.message < n) items
