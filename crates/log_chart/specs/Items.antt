-- The events of each host: those of its lines that stay, in their order, and the invented sends.
use Rattle.std.specs.Prelude.{ℕ, ◌==◌, true, List, [], ◌∷◌, ◌++◌, map, Option, None, Some, if◌then◌else◌}
use Rattle.std.specs.List.{flat_map}
use Rattle.log_chart.specs.Begun.{behind, heads, heads_to}
use Rattle.log_chart.specs.Entries.{is_send}
use Rattle.log_chart.specs.declared.begun.Begun.{Begun}
use Rattle.log_chart.specs.declared.item.Item.{Item}
use Rattle.log_chart.specs.declared.item.MessageNo.{MessageNo}
use Rattle.log_chart.specs.declared.item.MessageNo.TheVariants as messages
use Rattle.log_chart.specs.declared.matching.LogLine.{LogLine}
use Rattle.log_chart.specs.declared.name_order.HostName.{HostName}

-- a message is known by the line that sends it or, if its send is invented, by the line that receives it
abbrev pub received_message : ℕ → Option ℕ → MessageNo
received_message n (Some s) = messages.Sent s
received_message n None = messages.Begun n

abbrev pub message_of : LogLine → MessageNo
message_of x = if is_send x.entry.kind then messages.Sent x.number else received_message x.number x.send

-- the line by which a message is known: it has the message's name
abbrev pub naming_line : MessageNo → ℕ
naming_line (messages.Sent n) = n
naming_line (messages.Begun n) = n

-- the event of a line
abbrev pub item_of : LogLine → Item
item_of x = record { sends = is_send x.entry.kind; partner = x.entry.peer; message = message_of x; line = Some x.number }

-- the send to p that is invented for the receive of this line
abbrev pub invented : ℕ → ℕ → Item
invented p r = record { sends = true; partner = p; message = messages.Begun r; line = None }

-- the invented sends directly after the event of a line
abbrev pub invented_behind : List Begun → LogLine → List Item
invented_behind given x = if is_send x.entry.kind then map (invented x.entry.peer) (behind given x.number) else []

-- what a line of the log gives to q's line
abbrev pub items_by : List Begun → ℕ → LogLine → List Item
items_by given q x = if x.entry.host == q then item_of x ∷ invented_behind given x else []

-- the invented sends at the head of a line, to these hosts one after another
unfoldable pub heads_in : List Begun → List HostName → List Item
heads_in given [] = []
heads_in given (x ∷ hosts) = map (invented x.host) (heads_to given x.host) ++ heads_in given hosts

-- q's line, of these hosts in the order of their names
unfoldable pub items_of : List HostName → List LogLine → List Begun → ℕ → List Item
items_of hosts lines given q = heads_in (heads given q) hosts ++ flat_map (items_by given q) lines
