-- The races of a receive as JSON (RFC 8259; the members of an object are this project's profile). A name has only
-- letters, digits and _, so it isn't escaped.
use Rattle.std.specs.Prelude.{ℕ, Bool, ◌==◌, List, [], ◌∷◌, ◌++◌, Option, None, Some, codes, decimal, if◌then◌else◌}
use Rattle.std.specs.List.{flat_map}
use Rattle.chart.specs.declared.event.Event.{Event}
use Rattle.chart.specs.declared.instance.EventNo.{EventNo}
use Rattle.chart.specs.declared.ranges.EventRange.{EventRange}
use Rattle.chart.specs.Events.{ith, partner_of}
use Rattle.chart.specs.Ranges.{events_of}
use Rattle.msc_text.specs.ChartText.{message_at}
use Rattle.texts.specs.Instances.{name_at}
use Rattle.races_text.specs.declared.named.words.Word.TheVariants.{Instance, Receive, Message, Sender, Ranges, Quote, Next, EndRange, EndObject}
use Rattle.races_text.specs.Named.PlainText.{last_of}
use Rattle.races_text.specs.Named.Words.{word_text}

-- the name of an event's partner, or nothing without an event
abbrev pub partner_at : List (List ℕ) → Option Event → List ℕ
partner_at names None = []
partner_at names (Some m) = name_at names (partner_of m)

-- the beginning of an object, up to the receive's number
unfoldable pub number_text : List (List ℕ) → EventNo → List ℕ
number_text names receive =
    word_text Instance ++ (name_at names receive.instance ++ (word_text Receive ++ decimal receive.index))

-- the part after it, up to the list of the ranges: the receive's message, and its sender
unfoldable pub message_and_sender : List (List ℕ) → Option Event → List ℕ
message_and_sender names event =
    word_text Message ++ (message_at event ++ (word_text Sender ++ (partner_at names event ++ word_text Ranges)))

-- the beginning of a range, up to the list of its messages: the numbers of its first and its last event
unfoldable pub range_front : ℕ → ℕ → List ℕ
range_front first last =
    codes "{\"first\":" ++ (decimal first ++ (codes ",\"last\":" ++ (decimal last ++ codes ",\"messages\":[")))

-- a comma before each message except the first
abbrev pub comma_before : Bool → List ℕ
comma_before is_first = if is_first then [] else word_text Next

-- the message of an event, in the range whose first event has this number
unfoldable pub message_text : List Event → ℕ → EventNo → List ℕ
message_text events first e =
    comma_before (e.index == first) ++ (word_text Quote ++ (message_at (ith events e.index) ++ word_text Quote))

-- a range
unfoldable pub range_text : List Event → EventRange → List ℕ
range_text events r =
    range_front r.first.index (last_of r) ++ (flat_map (message_text events r.first.index) (events_of r)
    ++ word_text EndRange)

-- a range after another one
unfoldable pub next_text : List Event → EventRange → List ℕ
next_text events r = word_text Next ++ range_text events r

-- an object on a line of its own, if there are ranges: for this receive of the line with these events
abbrev pub object_text : List (List ℕ) → List Event → EventNo → List EventRange → List ℕ
object_text names events receive [] = []
object_text names events receive (r ∷ ranges) =
    number_text names receive ++ (message_and_sender names (ith events receive.index)
    ++ (range_text events r ++ (flat_map (next_text events) ranges ++ word_text EndObject)))
