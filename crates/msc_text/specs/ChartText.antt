-- The text of a chart (a profile of the instance-oriented text of ITU-T Z.120).
use Rattle.std.specs.Prelude.{ℕ, ◌==◌, ◌||◌, List, [], ◌∷◌, ◌++◌, codes, Option, None, Some, if◌then◌else◌}
use Rattle.std.specs.List.{flat_map}
use Rattle.chart.specs.Words.{Name, Text}
use Rattle.chart.specs.declared.event.Event.{Event}
use Rattle.chart.specs.declared.event.Event.TheVariants.{Send, Receive}
use Rattle.chart.specs.Events.{name_of, region_of}
use Rattle.texts.specs.Instances.{name_at}
use Rattle.chart.specs.Charts.{LineView}
use Rattle.chart.specs.Keywords.{spelled}
use Rattle.chart.specs.declared.keyword.Keyword.{Keyword}
use Rattle.chart.specs.declared.keyword.Keyword.TheVariants as keywords

-- the name of an event's message, or nothing if there is no event
abbrev pub message_at : Option Event → List ℕ
message_at None = []
message_at (Some m) = name_of m

-- a line of four words: the direction of the message, its name, a word for the partner's side, and the partner
unfoldable pub event_line : Keyword → Text → Keyword → Text → Text
event_line direction message side partner =
    spelled direction
    ++ (codes " " ++ (message ++ (codes " " ++ (spelled side ++ (codes " " ++ (partner ++ codes ";\n"))))))

-- a line of one word
unfoldable pub lone_line : Keyword → Text
lone_line word = spelled word ++ codes ";\n"

-- out MESSAGE to NAME; or in MESSAGE from NAME;
unfoldable pub event_text : List Name → Event → Text
event_text names (Send to name) = event_line keywords.Out name keywords.To (name_at names to)
event_text names (Receive from name region) = event_line keywords.In name keywords.From (name_at names from)

-- the line that ends the coregion r, if the next event is in c
unfoldable pub ending : ℕ → ℕ → Text
ending r c = if r == c || r == 0 then [] else lone_line keywords.EndConcurrent

-- the line that begins the coregion c, if the event before is in r
unfoldable pub beginning : ℕ → ℕ → Text
beginning r c = if r == c || c == 0 then [] else lone_line keywords.Concurrent

-- an event after one that is in the coregion r
unfoldable pub event_lines_text : List Name → ℕ → Event → Text
event_lines_text names r m = ending r (region_of m) ++ (beginning r (region_of m) ++ event_text names m)

-- the events of a line, if the event before them is in the coregion r
abbrev pub events_text : List Name → ℕ → List Event → Text
events_text names r [] = ending r 0
events_text names r (m ∷ line) = event_lines_text names r m ++ events_text names (region_of m) line

-- instance NAME;
unfoldable pub head_text : List Name → ℕ → Text
head_text names p = spelled keywords.Instance ++ (codes " " ++ (name_at names p ++ codes ";\n"))

unfoldable pub foot_text : Text
foot_text = lone_line keywords.EndInstance

-- an instance and the events of its line
unfoldable pub line_text : List Name → LineView → Text
line_text names line = head_text names line.instance ++ (events_text names 0 line.events ++ foot_text)

-- the name that each chart has in its text
unfoldable pub chart_name : Text
chart_name = codes "run"

unfoldable pub begin_text : Text
begin_text = spelled keywords.Msc ++ (codes " " ++ (chart_name ++ codes ";\n"))

unfoldable pub end_text : Text
end_text = lone_line keywords.EndMsc

-- the text of the chart, whose instances have these names
unfoldable pub chart_text : List Name → List LineView → Text
chart_text names lines = begin_text ++ (flat_map (line_text names) lines ++ end_text)
