-- Which line of a chart's text writes an event (this project's profile of the text of ITU-T Z.120).
use Rattle.std.specs.Prelude.{◌≡◌, ℕ, zero, suc, List, [], ◌∷◌, ◌++◌, take, Some}
use Rattle.std.specs.List.{flat_map}
use Rattle.chart.specs.Words.{Name, Text}
use Rattle.chart.specs.Charts.{LineView, Place, chart_lines, chart_event}
use Rattle.chart.specs.Events.{ith, region_of}
use Rattle.chart.specs.declared.event.Event.{Event}
use Rattle.fault_places.specs.Standings.{event_from}
use Rattle.msc_text.specs.ChartText.{event_text, ending, beginning, event_lines_text, head_text, line_text, begin_text, chart_text}
use Rattle.msc_text.specs.Reader.HasText.{HasText}
use Rattle.texts.specs.Lines.{lines_of, ended}

-- the elements before the i-th, from 1
abbrev pub before_ith : {X : Type 0} → List X → ℕ → List X
before_ith xs zero = []
before_ith xs (suc i) = take i xs

-- the text of these events and of the lines of coregions up to the event m after them, if the event before them is in
-- the coregion r
abbrev pub events_before : List Name → ℕ → List Event → Event → Text
events_before names r [] m = ending r (region_of m) ++ beginning r (region_of m)
events_before names r (first ∷ events) m = event_lines_text names r first ++ events_before names (region_of first) events m

-- the part of a chart's text before the line of the event m, which is at e
abbrev pub text_before : List Name → List LineView → Place → Event → Text
text_before names lines e m =
    begin_text
    ++ (flat_map (line_text names) (before_ith lines e.instance)
    ++ (head_text names e.instance ++ events_before names 0 (before_ith (chart_lines lines e.instance) e.index) m))

-- the line with this number, from 1, in a text has the event m at e; above it is exactly what a chart's text has before
-- this event
pub record IsLineOf (names : List Name) (lines : List LineView) (e : Place) (m : Event) (text : Text) (number : ℕ) : Type 0 where
  pub line : Text
  pub writes : ended line ≡ event_text names m
  pub there : ith (lines_of text) number ≡ Some line
  pub above : before_ith (lines_of text) number ≡ lines_of (text_before names lines e m)
  pub rest : Text
  pub splits : text ≡ text_before names lines e m ++ (event_text names m ++ rest)

-- in a text that begins with a chart's text, the number that is found for an event is that of the event's line
abbrev pub LineLaw : Type 0
LineLaw = (names : List Name) (lines : List LineView) (behind : Text) (e : Place) (m : Event) → HasText names lines
    → chart_event (chart_lines lines) e ≡ Some m
    → IsLineOf names lines e m (chart_text names lines ++ behind)
    (event_from e.instance e.index 0 0 1 (lines_of (chart_text names lines ++ behind)))
