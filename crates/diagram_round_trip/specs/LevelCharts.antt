-- Charts that mscgen's language can express completely: without coregions, and with each received message drawn level
-- (this project's profile).
use Rattle.std.specs.Prelude.{◌≡◌, ℕ, ◌==◌, List, [], ◌∷◌, ◌++◌, length, slice_get, Some, None, All, if◌then◌else◌}
use Rattle.chart.specs.Charts.{Chart, LineView, IsChart, IsPossible, chart_lines}
use Rattle.chart.specs.Events.{name_of, region_of, send_event, receive_event}
use Rattle.chart.specs.Names.{IsName}
use Rattle.chart.specs.NameSets.{AreNames}
use Rattle.chart.specs.declared.event.Event.{Event}
use Rattle.chart.specs.declared.instance.EventNo.{EventNo}
use Rattle.closure.specs.Faults.{place_of}
use Rattle.chart_layout.specs.Ends.{IsEnd}
use Rattle.chart_layout.specs.Layouts.{IsDrawing}
use Rattle.chart_layout.specs.declared.row.Row.{Row}
use Rattle.chart_layout.specs.declared.row.Row.TheVariants as rows

-- no receive is in a coregion
abbrev pub HasNoRegions : List LineView → Type 0
HasNoRegions lines = All (λ l. All (λ m. region_of m ≡ 0) l.events) lines

-- each message has a name
abbrev pub HaveNames : List LineView → Type 0
HaveNames lines = All (λ l. All (λ m. IsName (name_of m)) l.events) lines

-- the received messages are level: no event that is alone has another end
abbrev pub AreLevel : Chart → List Row → Type 0
AreLevel c drawing = (i : ℕ) (e : EventNo) → slice_get drawing i ≡ Some (rows.Event e) → IsEnd c (place_of e) None

-- a possible chart of instances with these names, drawn in these rows, without coregions and with level messages
pub record IsLevelChart (names : List (List ℕ)) (lines : List LineView) (rows : List Row) : Type 0 where
  pub chart : IsChart lines
  pub possible : IsPossible (length lines) (chart_lines lines)
  pub many : length names ≡ length lines
  pub distinct : AreNames names
  pub named : All IsName names
  pub messages : HaveNames lines
  pub regions : HasNoRegions lines
  pub laid_out : IsDrawing lines rows
  pub level : AreLevel (chart_lines lines) rows

-- a message from one instance to another
pub record Passed : Type 0 where
  pub from : ℕ
  pub to : ℕ
  pub name : List ℕ

-- the event that a message adds to a line: its send, or its receive
abbrev pub ends_at : ℕ → Passed → List Event
ends_at p m =
    (if m.from == p then send_event m.to m.name ∷ [] else [])
    ++ (if m.to == p then receive_event m.from m.name 0 ∷ [] else [])

-- the line of an instance, if each message is received before the next one is sent
abbrev pub at_once : List Passed → Chart
at_once [] p = []
at_once (m ∷ messages) p = ends_at p m ++ at_once messages p
