-- The sayings of the rows of a layout, each in the terms of a tool (this project's own).
use Rattle.std.specs.Prelude.{ℕ, List, Bool, true, false, Option, None, Some, if◌then◌else◌}
use Rattle.std.specs.List.{list_any}
use Rattle.chart.specs.declared.event.Event.{Event}
use Rattle.chart.specs.declared.event.Event.TheVariants as events
use Rattle.chart.specs.declared.instance.EventNo.{EventNo}
use Rattle.chart.specs.Events.{name_of}
use Rattle.chart_layout.specs.declared.row.Row.{Row}
use Rattle.chart_layout.specs.declared.row.Row.TheVariants as rows
use Rattle.diagram_export.specs.declared.saying.Saying.{Saying}
use Rattle.diagram_export.specs.declared.saying.Saying.TheVariants.{Arrow, Lost, Late, Sends, Receives, Space}
use Rattle.diagram_tool.specs.declared.Tool.{Tool}
use Rattle.diagram_tool.specs.declared.Tool.TheVariants.{Mscgen, PlantUml, Mermaid}
use Rattle.diagram_export.specs.Exports.{ExportView, event_of, end_of, skip}

-- the tool has arrows that end lower than they begin
abbrev pub has_late : Tool → Bool
has_late Mscgen = true
has_late PlantUml = false
has_late Mermaid = false

-- a message that is level
abbrev pub level : EventNo → EventNo → Option Event → Saying
level send receive None = Space
level send receive (Some event) = Arrow send.instance receive.instance (name_of event)

-- a send alone, given its receive
abbrev pub sent : ExportView → EventNo → ℕ → List ℕ → Option EventNo → Saying
sent v e to name None = Lost e.instance to name
sent v e to name (Some receive) = if has_late v.tool then Late e.instance to name (skip v e receive) else
    Sends e.instance to name

-- a receive alone
abbrev pub received : Tool → ℕ → ℕ → List ℕ → Saying
received tool p from name = if has_late tool then Space else Receives p from name

-- an event alone
abbrev pub alone : ExportView → EventNo → Option Event → Saying
alone v e None = Space
alone v e (Some (events.Send to name)) = sent v e to name (end_of v e)
alone v e (Some (events.Receive from name region)) = received v.tool e.instance from name

-- the saying of a row
abbrev pub saying_of : ExportView → Row → Saying
saying_of v (rows.Message send receive) = level send receive (event_of v send)
saying_of v (rows.Event e) = alone v e (event_of v e)

-- a saying is one end of a message alone
abbrev pub is_end : Saying → Bool
is_end (Sends at to name) = true
is_end (Receives at from name) = true
is_end (Arrow from to name) = false
is_end (Lost from to name) = false
is_end (Late from to name skip) = false
is_end Space = false

-- the two ends of some message are separate notes
abbrev pub has_parted : ExportView → Bool
has_parted v = list_any (λ row. is_end (saying_of v row)) v.rows
