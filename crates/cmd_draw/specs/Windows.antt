-- The chosen rows of a picture (this project's profile).
use Rattle.std.specs.Prelude.{◌≡◌, ℕ, ◌+◌, ◌-◌, ◌^◌, min, List, Option, None, Some, Result, Ok, Err, if◌then◌else◌}
use Rattle.chart.specs.declared.event.Event.{Event}
use Rattle.chart.specs.declared.instance.EventNo.{EventNo}
use Rattle.chart.specs.Charts.{LineView, chart_lines}
use Rattle.closure.specs.Faults.{place_of}
use Rattle.cmd_base.specs.Contents.{Named}
use Rattle.cmd_draw.specs.declared.windows.Around as arounds
use Rattle.cmd_draw.specs.declared.windows.Rows.{Rows}
use Rattle.cmd_draw.specs.declared.windows.Rows.TheVariants.{Between, Around}
use Rattle.cmd_draw.specs.declared.windows.Window.{Window}
use Rattle.cmd_base.specs.Named.Asked.{instance_named, has_event}
use Rattle.chart_layout.specs.declared.row.Row.{Row}
use Rattle.chart_layout.specs.Layouts.{row_of}
use Rattle.cmd_base.specs.declared.named.missing.Missing.{Missing}
use Rattle.cmd_base.specs.declared.named.missing.Missing.TheVariants.{Instance}
use Rattle.cmd_base.specs.Named.NamedRefusals.{missing_on}

abbrev pub event_on : List (List ℕ) → ℕ → List Event → ℕ → Result EventNo Missing
event_on names p events n =
    if has_event events n then Ok (record { instance = p; index = n }) else Err (missing_on names p events)

abbrev pub event_at : List (List ℕ) → Option ℕ → List LineView → ℕ → Result EventNo Missing
event_at names None lines n = Err Instance
event_at names (Some p) lines n = event_on names p (chart_lines lines p) n

-- the event with this number on the line of the instance with this name, or what the chart lacks
abbrev pub event_named : Named → arounds.Around → Result EventNo Missing
event_named named around = event_at named.0 (instance_named named.0 around.instance.now) named.1 around.event

-- a row, with up to twelve rows above it and up to twelve below it. The number of the last row has at most 64 bits
abbrev pub round : ℕ → Window
round row = record { top = row - 12; bottom = min (row + 12) (2 ^ 64 - 1) }

-- the chosen rows of the layout: those between two numbers, counted from 1, or those around the row of an event
abbrev pub IsWindow : Named → List Row → Rows → Window → Type 0
IsWindow named layout (Between rows) window = window ≡ record { top = rows.first - 1; bottom = rows.last - 1 }
IsWindow named layout (Around around) window = (event : EventNo) × (row : ℕ) × (event_named named around ≡ Ok event)
    × (row_of layout (place_of event) ≡ Some row) × (window ≡ round row)

-- the rows are around an event that the chart doesn't have, and this is what it lacks
abbrev pub HasNoWindow : Named → Rows → Missing → Type 0
HasNoWindow named (Between rows) missing = ⊥
HasNoWindow named (Around around) missing = event_named named around ≡ Err missing
