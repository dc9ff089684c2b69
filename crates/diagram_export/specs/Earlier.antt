-- The earlier events that a receive may come before. Each is named by its message, because another tool doesn't draw
-- event numbers (this project's profile).
use Rattle.std.specs.Prelude.{ℕ, ◌+◌, ◌-◌, ◌==◌, List, [], ◌∷◌, ◌++◌, Option, None, Some, if◌then◌else◌}
use Rattle.std.specs.List.{flat_map}
use Rattle.chart.specs.declared.event.Event.{Event}
use Rattle.chart.specs.declared.event.Event.TheVariants.{Send, Receive}
use Rattle.chart.specs.declared.instance.EventNo.{EventNo}
use Rattle.chart.specs.declared.ranges.EventRange.{EventRange}
use Rattle.texts.specs.Instances.{name_at}
use Rattle.diagram_export.specs.declared.word.Word.TheVariants as words
use Rattle.diagram_export.specs.Exports.{ExportView, event_of}
use Rattle.diagram_export.specs.Words.{spelled}

-- MESSAGE to NAME, or MESSAGE from NAME
unfoldable pub sent_to : ExportView → ℕ → List ℕ → List ℕ
sent_to v to name = name ++ (spelled words.To ++ name_at v.names to)

unfoldable pub received_from : ExportView → ℕ → List ℕ → List ℕ
received_from v from name = name ++ (spelled words.From ++ name_at v.names from)

abbrev pub event_words : ExportView → Option Event → List ℕ
event_words v None = []
event_words v (Some (Send to name)) = sent_to v to name
event_words v (Some (Receive from name region)) = received_from v from name

abbrev pub event_named : ExportView → EventNo → List ℕ
event_named v e = event_words v (event_of v e)

-- the last event of a range
abbrev pub last_of : EventRange → EventNo
last_of r = record { instance = r.first.instance; index = r.first.index + (r.count - 1) }

-- FIRST up to LAST
unfoldable pub up_to : ExportView → EventNo → EventNo → List ℕ
up_to v first last = event_named v first ++ (spelled words.UpTo ++ event_named v last)

-- the events of a range
unfoldable pub range_named : ExportView → EventRange → List ℕ
range_named v r = if r.count == 1 then event_named v r.first else up_to v r.first (last_of r)

-- the events of a range after those of another one
unfoldable pub next_named : ExportView → EventRange → List ℕ
next_named v r = spelled words.Comma ++ range_named v r

-- the events of ranges
abbrev pub ranges_named : ExportView → List EventRange → List ℕ
ranges_named v [] = []
ranges_named v (r ∷ ranges) = range_named v r ++ flat_map (next_named v) ranges
