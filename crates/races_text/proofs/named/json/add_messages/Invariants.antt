use Rattle.std.proofs.Common.{take}
use Rattle.std.specs.List.{flat_map}
use Rattle.chart.specs.Ranges.{events_of}
use Rattle.texts.specs.Writing.{Buffers}
use Rattle.races_text.specs.Named.JsonText.{message_text}
use Rattle.races_text.proofs.named.json.add_messages.Given as goal

-- the earlier messages were added
abbrev pub invariant-loop-number : goal.invariant-loop-number
invariant-loop-number g l =
    Buffers g.W.Out.sink l.initial.text l.text (flat_map (message_text l.events l.range.first.index) (take l.number (events_of l.range)))
