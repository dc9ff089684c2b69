-- The races of a receive with their words as JSON (this project's profile).
use Rattle.std.specs.Prelude.{ℕ, List, ◌++◌, codes}
use Rattle.std.specs.List.{flat_map}
use Rattle.chart.specs.declared.event.Event.{Event}
use Rattle.chart.specs.declared.instance.EventNo.{EventNo}
use Rattle.chart.specs.Events.{ith}
use Rattle.chart.specs.Ranges.{events_of}
use Rattle.race_verdicts.specs.declared.verdict.Verdict.{Verdict}
use Rattle.races_text.specs.Named.JsonText.{number_text, message_and_sender, range_front, message_text}
use Rattle.races_text.specs.Named.PlainText.{last_of}
use Rattle.races_text.specs.Named.Words.{word_text}
use Rattle.races_text.specs.declared.named.words.Word.TheVariants.{Next}
use Rattle.races_text.specs.Judged.Words.{verdict_text}
use Rattle.races_text.specs.declared.judged.part.Part.{Part}

-- the end of a range, after its messages
unfoldable pub why_text : Verdict → List ℕ
why_text v = codes "],\"why\":\"" ++ (verdict_text v ++ codes "\"}")

-- a range: its numbers, its messages and its word
unfoldable pub part_text : List Event → Part → List ℕ
part_text events p =
    range_front p.range.first.index (last_of p.range)
    ++ (flat_map (message_text events p.range.first.index) (events_of p.range) ++ why_text p.verdict)

-- the beginning of an object, up to its first range and with it
unfoldable pub front_text : List (List ℕ) → List Event → EventNo → Part → List ℕ
front_text names events receive p =
    number_text names receive ++ (message_and_sender names (ith events receive.index) ++ part_text events p)

-- a range after another one
unfoldable pub next_text : List Event → Part → List ℕ
next_text events p = word_text Next ++ part_text events p
