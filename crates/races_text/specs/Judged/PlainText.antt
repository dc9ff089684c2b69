-- The races of a receive with their words: a line for each range (this project's profile).
use Rattle.std.specs.Prelude.{ℕ, List, ◌++◌, codes}
use Rattle.chart.specs.declared.event.Event.{Event}
use Rattle.chart.specs.declared.instance.EventNo.{EventNo}
use Rattle.race_verdicts.specs.declared.verdict.Verdict.{Verdict}
use Rattle.races_text.specs.Named.PlainText.{race_text as named_text}
use Rattle.races_text.specs.Named.Words.{word_text}
use Rattle.races_text.specs.declared.named.words.Word.TheVariants.{End}
use Rattle.races_text.specs.Judged.Words.{verdict_text}
use Rattle.races_text.specs.declared.judged.part.Part.{Part}

-- ; WORD
unfoldable pub why_text : Verdict → List ℕ
why_text v = codes "; " ++ verdict_text v

-- INSTANCE: RECEIVE may come before RANGE; WORD
unfoldable pub race_text : List (List ℕ) → List Event → EventNo → Part → List ℕ
race_text names events receive p = named_text names events receive p.range ++ why_text p.verdict

-- the same, as a line
unfoldable pub line_text : List (List ℕ) → List Event → EventNo → Part → List ℕ
line_text names events receive p = race_text names events receive p ++ word_text End
