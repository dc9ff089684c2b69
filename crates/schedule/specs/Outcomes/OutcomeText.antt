-- The text of an outcome.
use Rattle.std.specs.Prelude.{◌++◌, codes, decimal}
use Rattle.std.specs.List.{flat_map}
use Rattle.chart.specs.Words.{Text}
use Rattle.msc_text.specs.ChartText.{chart_text}
use Rattle.msc_text.specs.RaceText.{races_text}
use Rattle.schedule.specs.declared.command.Note.{Note}
use Rattle.schedule.specs.declared.command.Word.{Word}
use Rattle.schedule.specs.declared.command.Word.TheVariants.{Full, Nothing, Ended, Closed, LineFull, Open, NotOpen, InCoregion}
use Rattle.schedule.specs.Outcomes.Outcomes.{OutcomeView}

unfoldable pub word_text : Word → Text
word_text Full = codes "full"
word_text Nothing = codes "nothing"
word_text Ended = codes "ended"
word_text Closed = codes "closed"
word_text LineFull = codes "linefull"
word_text Open = codes "open"
word_text NotOpen = codes "notopen"
word_text InCoregion = codes "incoregion"

-- note LINE WORD
unfoldable pub note_text : Note → Text
note_text note = codes "note " ++ (decimal note.line ++ (codes " " ++ (word_text note.word ++ codes "\n")))

-- the chart, and then the races and the notes
unfoldable pub outcome_text : OutcomeView → Text
outcome_text o = chart_text o.names o.chart ++ (races_text o.names o.reports ++ flat_map note_text o.notes)
