-- The meaning of luck for the recording of a log's texts: another run of its chart's events has a moment at which the
-- earlier receive could have had the later message. Nothing else is asked of the texts.
use Rattle.std.specs.Prelude.{ℕ, List, length}
use Rattle.chart.specs.Charts.{Place, BelongsTo, chart_lines}
use Rattle.chart.specs.Order.{Before, IsEarlier}
use Rattle.race_verdicts.specs.Luck.Laws.{CouldComeNext}
use Rattle.race_verdicts.specs.Luck.Verdicts.{IsVerdict}
use Rattle.race_verdicts.specs.declared.verdict.Verdict.TheVariants.{Luck}
use Rattle.cmd_import_log.specs.Options.{OptionsView}
use Rattle.cmd_import_log.specs.Recording.{lent_of, IsRecordingOf}
use Rattle.cmd_import_log.specs.declared.recording.LogRecording.{LogRecording}

-- if the verdict on a race of the texts' recording is luck, there is such a moment
abbrev pub RecordedLuckLaw : Type 0
RecordedLuckLaw = (o : OptionsView) (texts : List (List ℕ)) (rec : LogRecording) → IsRecordingOf o texts rec
    → (s r e : Place) → BelongsTo (chart_lines rec.imported.chart) s r → IsEarlier e r
    → (Before (chart_lines rec.imported.chart) e r → ⊥) → IsVerdict rec.imported.chart (lent_of rec) r e Luck
    → CouldComeNext (length rec.imported.chart) (chart_lines rec.imported.chart) (lent_of rec) e s r
