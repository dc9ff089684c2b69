-- Luck in the recording of a log's texts, by the law of luck for the entries of its lines.
use Rattle.std.proofs.Common.{◌≡◌, ℕ, List, length, map, sym, ap, ◌∙◌, subst}
use Rattle.std.specs.Prelude.{Ok}
use Rattle.chart.specs.Charts.{Place, BelongsTo, LineView, IsPossible, chart_lines}
use Rattle.chart.specs.Order.{Before, IsEarlier}
use Rattle.log_chart.specs.Charts.ChartLines.{chart_from}
use Rattle.log_chart.specs.Cycles.Freeing.{HaveLanes}
use Rattle.log_chart.specs.HostLines.{host_lines}
use Rattle.log_chart.specs.declared.entry.Entry.{Entry}
use Rattle.log_chart.proofs.ChartsLemmas.ItemLemmas.{hosts_count}
use Rattle.log_chart.proofs.ChartsLemmas.LineLemmas.{chart_count}
use Rattle.log_chart.proofs.CyclesLemmas.SettleLemmas.{settled_lanes}
use Rattle.log_chart.proofs.NamedLemmas.StreamLemmas.{have_lanes}
use Rattle.race_verdicts.specs.Luck.Laws.{IsOfEntries, CouldComeNext}
use Rattle.race_verdicts.specs.Luck.Recorded.{IsRecording}
use Rattle.race_verdicts.specs.Luck.Verdicts.{IsVerdict}
use Rattle.race_verdicts.specs.Recordings.{RecordingView}
use Rattle.race_verdicts.specs.declared.verdict.Verdict.TheVariants.{Luck}
use Rattle.race_verdicts.proofs.LuckLemmas.LawLemmas.{could_come_next}
use Rattle.cmd_import_log.specs.Imported.{named_in}
use Rattle.cmd_import_log.specs.Entries.{host_event_of, entries_in, names_in}
use Rattle.cmd_import_log.specs.Recording.{lent_of}
use Rattle.cmd_import_log.specs.RecordedLuck.{RecordedLuckLaw}
use Rattle.cmd_import_log.proofs.KeptLemmas.{records_keep}

module _ (hosts : ℕ) (log : List Entry) (rec : RecordingView) (s r e : Place) where
  -- for the chart with these lines, luck means that there is such a moment
  abbrev MeansRuns : List LineView → Type 0
  MeansRuns lines = IsPossible (length lines) (chart_lines lines) → IsRecording lines rec → BelongsTo (chart_lines lines) s r → IsEarlier e r
      → (Before (chart_lines lines) e r → ⊥) → IsVerdict lines rec r e Luck → CouldComeNext (length lines) (chart_lines lines) rec e s r

  of_entries : HaveLanes log → IsOfEntries hosts log rec → MeansRuns (chart_from log 1 (host_lines hosts log))
  of_entries lanes of possible keeps belongs earlier apart v =
      let lines = chart_from log 1 (host_lines hosts log) in
      let count : length lines ≡ hosts = chart_count log 1 (host_lines hosts log) ∙ hosts_count hosts log in
      subst (λ (n : ℕ). CouldComeNext n (chart_lines lines) rec e s r) (sym count)
      (could_come_next hosts lanes.0 lanes.1 log lanes.2 rec of keeps s r e belongs earlier apart v (subst (λ (n : ℕ). IsPossible n (chart_lines lines)) count possible))

  of_chart : (lines : List LineView) → lines ≡ chart_from log 1 (host_lines hosts log) → HaveLanes log → IsOfEntries hosts log rec → MeansRuns lines
  of_chart lines chart lanes of = subst MeansRuns (sym chart) (of_entries lanes of)

pub recorded_luck : RecordedLuckLaw
recorded_luck o texts rec its s r e belongs earlier apart v =
    let imported = its.recording.imported in
    let recorded = its.recording.recorded in
    let n = named_in o its.log in
    let settled = imported.settled in
    let hosts = length (names_in n) in
    let names : length rec.imported.diagnostics.names ≡ hosts = ap length imported.diagnostics.names in
    let of : IsOfEntries hosts settled (lent_of rec) = record { lines = recorded.lines; events = recorded.hosts ∙ ap (λ (k : ℕ). host_lines k settled) names } in
    let lanes = settled_lanes (entries_in n) settled imported.settles (have_lanes n.hosts.names (map host_event_of n.lines)) in
    of_chart hosts settled (lent_of rec) s r e rec.imported.chart (imported.chart ∙ imported.is_built.chart) lanes of imported.possible (records_keep o texts (Ok rec) its) belongs earlier apart v
