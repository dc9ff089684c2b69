-- The chart of lines, if equations state its names, hosts and entries.
use Rattle.std.proofs.Common.{◌≡◌, ℕ, ◌≤◌, List, ◌++◌, None, length, take, drop, sym, ap, ◌∙◌, subst, subst₂}
use Rattle.std.proofs.Math.Seq.{take-append_seam}
use Rattle.std.specs.Prelude.{All}
use Rattle.chart.specs.Charts.{chart_lines, IsPossible}
use Rattle.chart.specs.declared.instance.EventNo.{EventNo}
use Rattle.log_chart.specs.Charts.ChartLines.{first_full}
use Rattle.log_chart.specs.Charts.Building.{IsLogChart}
use Rattle.log_chart.specs.declared.charts.building.LogChart.{LogChart}
use Rattle.log_chart.specs.Cycles.Freeing.{Settles}
use Rattle.log_lines.specs.Names.Naming.{NamedView}
use Rattle.log_chart.specs.HostLines.{host_lines}
use Rattle.log_chart.specs.declared.entry.Entry.{Entry}
use Rattle.cmd_import_log.specs.Imported.{AreDiagnosticsOf, IsImportedNamed}
use Rattle.cmd_import_log.specs.Entries.{entries_in, names_in, fault_in}
use Rattle.cmd_import_log.specs.declared.imported.Beside.{Beside}
use Rattle.cmd_import_log.specs.declared.imported.ImportedLog.{ImportedLog}
use Rattle.cmd_import_log.proofs.CountLemmas.{chart_whole, invented_up_to}

-- a list that was overwritten through a slice
pub written_back : {A : Type 0} (old new : List A) (n : ℕ) → n ≡ length old → length new ≡ length old → take n (new ++ drop (length new) old) ≡ new
written_back old new n all same = ap (λ k. take k (new ++ drop (length new) old)) (all ∙ sym same) ∙ take-append_seam new (drop (length new) old)

module _ (b : Beside) (n : NamedView) (names : List (List ℕ)) (hosts : ℕ) (old settled : List Entry) (built : LogChart) (d : ImportedLog)
    (whole : hosts ≡ length names) (is_built : IsLogChart hosts settled built) (diagnostics : AreDiagnosticsOf b n names built d.diagnostics) (chart : d.chart ≡ built.chart) where
  pub imported_as : names ≡ names_in n → old ≡ entries_in n → fault_in n ≡ None → Settles old settled → first_full 1 (host_lines hosts settled) ≡ None → IsPossible (length built.chart) (chart_lines built.chart)
      → IsImportedNamed b n d
  imported_as is entries faultless settles short possible = record {
    settled = settled;
    faultless = faultless;
    short = subst (λ h. first_full 1 (host_lines h settled) ≡ None) (whole ∙ ap length is) short;
    settles = subst (λ (o : List Entry). Settles o settled) entries settles;
    built = built;
    is_built = subst (λ h. IsLogChart h settled built) (whole ∙ ap length is) is_built;
    chart = chart;
    possible = subst (λ l. IsPossible (length l) (chart_lines l)) (sym chart) possible;
    diagnostics = subst (λ (l : List (List ℕ)). AreDiagnosticsOf b n l built d.diagnostics) is diagnostics;
  }

  pub built_as : (out : List Entry) → out ≡ settled → names ≡ names_in n → old ≡ entries_in n → fault_in n ≡ None → Settles old settled → first_full 1 (host_lines hosts settled) ≡ None
      → IsPossible (length built.chart) (chart_lines built.chart) → (its : IsImportedNamed b n d) × (its.settled ≡ out)
  unfolding imported_as
  built_as out same is entries faultless settles short possible = (imported_as is entries faultless settles short possible, sym same)

  pub whole_as : length d.diagnostics.names ≡ length d.chart
  whole_as = ap length diagnostics.names ∙ sym whole ∙ sym (chart_whole hosts settled) ∙ ap length (sym is_built.chart) ∙ ap length (sym chart)

  pub up_to_as : All (λ (e : EventNo). e.instance ≤ length d.diagnostics.names) d.diagnostics.invented.items
  up_to_as =
      subst₂ (λ (k : ℕ) (l : List EventNo). All (λ (e : EventNo). e.instance ≤ k) l) (whole ∙ ap length (sym diagnostics.names)) (sym (ap (λ v. v.items) diagnostics.invented ∙ is_built.invented))
      (invented_up_to hosts settled)
