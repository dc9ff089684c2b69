-- The chart of a log, and what was changed for it.
use Rattle.std.specs.Prelude.{◌≡◌, ℕ, ◌<◌, List, Some}
use Rattle.log_chart.specs.Fates.{fates}
use Rattle.log_chart.specs.HostLines.{host_lines}
use Rattle.log_chart.specs.Matching.{matched}
use Rattle.log_chart.specs.declared.entry.Entry.{Entry}
use Rattle.log_chart.specs.Cycles.Freeing.{Settles}
use Rattle.log_chart.specs.Charts.ChartLines.{chart_from, first_full}
use Rattle.log_chart.specs.Charts.Listing.{freed_places, is_one_ended, lost_of, overtakings_of, all_invented}
use Rattle.log_chart.specs.declared.charts.building.BuildError.{BuildError}
use Rattle.log_chart.specs.declared.charts.building.BuildError.TheVariants.{Memory, Instances, LineFull}
use Rattle.log_chart.specs.declared.charts.building.LogChart.{LogChart}

-- the chart of the hosts' lines of a log whose receives are freed, and what was changed for it
pub record IsLogChart (hosts : ℕ) (log : List Entry) (d : LogChart) : Type 0 where
  pub chart : d.chart ≡ chart_from log 1 (host_lines hosts log)
  pub lost : d.lost.items ≡ lost_of (matched log) (fates (matched log))
  pub overtaking : d.overtaking.items ≡ overtakings_of log (matched log) (fates (matched log))
  pub invented : d.invented.items ≡ all_invented 1 (host_lines hosts log)
  pub freed : d.freed.items ≡ freed_places log
  pub one_ended : d.is_one_ended ≡ is_one_ended (matched log) log

-- why a log whose receives are freed has no chart
abbrev pub IsSettledRefusal : ℕ → List Entry → BuildError → Type 0
IsSettledRefusal hosts log Memory = Unit {0}
IsSettledRefusal hosts log Instances = ⊥
IsSettledRefusal hosts log (LineFull p) = first_full 1 (host_lines hosts log) ≡ Some p

-- why a log has no chart; out is the log with its freed receives
abbrev pub IsRefusalOf : ℕ → List Entry → List Entry → BuildError → Type 0
IsRefusalOf hosts log out Memory = Unit {0}
IsRefusalOf hosts log out Instances = hosts < 2
IsRefusalOf hosts log out (LineFull p) = Settles log out × IsSettledRefusal hosts out (LineFull p)
