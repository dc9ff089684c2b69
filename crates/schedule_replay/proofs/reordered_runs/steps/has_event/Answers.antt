use Rattle.std.proofs.Common.{ap, ◌∙◌}
use Rattle.std.specs.Option.{is_some}
use Rattle.chart.specs.Charts.{chart_lines}
use Rattle.closure.specs.Faults.{place_of}
use Rattle.schedule_replay.proofs.ReorderedRunsLemmas.EventLemmas.{event_there}
use Rattle.schedule_replay.proofs.reordered_runs.steps.has_event.Goals as goal

pub returns : goal.returns
returns c = event_there (chart_lines c.args.chart.now) (place_of c.args.event) c.is_some.result (c.is_some.ensures ∙ ap is_some c.event_of.ensures)
