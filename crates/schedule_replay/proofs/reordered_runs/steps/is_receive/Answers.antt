use Rattle.std.proofs.Common.{ap, ◌∙◌}
use Rattle.chart.specs.Charts.{chart_lines}
use Rattle.closure.specs.Faults.{place_of}
use Rattle.schedule_replay.specs.ReorderedRuns.Reorderings.{receives}
use Rattle.schedule_replay.proofs.ReorderedRunsLemmas.EventLemmas.{receive_there}
use Rattle.schedule_replay.proofs.reordered_runs.steps.is_receive.Goals as goal

pub returns : goal.returns
returns c = receive_there (chart_lines c.args.chart.now) (place_of c.args.event) c.receives.result (c.receives.ensures ∙ ap receives c.event_of.ensures)
