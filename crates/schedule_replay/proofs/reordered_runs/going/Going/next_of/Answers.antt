use Rattle.std.proofs.Common.{sym}
use Rattle.chart.specs.Charts.{chart_lines}
use Rattle.schedule_replay.proofs.ReorderedRunsLemmas.GoingOn.{next_from}
use Rattle.schedule_replay.proofs.reordered_runs.going.Going.next_of.Goals as goal

pub returns-in-Some : goal.returns-in-Some
returns-in-Some c = λ h passed. next_from (chart_lines c.args.lines.now) c.args.slots h c.args.self.now.made c.args.line c.in-Some.event c.at_place.result (sym c.in-Some.ensures) c.at_place.ensures c.step_for.result (c.step_for.ensures h passed)
