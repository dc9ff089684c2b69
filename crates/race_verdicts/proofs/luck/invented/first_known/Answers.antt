use Rattle.std.proofs.Common.{suc}
use Rattle.chart.specs.Charts.{chart_lines}
use Rattle.race_verdicts.proofs.LuckLemmas.InventionLemmas.{known_from}
use Rattle.race_verdicts.proofs.luck.invented.first_known.Goals as goal

pub returns : goal.returns
returns c =
    known_from (chart_lines c.args.closure.now) c.args.invented.now (suc c.args.place) c.events.low c.events.high c.events-test.false c.events.invariant.none c.events.invariant.known
