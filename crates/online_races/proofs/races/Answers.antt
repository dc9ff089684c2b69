use Rattle.std.proofs.Common.{map, subst}
use Rattle.chart.specs.Charts.{LineView}
use Rattle.chart.specs.Order.{AreLineRaces}
use Rattle.online_races.proofs.PassingLemmas.{none_found}
use Rattle.online_races.proofs.races.Goals as goal

pub returns-clause-none : goal.returns-clause-none
returns-clause-none c none =
    let found = c.in_ok-found.found in
    let races = subst (λ (l : LineView). AreLineRaces l.events c.args.entry c.args.sender c.args.region (map (λ race. race.index) found)) c.as_growing.ensures c.in_ok-found.ensures.races in
    c.listed.ensures.none (none_found c.args.line.now.events c.args.entry c.args.sender c.args.region found none races)
