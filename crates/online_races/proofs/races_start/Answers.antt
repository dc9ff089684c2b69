use Rattle.online_races.proofs.PassingLemmas.{AreRaces-asked}
use Rattle.online_races.proofs.races_start.Goals as goal

pub returns-then-is_receive : goal.returns-then-is_receive
returns-then-is_receive c sender race =
    AreRaces-asked c.args.line.now.line.events c.run_start.result c.args.index sender c.args.region c.is_receive.result c.requires.begun c.requires.within c.is_receive.ensures c.if-is_receive.true c.run_start.ensures race c.if-region-eq0.true
