use Rattle.online_races.proofs.PassingLemmas.{ArePassed-in, ArePassed-from, IsCandidate-asked}
use Rattle.online_races.proofs.stretch_to.Goals as goal

pub returns-then-is_in : goal.returns-then-is_in
returns-then-is_in c =
    ArePassed-in c.args.line.now.line.events c.region_start.result c.args.index c.args.sender c.args.region c.is_in.result c.requires.begun c.requires.within c.is_in.ensures c.if-is_in.true c.region_start.ensures

pub returns-then-is_receive_from : goal.returns-then-is_receive_from
returns-then-is_receive_from c =
    ArePassed-from c.args.line.now.line.events c.run_start.result c.args.index c.args.sender c.args.region c.is_receive_from.result c.requires.begun c.requires.within c.is_receive_from.ensures c.if-is_receive_from.true c.run_start.ensures

pub returns-else-is_receive_from : goal.returns-else-is_receive_from
returns-else-is_receive_from c =
    c.races_start.ensures c.args.sender
    (IsCandidate-asked c.args.line.now.line.events c.args.index c.args.sender c.args.region c.is_in.result c.is_receive_from.result c.requires.begun c.requires.within c.is_in.ensures c.if-is_in.false c.is_receive_from.ensures c.if-is_receive_from.false)
