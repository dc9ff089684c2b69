use Rattle.log_chart.proofs.CyclesLemmas.SettleLemmas.{settled_streams, settled_lanes, settled_among, settled_none}
use Rattle.log_chart.proofs.charts.building.build.Goals as goal

pub build_settled-requires-clause-streams : goal.build_settled-requires-clause-streams
build_settled-requires-clause-streams c = settled_streams c.args.log.now c.settle.new.log c.in_ok-settle.ensures c.requires.streams

pub build_settled-requires-clause-lanes : goal.build_settled-requires-clause-lanes
build_settled-requires-clause-lanes c = settled_lanes c.args.log.now c.settle.new.log c.in_ok-settle.ensures c.requires.lanes

pub build_settled-requires-clause-among : goal.build_settled-requires-clause-among
build_settled-requires-clause-among c = settled_among c.args.hosts c.args.log.now c.settle.new.log c.in_ok-settle.ensures c.requires.among

pub build_settled-requires-clause-settled : goal.build_settled-requires-clause-settled
build_settled-requires-clause-settled c = settled_none c.args.log.now c.settle.new.log c.in_ok-settle.ensures
