use Rattle.log_chart.proofs.ChartsLemmas.WalkLemmas.{place_here, place_past}
use Rattle.log_chart.proofs.charts.listing.place_at.Goals as goal

pub returns-then-number-log : goal.returns-then-number-log
returns-then-number-log c = place_here c.args.log.now c.args.number _ c.if-number-log.true

pub returns-else-number-log : goal.returns-else-number-log
returns-else-number-log c = place_past c.args.log.now c.args.number c.if-number-log.false
