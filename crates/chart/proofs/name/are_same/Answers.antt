use Rattle.chart.proofs.SameBytes.{same_by_mask}
use Rattle.chart.proofs.name.are_same.Goals as goal

pub returns : goal.returns
returns c = same_by_mask c.args.held.now c.args.other.now c.told-held c.told-other
