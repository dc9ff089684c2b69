use Rattle.std.proofs.Common.{length}
use Rattle.chart.specs.Charts.{chart_lines}
use Rattle.closure.specs.Faults.{place_of}
use Rattle.closure.proofs.ChainLemmas.PastLemmas.{IsPast-from_reached}
use Rattle.closure.proofs.chain.receive_past.past.Goals as goal

pub returns : goal.returns
returns c =
    let counts = c.in_ok-counts in
    IsPast-from_reached (length c.args.closure.now) (chart_lines c.args.closure.now) (place_of c.in-Some.send) (place_of c.args.receive.now) counts.counts counts.ensures.whole c.in-Some.ensures counts.ensures.reached
