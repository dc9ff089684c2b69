use Rattle.chart.specs.Charts.{chart_lines}
use Rattle.closure.specs.Faults.{place_of}
use Rattle.closure.specs.Cycle.Rounds.{IsOnRound}
use Rattle.closure.proofs.cycle.shortest.links_of.Given as goal

abbrev pub invariant-loop-left : goal.invariant-loop-left
invariant-loop-left l = IsOnRound (chart_lines l.hearing) (place_of l.round.send) l.round.messages (place_of l.send) l.left l.links.items

abbrev pub decreases-loop-left : goal.decreases-loop-left
decreases-loop-left l = l.left
