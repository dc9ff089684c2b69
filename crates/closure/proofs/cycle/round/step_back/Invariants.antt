use Rattle.std.proofs.Common.{◌≡◌, ℕ, length}
use Rattle.chart.specs.Charts.{Place}
use Rattle.closure.specs.Cycle.Fronts.{IsLead}
use Rattle.closure.proofs.CycleLemmas.StepLemmas.{IsVia}
use Rattle.closure.proofs.cycle.round.step_back.Given as goal

abbrev pub invariant-loop-line : goal.invariant-loop-line
invariant-loop-line l = (length l.next ≡ length l.hearing) × ((e : Place) (many : ℕ) → IsLead l.hearing e many l.front → IsVia l.hearing e many l.line l.next)
