use Rattle.std.proofs.Common.{◌≡◌, ◌-◌, length, take}
use Rattle.reordering.specs.OtherRuns.Walks.{Wanted, wanted}
use Rattle.reordering.specs.Witness.Steps.{StandFor}
use Rattle.chart.specs.RunSteps.Steps.{history_of}
use Rattle.reordering.proofs.witness.needs.Needs.complete.Given as goal

abbrev pub invariant-loop-place : goal.invariant-loop-place
invariant-loop-place l = (w : Wanted) → StandFor l.initial.self.sends l.initial.self.receives l.initial.self.lines w
    → (v : Wanted) × StandFor l.self.sends l.self.receives l.self.lines v × (wanted l.slots (history_of (take (length l.steps - l.place) l.steps)) v ≡ wanted l.slots (history_of l.steps) w)
