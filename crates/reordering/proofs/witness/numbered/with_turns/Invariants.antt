use Rattle.std.proofs.Common.{take}
use Rattle.reordering.specs.Witness.Steps.{AreNumbered, HavePassed}
use Rattle.chart.specs.RunSteps.Steps.{history_of}
use Rattle.reordering.proofs.witness.numbered.with_turns.Given as goal

abbrev pub invariant-loop-place : goal.invariant-loop-place
invariant-loop-place l = HavePassed l.passed.sends l.passed.receives (history_of (take l.place l.steps)) × AreNumbered l.steps l.place l.numbered.items
