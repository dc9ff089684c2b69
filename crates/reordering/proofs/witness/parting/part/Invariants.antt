use Rattle.std.proofs.Common.{◌≡◌, take}
use Rattle.std.specs.Prelude.{not, All}
use Rattle.reordering.specs.OtherRuns.Walks.{Wanted, inner, outer}
use Rattle.reordering.specs.Witness.Orders.{picked}
use Rattle.reordering.specs.Witness.Steps.{StandFor, comes}
use Rattle.chart.specs.RunSteps.Steps.{history_of, IsOutside}
use Rattle.reordering.proofs.witness.parting.part.Given as goal

abbrev pub invariant-loop-place : goal.invariant-loop-place
invariant-loop-place l =
    record {
      walked : (w : Wanted) → StandFor l.needs.sends l.needs.receives l.needs.lines w
          → (history_of l.first.items ≡ inner w.sends w.receives (history_of (take l.place l.steps))) × (history_of l.others.items ≡ outer w.sends w.receives (history_of (take l.place l.steps)));
      picked : (w : Wanted) → StandFor l.needs.sends l.needs.receives l.needs.lines w
          → (l.first.items ≡ picked (comes w l.steps) l.steps l.place) × (l.others.items ≡ picked (λ i. not (comes w l.steps i)) l.steps l.place);
      first : All IsOutside l.first.items;
      others : All IsOutside l.others.items;
    }
