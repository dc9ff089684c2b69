-- Cycles of the enforced order (after Alur, Holzmann and Peled 1996; which pairs are enforced is this project's
-- profile).
use Rattle.std.specs.Prelude.{◌≤◌, List, [], ◌∷◌, length, All}
use Rattle.chart.specs.Charts.{Chart, Place}
use Rattle.closure.specs.Faults.{place_of, IsSooner}
use Rattle.closure.specs.Chain.Chains.{Lead}
use Rattle.closure.specs.declared.chain.link.Link.{Link}

-- the links lead from an event back to it, each by a direct step
pub record IsCycle (c : Chart) (links : List Link) : Type 0 where
  pub lead : (e : Place) × Lead c e e links
  pub some : 1 ≤ length links

-- none of the events is sooner than the first, by instance and number
abbrev pub BeginsWithLeast : List Link → Type 0
BeginsWithLeast [] = ⊥
BeginsWithLeast (first ∷ links) = All (λ link. IsSooner (place_of link.earlier) (place_of first.earlier) → ⊥) links

-- a cycle, and no cycle of the chart is shorter; it begins with its least event
pub record IsShortestCycle (c : Chart) (links : List Link) : Type 0 where
  pub cycle : IsCycle c links
  pub shortest : (others : List Link) → IsCycle c others → length links ≤ length others
  pub least : BeginsWithLeast links
