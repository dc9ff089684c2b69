-- Chains of direct steps of the enforced order (after Alur, Holzmann and Peled 1996; which pairs are enforced is this
-- project's profile).
use Rattle.std.specs.Prelude.{◌≡◌, ℕ, ◌≤◌, List, [], ◌∷◌, length}
use Rattle.chart.specs.Charts.{Chart, Place, IsSendTo, IsReceiveFrom, BelongsTo}
use Rattle.chart.specs.Order.{IsEarlier}
use Rattle.closure.specs.Faults.{place_of}
use Rattle.closure.specs.declared.chain.link.Rule.{Rule}
use Rattle.closure.specs.declared.chain.link.Rule.TheVariants.{Message, BeforeSend, SameSender}
use Rattle.closure.specs.declared.chain.link.Link.{Link}

-- e comes directly before f by this rule
abbrev pub IsStepBy : Chart → Rule → Place → Place → Type 0
IsStepBy c Message e f = BelongsTo c e f
IsStepBy c BeforeSend e f = IsEarlier e f × ((q : ℕ) × IsSendTo c q f)
IsStepBy c SameSender e f = IsEarlier e f × ((q : ℕ) × IsReceiveFrom c q e × IsReceiveFrom c q f)

-- the links lead from e to r, each by a direct step
abbrev pub Lead : Chart → Place → Place → List Link → Type 0
Lead c e r [] = e ≡ r
Lead c e r (link ∷ links) = (place_of link.earlier ≡ e)
    × IsStepBy c link.rule (place_of link.earlier) (place_of link.later) × Lead c (place_of link.later) r links

-- they lead there by at least one step, and no chain with a step is shorter
pub record IsShortestChain (c : Chart) (e r : Place) (links : List Link) : Type 0 where
  pub lead : Lead c e r links
  pub some : 1 ≤ length links
  pub shortest : (others : List Link) → Lead c e r others → 1 ≤ length others → length links ≤ length others
