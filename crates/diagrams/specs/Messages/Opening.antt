-- Lines that end in a coregion which the next end continues, and lines with room: for the crate's own functions.
use Rattle.std.specs.Prelude.{◌≡◌, ◌≢◌, ℕ, ◌+◌, ◌<◌, ◌≤◌, Bool, true, false, List, [], ◌∷◌, length, Option}
use Rattle.chart.specs.declared.event.Event.{Event}
use Rattle.chart.specs.Events.{greatest_region, last_region}
use Rattle.chart.specs.declared.line.TheConstants.{MAX_EVENTS}
use Rattle.diagrams.specs.Messages.Each.{Each}
use Rattle.diagrams.specs.Messages.Regions.{goes_on}
use Rattle.diagrams.specs.declared.messages.end.End.{End}

-- the first of these ends continues the coregion of the last one
abbrev pub first_goes_on : Option End → List End → Bool
first_goes_on last [] = false
first_goes_on last (e ∷ ends) = goes_on last e

-- if it does, the line ends in its greatest coregion
pub record IsOpen (last : Option End) (line : List Event) (ends : List End) : Type 0 where
  pub held : first_goes_on last ends ≡ true → (0 < greatest_region line) × (greatest_region line ≡ last_region line)

-- no end to come has the line's instance as its partner, and the line has room for all of them
pub record HasRoom (instance : ℕ) (line : List Event) (ends : List End) : Type 0 where
  pub apart : Each (λ e. e.partner ≢ instance) ends
  pub room : length line + length ends ≤ MAX_EVENTS
