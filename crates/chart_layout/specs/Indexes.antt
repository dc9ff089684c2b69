-- What a layout keeps besides its rows: for each instance the rows of its events (this project's own).
use Rattle.std.specs.Prelude.{◌≡◌, ◌≢◌, ℕ, zero, suc, ◌<◌, ◌++◌, List, [], ◌∷◌, length, slice_set, slice_index_or}
use Rattle.chart.specs.declared.instance.EventNo.{EventNo}
use Rattle.chart.specs.declared.instance.TheConstants.{MAX_INSTANCES}
use Rattle.chart.specs.Charts.{Place}
use Rattle.chart.specs.Events.{ith}
use Rattle.closure.specs.Faults.{place_of}
use Rattle.chart_layout.specs.declared.row.Row.{Row}
use Rattle.chart_layout.specs.declared.row.Row.TheVariants.{Message, Event}
use Rattle.chart_layout.specs.Layouts.{laid_out, row_of, IsNext}

-- what is kept for an instance
abbrev pub line_at : List (List ℕ) → ℕ → List ℕ
line_at lines zero = []
line_at lines (suc p) = slice_index_or lines p []

-- the number of the row is kept for each event that has one, and nothing else is
pub record IsIndex (rows : List Row) (lines : List (List ℕ)) : Type 0 where
  pub whole : length lines ≡ MAX_INSTANCES
  pub counted : (p : ℕ) → length (line_at lines p) ≡ length (laid_out rows p)
  pub each : (e : Place) → ith (line_at lines e.instance) e.index ≡ row_of rows e

-- the number of a row was added for the event
pub record IsPut (e : EventNo) (number : ℕ) (old new : List (List ℕ)) : Type 0 where
  pub place : ℕ
  pub instance : e.instance ≡ suc place
  pub within : place < MAX_INSTANCES
  pub added : new ≡ slice_set old place (slice_index_or old place [] ++ number ∷ [])

-- the number was added for each event of the row
abbrev pub ArePut : Row → ℕ → List (List ℕ) → List (List ℕ) → Type 0
ArePut (Message send receive) number old new = (half : List (List ℕ)) × IsPut send number old half
    × IsPut receive number half new
ArePut (Event event) number old new = IsPut event number old new

-- the events of the row are the next ones below these rows, each of another instance
abbrev pub AreNext : List Row → Row → Type 0
AreNext rows (Message send receive) = IsNext rows (place_of send) × IsNext rows (place_of receive)
    × (send.instance ≢ receive.instance)
AreNext rows (Event event) = IsNext rows (place_of event)
