-- The name of a line in texts about a log: `line 17`, or `FILE:17` if there are several files.
use Rattle.std.specs.Prelude.{ℕ, List, Option, None, Some, codes, slice_get}
use Rattle.log_lines.specs.declared.event.Place.{Place}
use Rattle.log_text.specs.declared.spot.Spot.{Spot}

pub record SpotView : Type 0 where
  pub front : List ℕ
  pub separator : List ℕ
  pub line : ℕ

abbrev pub spot_view : Spot → SpotView
spot_view s = record { front = s.front.now; separator = s.separator.now; line = s.line }

abbrev pub spot_at : Option (List ℕ) → ℕ → SpotView
spot_at None n = record { front = codes "line"; separator = codes " "; line = n }
spot_at (Some file) n = record { front = file; separator = codes ":"; line = n }

-- the name of the line at this place. `files` has the names of several files, and is empty for one
abbrev pub spot : List (List ℕ) → Place → SpotView
spot files place = spot_at (slice_get files place.text) place.line
