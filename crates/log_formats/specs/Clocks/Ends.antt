-- The ends of messages at an event.
use Rattle.std.specs.Prelude.{◌≡◌, ℕ, ◌<◌, ◌==◌, Bool, false, List, [], ◌∷◌, ◌++◌, Option, None, Some, length, filter, slice_index_or, slice_set}
use Rattle.log_formats.specs.Clocks.Hearing.{HeardView}
use Rattle.log_formats.specs.declared.clocks.ends.End.{End}
use Rattle.log_formats.specs.declared.clocks.ends.End.TheVariants.{Send, Receive}

-- the place of the event at this end, if the log has it
abbrev pub place_of : End → HeardView → Option ℕ
place_of Send h = h.source
place_of Receive h = Some h.at

abbrev pub is_from : ℕ → Option ℕ → Bool
is_from at None = false
is_from at (Some place) = place == at

-- the heard entries whose messages have this end at the event at this place
abbrev pub ends_at : End → ℕ → List HeardView → List HeardView
ends_at end at all = filter (λ h. is_from at (place_of end h)) all

-- the lists, of which the one at this place, if there is one, has one more
abbrev pub with_end : List (List HeardView) → Option ℕ → HeardView → List (List HeardView)
with_end lists None h = lists
with_end lists (Some place) h = slice_set lists place (slice_index_or lists place [] ++ h ∷ [])

-- there is such a list for each of count events
pub record AreEnds (end : End) (count : ℕ) (all : List HeardView) (lists : List (List HeardView)) : Type 0 where
  pub whole : length lists ≡ count
  pub each : (at : ℕ) → at < count → slice_index_or lists at [] ≡ ends_at end at all
