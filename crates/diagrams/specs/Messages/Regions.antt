-- The events of an instance's line, made from its ends in their order. Several receives of one row are a coregion,
-- because the drawing doesn't order them.
use Rattle.std.specs.Prelude.{ℕ, ◌+◌, Bool, false, not, ◌&&◌, ◌==◌, List, [], ◌∷◌, ◌++◌, Option, None, Some, if◌then◌else◌}
use Rattle.chart.specs.declared.event.Event.{Event}
use Rattle.chart.specs.Charts.{LineView}
use Rattle.chart.specs.Events.{send_event, receive_event, greatest_region}
use Rattle.diagrams.specs.Messages.Turns.{own_ends, in_turn}
use Rattle.diagrams.specs.declared.messages.end.End.{End}

-- both are receives of one row
abbrev pub are_together : End → End → Bool
are_together x e = not x.sends && (not e.sends && x.turn == e.turn)

abbrev pub goes_on : Option End → End → Bool
goes_on None e = false
goes_on (Some last) e = are_together last e

abbrev pub begins : End → List End → Bool
begins e [] = false
begins e (next ∷ ends) = are_together e next

-- the coregion of an end: that of the last end, a new one, or none; the line so far has coregions up to `greatest`
abbrev pub region_of : Option End → ℕ → End → List End → ℕ
region_of last greatest e ends = if goes_on last e then greatest else (if begins e ends then greatest + 1 else 0)

-- the event of an end
abbrev pub event_of : End → ℕ → Event
event_of e region = if e.sends then send_event e.partner e.name else receive_event e.partner e.name region

-- the line so far, with the events of these ends
unfoldable pub with_ends : Option End → List Event → List End → List Event
with_ends last line [] = line
with_ends last line (e ∷ ends) =
    with_ends (Some e) (line ++ event_of e (region_of last (greatest_region line) e ends) ∷ []) ends

-- the line of an instance
unfoldable pub line_of : ℕ → List End → LineView
line_of p ends = record { instance = p; events = with_ends None [] (in_turn (own_ends p ends)) }
