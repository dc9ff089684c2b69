-- How several sends at once change a recorder (clocks: after Fidge 1988 and Mattern 1989; several sends in one call:
-- this project's profile).
use Rattle.std.specs.Prelude.{ℕ, zero, suc, ◌+◌, List, [], ◌∷◌, ◌++◌, length}
use Rattle.chart.specs.Words.{Clock}
use Rattle.clock.specs.Clocks.{with_entry}
use Rattle.line_recorder.specs.Recorders.{RecorderView}

-- the clock of the event with this number, if all events after the line's end are sends
abbrev pub clock_at : RecorderView → ℕ → Clock
clock_at r index = with_entry r.knowledge r.line.instance index

-- the clocks of the next n events, if they are sends
abbrev pub next_clocks : RecorderView → ℕ → List Clock
next_clocks r zero = []
next_clocks r (suc n) = next_clocks r n ++ clock_at r (length r.line.events + suc n) ∷ []

-- the knowledge after these sends
abbrev pub known_after : RecorderView → ℕ → Clock
known_after r zero = r.knowledge
known_after r (suc n) = clock_at r (length r.line.events + suc n)
