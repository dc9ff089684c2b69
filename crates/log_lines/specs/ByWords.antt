-- The result of reading a log, with its events with vector time read by their words.
use Rattle.std.specs.Prelude.{List, [], ◌∷◌}
use Rattle.log_lines.specs.ClockLines.{event_in_words}
use Rattle.log_lines.specs.Events.{ClockedAtView}
use Rattle.log_lines.specs.Reading.{ReadView, with_line}

-- the result, with these events added
abbrev pub with_clocked : List ClockedAtView → ReadView → ReadView
with_clocked [] r = r
with_clocked (c ∷ events) r = with_clocked events (with_line c.place (event_in_words c.clocked) r)

-- the result, with its events with vector time read by their words
unfoldable pub by_words : ReadView → ReadView
by_words r = with_clocked r.clocked (record { logged = r.logged; clocked = []; others = r.others })
