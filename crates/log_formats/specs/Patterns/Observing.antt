-- How receives were chosen, by the matches of an expression: a match that is an arrival, and the group `takes` of a
-- receive (this project's profile of logs).
use Rattle.std.specs.Prelude.{ℕ, ◌+◌, List, [], ◌∷◌, Option, None, Some}
use Rattle.regex.specs.Patterns.{Re}
use Rattle.log_lines.specs.Names.Hosts.{PeerView, host_of}
use Rattle.log_lines.specs.Reading.{all_lines}
use Rattle.log_lines.specs.Takes.Observations.{ObservationsView, no_observations, with_message, with_arrival}
use Rattle.log_lines.specs.Takes.Patterns.{short_patterns}
use Rattle.log_lines.specs.Windows.{StepView, step_at}
use Rattle.log_lines.specs.Words.{words_of}
use Rattle.log_lines.specs.declared.plain.Direction.{Direction}
use Rattle.log_lines.specs.declared.plain.Direction.TheVariants.{Sends, Receives, Arrives, Unknown}
use Rattle.log_lines.specs.declared.range.LineRange.{LineRange}
use Rattle.log_formats.specs.Patterns.Found.{HostEventView}
use Rattle.log_formats.specs.Patterns.PatternReading.{pattern_step, pattern_event, event_at}
use Rattle.log_formats.specs.declared.patterns.groups.Groups.{Groups}

-- the words of the group for what a receive would have taken
abbrev pub takes_words : Option (List ℕ) → List (List ℕ)
takes_words None = []
takes_words (Some text) = words_of text

-- the observations, with what a match gives of a host, by its direction
abbrev pub with_directed : List PeerView → Direction → HostEventView → ObservationsView → ObservationsView
with_directed peers Sends e t = with_message (host_of peers e.host) (host_of peers e.peer) [] t
with_directed peers Receives e t = with_message (host_of peers e.host) (host_of peers e.peer) (short_patterns peers (takes_words e.takes)) t
with_directed peers Arrives e t = with_arrival (host_of peers e.host) (host_of peers e.peer) e.name e.id t
with_directed peers Unknown e t = t

-- the observations, with what a match gives, if it gives something of a host
abbrev pub with_event : List PeerView → Option HostEventView → ObservationsView → ObservationsView
with_event peers None t = t
with_event peers (Some e) t = with_directed peers e.direction e t

-- the observations, with these lines of a text: the first has this number, and the first taken lines belong to an
-- earlier match
abbrev pub with_line_events : List PeerView → (List (List ℕ) → StepView) → (List (List ℕ) → Option HostEventView) → LineRange → ℕ → ℕ → List (List ℕ) → ObservationsView → ObservationsView
with_line_events peers says events range n taken [] t = t
with_line_events peers says events range n taken (line ∷ lines) t =
    with_line_events peers says events range (n + 1) (step_at says range n taken (line ∷ lines)).takes lines (with_event peers (event_at events range n taken (line ∷ lines)) t)

-- the observations, with these texts
abbrev pub with_text_events : List PeerView → (List (List ℕ) → StepView) → (List (List ℕ) → Option HostEventView) → LineRange → List (List ℕ) → ObservationsView → ObservationsView
with_text_events peers says events range [] t = t
with_text_events peers says events range (text ∷ texts) t =
    with_text_events peers says events range texts (with_line_events peers says events range 1 0 (all_lines text) t)

-- the observations of the texts
unfoldable pub pattern_observed : Groups → ℕ → Re → List PeerView → LineRange → List (List ℕ) → ObservationsView
pattern_observed groups more pattern peers range texts =
    with_text_events peers (pattern_step groups more pattern) (pattern_event groups more pattern) range texts no_observations
