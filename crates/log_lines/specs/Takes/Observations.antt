-- The observations in an application's log besides messages (this project's profile of logs).
-- `HOST arrive [to or from] PEER NAME [ID] [REST]` reports that a message reached HOST. The REST of a receive has what
-- it would have taken.
use Rattle.std.specs.Prelude.{ℕ, ◌+◌, Bool, false, List, [], ◌∷◌, ◌++◌, Option, None, Some, map, option_map, bytes_eq, if◌then◌else◌}
use Rattle.std.specs.List.{list_any}
use Rattle.log_lines.specs.Plain.{direction_of, behind_preposition, begins_rest, id_in}
use Rattle.log_lines.specs.Reading.{is_within, with_other, all_lines}
use Rattle.log_lines.specs.Words.{words_of}
use Rattle.log_lines.specs.declared.event.Place.{Place}
use Rattle.log_lines.specs.declared.plain.Direction.{Direction}
use Rattle.log_lines.specs.declared.plain.Direction.TheVariants.{Sends, Receives, Arrives, Unknown}
use Rattle.log_lines.specs.declared.range.LineRange.{LineRange}
use Rattle.log_lines.specs.declared.read.Others.{Others}
use Rattle.log_lines.specs.Names.Hosts.{PeerView, host_of}
use Rattle.race_verdicts.specs.Recordings.{PatternView, TakenView, taken_view}
use Rattle.log_lines.specs.Takes.Patterns.{patterns_of, is_misspelled}
use Rattle.log_lines.specs.declared.takes.observations.Arrived.{Arrived}
use Rattle.log_lines.specs.declared.takes.observations.Observations.{Observations}

-- a message that reached a host; `at` is how many lines with messages are before this
pub record ArrivedView : Type 0 where
  pub host : List ℕ
  pub peer : List ℕ
  pub name : List ℕ
  pub id : Option (List ℕ)
  pub at : ℕ

abbrev pub arrived_view : Arrived → ArrivedView
arrived_view a = record { host = a.host.now; peer = a.peer.now; name = a.name.now; id = option_map (λ w. w.now) a.id; at = a.at }

-- the number of lines with messages from one host to another; the patterns that their receives would have taken; the
-- messages that arrived; and the receives with a misspelled word that begins with `takes=`
pub record ObservationsView : Type 0 where
  pub lines : ℕ
  pub taken : List TakenView
  pub arrived : List ArrivedView
  pub misspelled : Option Others

abbrev pub observations_view : Observations → ObservationsView
observations_view t = record {
  lines = t.lines;
  taken = map taken_view t.taken.items;
  arrived = map arrived_view t.arrived.items;
  misspelled = t.misspelled;
}

abbrev pub no_observations : ObservationsView
no_observations = record { lines = 0; taken = []; arrived = []; misspelled = None }

-- the words after the id, from the words after the name
abbrev pub behind_id : List (List ℕ) → List (List ℕ)
behind_id [] = []
behind_id (w ∷ words) = if begins_rest w then w ∷ words else words

-- the line with this number would have taken this
abbrev pub taken_at : ℕ → PatternView → TakenView
taken_at line p = record { line = line; pattern = p }

-- with the patterns that the next line would have taken
abbrev pub with_patterns : List PatternView → ObservationsView → ObservationsView
with_patterns patterns t = record t { taken = t.taken ++ map (taken_at t.lines) patterns }

-- with one more line
abbrev pub with_line_more : ObservationsView → ObservationsView
with_line_more t = record t { lines = t.lines + 1 }

-- with one more line with a message between these hosts, if they differ; its receive would have taken these patterns
abbrev pub with_message : List ℕ → List ℕ → List PatternView → ObservationsView → ObservationsView
with_message host peer patterns t = if bytes_eq host peer then t else with_line_more (with_patterns patterns t)

-- with the arrival of a message with this name and id
abbrev pub with_arrival : List ℕ → List ℕ → List ℕ → Option (List ℕ) → ObservationsView → ObservationsView
with_arrival host peer name id t =
    record t { arrived = t.arrived ++ record { host = host; peer = peer; name = name; id = id; at = t.lines } ∷ [] }

-- with a line on which a host did this; its words begin with the peer and the message's name
abbrev pub with_act : List PeerView → List ℕ → Direction → List (List ℕ) → ObservationsView → ObservationsView
with_act peers host Sends (peer ∷ name ∷ words) t = with_message (host_of peers host) (host_of peers peer) [] t
with_act peers host Receives (peer ∷ name ∷ words) t =
    with_message (host_of peers host) (host_of peers peer) (patterns_of peers (behind_id words)) t
with_act peers host Arrives (peer ∷ name ∷ words) t = with_arrival (host_of peers host) (host_of peers peer) name (id_in words) t
with_act peers host Unknown (peer ∷ name ∷ words) t = t
with_act peers host direction words t = t

-- with a line with these words
unfoldable pub with_words : List PeerView → List (List ℕ) → ObservationsView → ObservationsView
with_words peers (host ∷ dir ∷ words) t = with_act peers host (direction_of dir) (behind_preposition words) t
with_words peers words t = t

-- after the name and the id of a receive, a word begins with `takes=`, but is misspelled
abbrev pub rest_misspelled : Direction → List (List ℕ) → Bool
rest_misspelled Sends (peer ∷ name ∷ words) = false
rest_misspelled Receives (peer ∷ name ∷ words) = list_any is_misspelled (behind_id words)
rest_misspelled Arrives (peer ∷ name ∷ words) = false
rest_misspelled Unknown (peer ∷ name ∷ words) = false
rest_misspelled direction words = false

-- the same for a line with these words
unfoldable pub has_misspelled : List (List ℕ) → Bool
has_misspelled (host ∷ dir ∷ words) = rest_misspelled (direction_of dir) (behind_preposition words)
has_misspelled words = false

-- with a receive at this place that has such a word
abbrev pub with_misspelled : Place → ObservationsView → ObservationsView
with_misspelled place t = record t { misspelled = Some (with_other place t.misspelled) }

-- the same if the line of these words at this place has such a word
abbrev pub with_spelling : Place → List (List ℕ) → ObservationsView → ObservationsView
with_spelling place words t = if has_misspelled words then with_misspelled place t else t

-- with these lines of a text, the first of which has number n
abbrev pub with_lines : List PeerView → LineRange → ℕ → ℕ → List (List ℕ) → ObservationsView → ObservationsView
with_lines peers range text n [] t = t
with_lines peers range text n (line ∷ lines) t =
    with_lines peers range text (n + 1) lines
    (if is_within range n then with_spelling (record { text = text; line = n }) (words_of line) (with_words peers (words_of line) t) else t)

-- with these texts, the first of which has number n
abbrev pub with_texts : List PeerView → LineRange → ℕ → List (List ℕ) → ObservationsView → ObservationsView
with_texts peers range n [] t = t
with_texts peers range n (text ∷ texts) t = with_texts peers range (n + 1) texts (with_lines peers range n 1 (all_lines text) t)

-- the observations in the texts
unfoldable pub observed_in : List PeerView → LineRange → List (List ℕ) → ObservationsView
observed_in peers range texts = with_texts peers range 0 texts no_observations
