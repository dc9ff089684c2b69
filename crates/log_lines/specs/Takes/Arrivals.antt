-- The streams of messages that arrived: those of the lines that have their lane, and their id or name.
use Rattle.std.specs.Prelude.{ℕ, Bool, ◌&&◌, List, ◌∷◌, Option, None, Some, option_map, filter_map, bytes_eq, if◌then◌else◌}
use Rattle.std.specs.Bool.{beq}
use Rattle.race_verdicts.specs.declared.recording.Arrival.{Arrival}
use Rattle.log_lines.specs.Takes.Messages.{KeyView, key_view, key_of}
use Rattle.log_lines.specs.Takes.Observations.{ArrivedView}
use Rattle.log_lines.specs.declared.takes.key.Key.{Key}

abbrev pub same_key : KeyView → KeyView → Bool
same_key x y = bytes_eq x.sender y.sender && (bytes_eq x.receiver y.receiver && (beq x.has_id y.has_id && bytes_eq x.word y.word))

-- the keys are the same
abbrev pub same_as : Key → Key → Bool
same_as q k = same_key (key_view q) (key_view k)

-- the stream of the first line with this key; `keys` and `streams` are those of the lines
abbrev pub stream_of : List KeyView → List ℕ → KeyView → Option ℕ
stream_of (k ∷ keys) (s ∷ streams) key = if same_key k key then Some s else stream_of keys streams key
stream_of keys streams key = None

-- the key of a message that arrived; its peer sent it
abbrev pub arrived_key : ArrivedView → KeyView
arrived_key a = key_of a.peer a.host a.name a.id

-- the arrival of a message, if its stream is one of the lines'
abbrev pub arrival_of : List KeyView → List ℕ → ArrivedView → Option Arrival
arrival_of keys streams a = option_map (λ s. record { stream = s; at = a.at }) (stream_of keys streams (arrived_key a))

-- the arrivals of messages that also have lines
unfoldable pub arrivals_in : List KeyView → List ℕ → List ArrivedView → List Arrival
arrivals_in keys streams arrived = filter_map (arrival_of keys streams) arrived
