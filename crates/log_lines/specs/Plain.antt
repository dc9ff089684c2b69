-- The meaning of a line of an application's log: `HOST DIR [to or from] PEER NAME [ID] [REST]` (this project's profile
-- of ShiViz's convention).
use Rattle.std.specs.Prelude.{ℕ, Bool, ◌||◌, List, [], ◌∷◌, Option, None, Some, codes, nat_eq, if◌then◌else◌}
use Rattle.std.specs.List.{starts_with}
use Rattle.texts.specs.Bytes.Words.{is_spelled}
use Rattle.log_lines.specs.Events.{LineView, AnEvent, Nothing, Other}
use Rattle.log_lines.specs.declared.event.Act.{Act}
use Rattle.log_lines.specs.declared.event.Act.TheVariants.{Send, Receive}
use Rattle.log_lines.specs.declared.plain.Direction.{Direction}
use Rattle.log_lines.specs.declared.plain.Direction.TheVariants.{Sends, Receives, Arrives, Unknown}

abbrev pub is_send_word : List ℕ → Bool
is_send_word w =
    is_spelled (codes "send") w || is_spelled (codes "sent") w || is_spelled (codes "tx") w || is_spelled (codes "out") w
    || is_spelled (codes "->") w || is_spelled (codes ">") w

abbrev pub is_receive_word : List ℕ → Bool
is_receive_word w =
    is_spelled (codes "recv") w || is_spelled (codes "receive") w || is_spelled (codes "received") w || is_spelled (codes "rx") w
    || is_spelled (codes "in") w || is_spelled (codes "<-") w || is_spelled (codes "<") w

abbrev pub is_preposition : List ℕ → Bool
is_preposition w = is_spelled (codes "to") w || is_spelled (codes "from") w

-- the meaning of the word, which is case-insensitive
unfoldable pub direction_of : List ℕ → Direction
direction_of w =
    if is_send_word w then Sends else (if is_receive_word w then Receives else (if is_spelled (codes "arrive") w then Arrives else Unknown))

-- the words from the peer on; a preposition before the peer is dropped if at least two words follow it
abbrev pub behind_preposition : List (List ℕ) → List (List ℕ)
behind_preposition (w ∷ peer ∷ name ∷ words) = if is_preposition w then peer ∷ name ∷ words else w ∷ peer ∷ name ∷ words
behind_preposition words = words

-- the word is no id, and begins the rest, which is ignored
abbrev pub begins_rest : List ℕ → Bool
begins_rest w = starts_with nat_eq w (codes "takes=")

-- the id, in the words after the name
abbrev pub id_in : List (List ℕ) → Option (List ℕ)
id_in [] = None
id_in (w ∷ words) = if begins_rest w then None else Some w

-- the meaning of a line on which a host did this with a message, by the words from the peer on
abbrev pub event_of : List ℕ → Act → List (List ℕ) → LineView
event_of host act (peer ∷ name ∷ words) = AnEvent (record { host = host; act = act; peer = peer; name = name; id = id_in words })
event_of host act words = Other

-- the meaning of a line, by its host, its direction and the words from the peer on
abbrev pub directed : List ℕ → Direction → List (List ℕ) → LineView
directed host Sends words = event_of host Send words
directed host Receives words = event_of host Receive words
directed host Arrives words = Nothing
directed host Unknown words = Other

-- the meaning of a line with these words; a line without a word is ignored
unfoldable pub line_by : List (List ℕ) → LineView
line_by (host ∷ dir ∷ words) = directed host (direction_of dir) (behind_preposition words)
line_by [] = Nothing
line_by words = Other
