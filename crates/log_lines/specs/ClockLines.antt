-- Lines `HOST {CLOCK} EVENT` of a log for ShiViz (Beschastnikh and others, the log format of ShiViz).
use Rattle.std.specs.Prelude.{ℕ, ◌+◌, ◌==◌, ◌&&◌, Bool, List, [], ◌∷◌, Option, None, Some, length, take, drop, option_map, unwrap_or, is_some, codes, bytes_eq, if◌then◌else◌}
use Rattle.texts.specs.Words.{first_place, place_of, stripped}
use Rattle.diagram_statements.specs.Options.{◌>>=◌}
use Rattle.log_lines.specs.Events.{ClockedView, LineView, AnEvent, Other}
use Rattle.log_lines.specs.Words.{words_of}
use Rattle.log_lines.specs.declared.event.Act.TheVariants.{Send, Receive}

-- the end of a clock at the start of the bytes; a clock is in braces
abbrev pub clock_end : List ℕ → Option ℕ
clock_end [] = None
clock_end (b ∷ bytes) = if b == 123 then option_map (λ n. n + 1) (first_place 125 (b ∷ bytes)) else None

-- the host, the clock and the event of a line
unfoldable pub clock_line : List ℕ → Option ClockedView
clock_line line = do
  space ← first_place 32 line
  end ← clock_end (drop (space + 1) line)
  Some (record { host = take space line; clock = take end (drop (space + 1) line); event = stripped (drop end (drop (space + 1) line)) })

-- the line is the expression of a parser; a log may begin with one
abbrev pub is_parser : List ℕ → Bool
is_parser line = is_some (place_of (codes "(?<") line)

-- the part of the text before its first comma
unfoldable pub before_comma : List ℕ → List ℕ
before_comma text = take (unwrap_or (first_place 44 text) (length text)) text

-- the words before and after a message's name state that it is sent
abbrev pub says_out : List ℕ → List ℕ → Bool
says_out direction preposition = bytes_eq direction (codes "out") && bytes_eq preposition (codes "to")

-- they state that it is received
abbrev pub says_in : List ℕ → List ℕ → Bool
says_in direction preposition = bytes_eq direction (codes "in") && bytes_eq preposition (codes "from")

-- the meaning of these words about an event of the host
abbrev pub line_in_words : List ℕ → List (List ℕ) → LineView
line_in_words host (direction ∷ name ∷ preposition ∷ peer ∷ []) =
    if says_out direction preposition then AnEvent (record { host = host; act = Send; peer = peer; name = name; id = None })
    else (if says_in direction preposition then AnEvent (record { host = host; act = Receive; peer = peer; name = name; id = None })
    else Other)
line_in_words host words = Other

-- the meaning of an event with its vector time, in the words `out M to B` or `in M from A`; the text after a comma is
-- ignored
unfoldable pub event_in_words : ClockedView → LineView
event_in_words c = line_in_words c.host (words_of (before_comma c.event))
