-- The patterns that a receive would have taken, by the words `takes=PEER:NAMES` of its line (this project's profile of
-- logs).
use Rattle.std.specs.Prelude.{ℕ, ◌+◌, ◌==◌, ◌||◌, Bool, false, List, [], Option, None, Some, length, take, drop, filter_map, is_none, codes, bytes_eq, if◌then◌else◌}
use Rattle.texts.specs.Words.{first_place}
use Rattle.diagram_statements.specs.Options.{◌>>=◌}
use Rattle.log_lines.specs.Plain.{begins_rest}
use Rattle.log_lines.specs.Names.Hosts.{PeerView, host_of}
use Rattle.race_verdicts.specs.Recordings.{PatternView}

-- the sender that a word stands for: any for `*`, and otherwise a host, for which the log may have other words
abbrev pub sender_of : List PeerView → List ℕ → List ℕ
sender_of peers word = if bytes_eq word (codes "*") then word else host_of peers word

-- PEER and NAMES, which the colon at this index separates; neither may be empty
abbrev pub parted : List PeerView → List ℕ → ℕ → Option PatternView
parted peers text colon =
    if colon == 0 || length text == colon + 1 then None
    else Some (record { peer = sender_of peers (take colon text); names = drop (colon + 1) text })

-- the pattern in PEER:NAMES; a misspelled text has none
abbrev pub pattern_in : List PeerView → List ℕ → Option PatternView
pattern_in peers text = first_place 58 text >>= parted peers text

-- the pattern in a word
unfoldable pub pattern_of : List PeerView → List ℕ → Option PatternView
pattern_of peers word = if begins_rest word then pattern_in peers (drop 6 word) else None

-- the patterns in words
abbrev pub patterns_of : List PeerView → List (List ℕ) → List PatternView
patterns_of peers words = filter_map (pattern_of peers) words

-- a word begins with `takes=`, but is misspelled
unfoldable pub is_misspelled : List ℕ → Bool
is_misspelled word = if begins_rest word then is_none (pattern_of [] word) else false

-- the pattern in a word PEER:NAMES, which may begin with `takes=`
unfoldable pub short_pattern : List PeerView → List ℕ → Option PatternView
short_pattern peers word = if begins_rest word then pattern_in peers (drop 6 word) else pattern_in peers word

-- the patterns in such words
abbrev pub short_patterns : List PeerView → List (List ℕ) → List PatternView
short_patterns peers words = filter_map (short_pattern peers) words
