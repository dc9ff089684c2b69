-- A line of a chart's text, by the state before it: what the line means, or its first fault (this project's profile of
-- ITU-T Z.120).
use Rattle.std.specs.Prelude.{ℕ, ◌+◌, Bool, true, false, not, ◌&&◌, ◌||◌, ◌==◌, List, [], ◌∷◌, length, take, position, Option, None, Some, Result, Ok, Err, nat_le, bytes_eq, if◌then◌else◌}
use Rattle.std.specs.List.{list_all}
use Rattle.chart.specs.Keywords.{spelled, is_keyword}
use Rattle.chart.specs.declared.keyword.Keyword.TheVariants as keywords
use Rattle.chart.specs.declared.line.TheConstants.{MAX_EVENTS}
use Rattle.msc_text.specs.ChartText.{chart_name}
use Rattle.texts.specs.Faults.{◌>>=◌}
use Rattle.texts.specs.Lines.{words_of, name_or_cause}
use Rattle.texts.specs.declared.fault.Cause.{Cause}
use Rattle.texts.specs.declared.fault.Cause.TheVariants.{Syntax, ToItself, LineFull}
use Rattle.msc_text.specs.Reader.LastWords.{is_last_word}
use Rattle.msc_text.specs.declared.reader.state.State.{State}
use Rattle.msc_text.specs.declared.reader.state.State.TheVariants as states
use Rattle.msc_text.specs.declared.reader.state.Region.{Region}
use Rattle.msc_text.specs.declared.reader.state.Region.TheVariants as regions
use Rattle.msc_text.specs.declared.reader.state.Saying.{Saying}
use Rattle.msc_text.specs.declared.reader.state.Saying.TheVariants as sayings

-- what a line means, and the state after it
abbrev pub Step : Type 0
Step = Saying × State

abbrev pub is_semicolon : ℕ → Bool
is_semicolon b = b == 59

-- any other byte
abbrev pub is_other : ℕ → Bool
is_other b = not (is_semicolon b)

-- the part before the word's last byte, if that is its only semicolon and the part isn't empty
abbrev pub name_part_at : List ℕ → Option ℕ → Option (List ℕ)
name_part_at word None = None
name_part_at word (Some index) = if index == 0 || not (index + 1 == length word) then None else Some (take index word)

-- the part before the semicolon of NAME;
unfoldable pub name_part : List ℕ → Option (List ℕ)
name_part word = name_part_at word (position is_semicolon word)

-- the word has one byte or more, and no semicolon
unfoldable pub is_plain : List ℕ → Bool
is_plain word = not (length word == 0) && list_all is_other word

-- the text's first line, by its words
abbrev pub start_by : List (List ℕ) → Result Step Cause
start_by (m ∷ r ∷ []) = if is_keyword keywords.Msc m && is_last_word chart_name r then Ok (
  sayings.Begin,
  states.Outside,
) else Err Syntax
start_by _ = Err Syntax

-- the line that begins an instance, by the part before its semicolon
unfoldable pub head_of : Option (List ℕ) → Result Step Cause
head_of None = Err Syntax
head_of (Some word) = do
  own ← name_or_cause word
  Ok (sayings.Head own, states.Inside own 0 regions.Closed)

-- a line outside of an instance, by its words
abbrev pub outside_by : List (List ℕ) → Result Step Cause
outside_by (k ∷ []) = if is_last_word (spelled keywords.EndMsc) k then Ok (sayings.End, states.Done) else Err Syntax
outside_by (k ∷ w ∷ []) = if is_keyword keywords.Instance k then head_of (name_part w) else Err Syntax
outside_by _ = Err Syntax

-- the message and the partner of an event of the instance own, which has this number of events before it
unfoldable pub pair_of : List ℕ → ℕ → List ℕ → List ℕ → Result (List ℕ × List ℕ) Cause
pair_of own events message partner = do
  name ← name_or_cause message
  other ← name_or_cause partner
  if bytes_eq other own then Err ToItself else (if nat_le MAX_EVENTS events then Err LineFull else Ok (name, other))

-- the same, if the partner's word may have another form
unfoldable pub names_of : List ℕ → ℕ → List ℕ → Option (List ℕ) → Result (List ℕ × List ℕ) Cause
names_of own events message None = Err Syntax
names_of own events message (Some partner) = if is_plain message then pair_of own events message partner else Err Syntax

-- how far a coregion has come after one more receive
abbrev pub after_receive : Region → Region
after_receive regions.Closed = regions.Closed
after_receive regions.Empty = regions.Held
after_receive regions.Held = regions.Held

-- out MESSAGE to NAME;
unfoldable pub send_of : List ℕ → ℕ → List ℕ → List ℕ → Result Step Cause
send_of own events m w = do
  pair ← names_of own events m (name_part w)
  Ok (sayings.Send pair.1 pair.0, states.Inside own (events + 1) regions.Closed)

-- in MESSAGE from NAME;
unfoldable pub receive_of : List ℕ → ℕ → Region → List ℕ → List ℕ → Result Step Cause
receive_of own events region m w = do
  pair ← names_of own events m (name_part w)
  Ok (sayings.Receive pair.1 pair.0, states.Inside own (events + 1) (after_receive region))

-- no coregion is open: only then a send may come
abbrev pub is_closed : Region → Bool
is_closed regions.Closed = true
is_closed regions.Empty = false
is_closed regions.Held = false

-- a line of four words inside an instance
unfoldable pub event_of : List ℕ → ℕ → Region → List ℕ → List ℕ → List ℕ → List ℕ → Result Step Cause
event_of own events region k m t w =
    if is_keyword keywords.In k && is_keyword keywords.From t then receive_of own events region m w else (
    if is_keyword keywords.Out k && is_keyword keywords.To t
    && is_closed region then send_of own events m w else Err Syntax)

-- a line of one word inside an instance
unfoldable pub alone_of : List ℕ → ℕ → Region → List ℕ → Result Step Cause
alone_of own events regions.Closed k =
    if is_last_word (spelled keywords.EndInstance) k then Ok (sayings.Foot, states.Outside) else (
    if is_last_word (spelled keywords.Concurrent) k then Ok (sayings.Open, states.Inside own events regions.Empty) else
    Err Syntax)
alone_of own events regions.Empty k = Err Syntax
alone_of own events regions.Held k = if is_last_word (spelled keywords.EndConcurrent) k then Ok (
  sayings.Shut,
  states.Inside own events regions.Closed,
) else Err Syntax

-- a line inside an instance, by its words
abbrev pub inside_by : List ℕ → ℕ → Region → List (List ℕ) → Result Step Cause
inside_by own events region (k ∷ []) = alone_of own events region k
inside_by own events region (k ∷ m ∷ t ∷ w ∷ []) = event_of own events region k m t w
inside_by own events region _ = Err Syntax

-- a line by its words
abbrev pub step_by : State → List (List ℕ) → Result Step Cause
step_by states.Start words = start_by words
step_by states.Outside words = outside_by words
step_by (states.Inside own events region) words = inside_by own events region words
step_by states.Done words = Err Syntax

-- what the line means, and the state after it
unfoldable pub step_of : State → List ℕ → Result Step Cause
step_of state line = step_by state (words_of line)
