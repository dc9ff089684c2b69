-- The lines that an expression matches though they count as lines that don't match, and why a match isn't read (this
-- project's profile of logs).
use Rattle.std.specs.Prelude.{ℕ, zero, suc, ◌+◌, ◌==◌, not, is_some, List, [], ◌∷◌, Option, None, Some, option_map, if◌then◌else◌}
use Rattle.diagram_statements.specs.Options.{◌>>=◌}
use Rattle.regex.specs.Patterns.{Re, Match, find, span}
use Rattle.regex.specs.Writes.{group_of}
use Rattle.texts.specs.Words.{or_else}
use Rattle.log_lines.specs.Events.{LineView, Other}
use Rattle.log_lines.specs.Plain.{direction_of}
use Rattle.log_lines.specs.Reading.{is_within, all_lines}
use Rattle.log_lines.specs.Windows.{StepView, step_at}
use Rattle.log_lines.specs.declared.event.Place.{Place}
use Rattle.log_lines.specs.declared.plain.Direction.{Direction}
use Rattle.log_lines.specs.declared.plain.Direction.TheVariants.{Sends, Receives, Arrives, Unknown}
use Rattle.log_lines.specs.declared.range.LineRange.{LineRange}
use Rattle.log_formats.specs.Patterns.Found.{located, has_part, direction_found}
use Rattle.log_formats.specs.Patterns.PatternReading.{window_of, line_at, match_step, pattern_step}
use Rattle.log_formats.specs.declared.patterns.groups.CaptureGroups.{CaptureGroups}
use Rattle.log_formats.specs.declared.patterns.groups.ClockGroups.{ClockGroups}
use Rattle.log_formats.specs.declared.patterns.groups.EventGroups.{EventGroups}
use Rattle.log_formats.specs.declared.patterns.groups.Groups.{Groups}
use Rattle.log_formats.specs.declared.patterns.groups.Groups.TheVariants as groups
use Rattle.log_formats.specs.declared.patterns.missing.Group.{Group}
use Rattle.log_formats.specs.declared.patterns.missing.Group.TheVariants as named
use Rattle.log_formats.specs.declared.patterns.unread.Unread.{Unread}
use Rattle.log_formats.specs.declared.patterns.unread.Unread.TheVariants as unreads
use Rattle.log_formats.specs.declared.patterns.unread_lines.UnreadLine.{UnreadLine}

-- why a match isn't read: this group takes no part in it, or this is its word for the direction, and the word is unknown
pub data UnreadView : Type 0 where
  Absent : Group → UnreadView
  Word : List ℕ → UnreadView

abbrev pub unread_view : Unread → UnreadView
unread_view (unreads.Absent group) = Absent group
unread_view (unreads.Word word) = Word word.now

-- the word for this direction, if it is unknown
abbrev pub if_unknown : Direction → List ℕ → Option UnreadView
if_unknown Sends word = None
if_unknown Receives word = None
if_unknown Arrives word = None
if_unknown Unknown word = Some (Word word)

abbrev pub unknown_word : List ℕ → Option UnreadView
unknown_word word = if_unknown (direction_of word) word

-- the word for the direction of a match, if it is unknown; an arrival by its own group needs no such word
abbrev pub word_unread : (ℕ → Option (List ℕ)) → EventGroups → Option UnreadView
word_unread bytes g = if has_part bytes g.arrive then None else bytes g.direction >>= unknown_word

-- why the match of an event isn't read: the first of its groups that takes no part, and otherwise its direction
abbrev pub event_unread : (ℕ → Option (List ℕ)) → EventGroups → Option UnreadView
event_unread bytes g =
    if not (is_some (bytes g.host)) then Some (Absent named.Host)
    else (if not (is_some (direction_found bytes g)) then Some (Absent named.Direction)
    else (if not (is_some (bytes g.peer)) then Some (Absent named.Peer)
    else (if not (is_some (bytes g.name)) then Some (Absent named.Name) else word_unread bytes g)))

-- the same for a captured message
abbrev pub capture_unread : (ℕ → Option (List ℕ)) → CaptureGroups → Option UnreadView
capture_unread bytes g =
    if not (is_some (bytes g.source)) then Some (Absent named.Source)
    else (if not (is_some (bytes g.destination)) then Some (Absent named.Destination)
    else (if not (is_some (bytes g.name)) then Some (Absent named.Name) else None))

-- the same for an event with its vector time
abbrev pub clock_unread : (ℕ → Option (List ℕ)) → ClockGroups → Option UnreadView
clock_unread bytes g =
    if not (is_some (bytes g.host)) then Some (Absent named.Host)
    else (if not (is_some (bytes g.clock)) then Some (Absent named.Clock)
    else (if not (is_some (bytes g.event)) then Some (Absent named.Event) else None))

-- why a match with these bytes of its groups isn't read
abbrev pub unread_in : Groups → (ℕ → Option (List ℕ)) → Option UnreadView
unread_in (groups.Event g) bytes = event_unread bytes g
unread_in (groups.Capture g) bytes = capture_unread bytes g
unread_in (groups.Clock g) bytes = clock_unread bytes g

-- this reason, if the line counts as one that doesn't match
abbrev pub if_other : LineView → Option UnreadView → Option UnreadView
if_other Other why = why
if_other says why = None

-- why the match that begins in the first line isn't read, if the line counts as one that doesn't match
abbrev pub match_unread : Groups → List ℕ → List ℕ → Match → Option UnreadView
match_unread groups window first m =
    if_other (match_step groups window first (group_of m) (span m).1).says (unread_in groups (located window (group_of m)))

-- the same by the match that was found in it and the lines after it
abbrev pub unread_by : Groups → List ℕ → List ℕ → Option Match → Option UnreadView
unread_by groups window first None = None
unread_by groups window first (Some m) = if line_at window (span m).0 == 0 then match_unread groups window first m else None

-- the same by the expression, whose first match is searched in the first line and more further lines
unfoldable pub pattern_unread : Groups → ℕ → Re → List (List ℕ) → Option UnreadView
pattern_unread groups more pattern lines =
    unread_by groups (window_of more lines) (window_of 0 lines) (find pattern (window_of more lines) 0)

-- why the line with this number isn't read, the first of these, though a match begins in it, if the first taken lines
-- belong to an earlier match
abbrev pub unread_at : (List (List ℕ) → Option UnreadView) → LineRange → ℕ → ℕ → List (List ℕ) → Option UnreadView
unread_at unreads range n (suc taken) lines = None
unread_at unreads range n zero lines = if is_within range n then unreads lines else None

-- a line in which a match begins and that isn't read, and why
pub record UnreadLineView : Type 0 where
  pub place : Place
  pub why : UnreadView

abbrev pub unread_line_view : UnreadLine → UnreadLineView
unread_line_view l = record { place = l.place; why = unread_view l.why }

abbrev pub unread_line : Place → UnreadView → UnreadLineView
unread_line place why = record { place = place; why = why }

-- the first such line of these lines of a text: the first of them has this number, and the first taken lines belong to
-- an earlier match
abbrev pub first_unread_from : (List (List ℕ) → StepView) → (List (List ℕ) → Option UnreadView) → LineRange → ℕ → ℕ → ℕ → List (List ℕ) → Option UnreadLineView
first_unread_from says unreads range text n taken [] = None
first_unread_from says unreads range text n taken (line ∷ lines) =
    or_else (option_map (unread_line (record { text = text; line = n })) (unread_at unreads range n taken (line ∷ lines)))
    (first_unread_from says unreads range text (n + 1) (step_at says range n taken (line ∷ lines)).takes lines)

-- the same for these texts, the first of which has number n
abbrev pub first_unread_in : (List (List ℕ) → StepView) → (List (List ℕ) → Option UnreadView) → LineRange → ℕ → List (List ℕ) → Option UnreadLineView
first_unread_in says unreads range n [] = None
first_unread_in says unreads range n (text ∷ texts) =
    or_else (first_unread_from says unreads range n 1 0 (all_lines text)) (first_unread_in says unreads range (n + 1) texts)

-- the first line of the texts in which a match begins, and that counts as one that doesn't match
unfoldable pub first_unread : Groups → ℕ → Re → LineRange → List (List ℕ) → Option UnreadLineView
first_unread groups more pattern range texts =
    first_unread_in (pattern_step groups more pattern) (pattern_unread groups more pattern) range 0 texts
