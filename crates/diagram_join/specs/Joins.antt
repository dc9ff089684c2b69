-- Lines of a diagram that are one instance, such as one process whose state machines are drawn as several lines.
use Rattle.std.specs.Prelude.{ℕ, Bool, not, ◌&&◌, ◌||◌, nat_lt, List, [], ◌∷◌, ◌++◌, length, filter, position, slice_get, Option, None, Some, option_map, is_some, bytes_eq, if◌then◌else◌}
use Rattle.std.specs.List.{list_any}
use Rattle.chart.specs.Names.{instance_of}
use Rattle.diagrams.specs.Diagrams.{ParticipantView}
use Rattle.diagram_join.specs.declared.join.Join.{Join}

-- the name of an instance, and the names of its lines
pub record JoinView : Type 0 where
  pub name : List ℕ
  pub parts : List (List ℕ)

abbrev pub join_view : Join → JoinView
join_view j = record { name = j.name; parts = j.parts.now }

-- the line is a part of the join
abbrev pub has_part : JoinView → List ℕ → Bool
has_part j line = list_any (λ part. bytes_eq part line) j.parts

-- the name of a line's instance: that of its join, or its own
unfoldable pub process_of : List JoinView → List ℕ → List ℕ
process_of [] line = line
process_of (j ∷ joins) line = if has_part j line then j.name else process_of joins line

-- these names, and then those of the lines' instances; each instance is at the place of the first of its lines
unfoldable pub names_from : List (List ℕ) → List (List ℕ) → List (List ℕ)
names_from names [] = names
names_from names (process ∷ processes) =
    names_from (if is_some (instance_of names process) then names else names ++ process ∷ []) processes

-- the joined lines
unfoldable pub all_parts : List JoinView → List (List ℕ)
all_parts [] = []
all_parts (j ∷ joins) = j.parts ++ all_parts joins

-- one of these lines has the name
abbrev pub is_line : List (List ℕ) → List ℕ → Bool
is_line lines part = list_any (λ line. bytes_eq line part) lines

-- one of these names is that of no line
abbrev pub is_unknown : List (List ℕ) → List (List ℕ) → Bool
is_unknown lines parts = list_any (λ part. not (is_line lines part)) parts

-- how often a line is in the list
abbrev pub count_in : List (List ℕ) → List ℕ → ℕ
count_in parts line = length (filter (λ part. bytes_eq part line) parts)

-- a line is in the list more than once
abbrev pub is_twice : List (List ℕ) → List (List ℕ) → Bool
is_twice lines parts = list_any (λ line. nat_lt 1 (count_in parts line)) lines

-- a name of a line to join is that of no line, or occurs more than once
abbrev pub is_misnamed : List (List ℕ) → List JoinView → Bool
is_misnamed lines joins = is_unknown lines (all_parts joins) || is_twice lines (all_parts joins)

-- the line belongs to another instance that has the join's name
abbrev pub takes : List JoinView → JoinView → List ℕ → Bool
takes joins j line = bytes_eq (process_of joins line) j.name && not (has_part j line)

abbrev pub text_line : List ParticipantView → Option ℕ → Option ℕ
text_line participants None = None
text_line participants (Some place) = option_map (λ p. p.line) (slice_get participants place)

-- the line of the text that first names another instance with the join's name
abbrev pub other_with : List JoinView → List (List ℕ) → List ParticipantView → JoinView → Option ℕ
other_with joins lines participants j = text_line participants (position (takes joins j) lines)

abbrev pub or_else : Option ℕ → Option ℕ → Option ℕ
or_else None later = later
or_else (Some line) later = Some line

-- the same for the first of these joins
unfoldable pub taken_from : List JoinView → List (List ℕ) → List ParticipantView → List JoinView → Option ℕ
taken_from joins lines participants [] = None
taken_from joins lines participants (j ∷ others) =
    or_else (other_with joins lines participants j) (taken_from joins lines participants others)
