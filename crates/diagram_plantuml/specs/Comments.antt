-- Lines without their comments (PlantUML's documentation, "Comments").
use Rattle.std.specs.Prelude.{ℕ, zero, suc, ◌+◌, ◌-◌, Bool, ◌&&◌, nat_lt, List, [], ◌∷◌, codes, length, drop, Option, None, Some, option_map, bytes_eq, nat_eq, if◌then◌else◌}
use Rattle.std.specs.List.{starts_with}
use Rattle.diagram_statements.specs.Lines.{after, front_of, stripped_line}
use Rattle.diagram_statements.specs.Statements.{LineView}
use Rattle.texts.specs.Words.{place_of}
use Rattle.diagram_plantuml_statements.specs.Participants.{last_place}

-- the bytes end with the end of a comment
unfoldable pub ends_comment : List ℕ → Bool
ends_comment bytes = nat_lt 1 (length bytes) && bytes_eq (drop (length bytes - 2) bytes) (codes "'/")

abbrev pub behind_by : LineView → Option ℕ → Option LineView
behind_by l None = None
behind_by l (Some place) = Some (stripped_line (after (place + 4) l))

-- the text after the comment with which a line begins
unfoldable pub behind_comment : LineView → Option LineView
behind_comment l =
    if starts_with nat_eq l.words (codes "/'") then behind_by l (place_of (codes "'/") (drop 2 l.words)) else None

abbrev pub comments_by : (LineView → LineView) → LineView → Option LineView → LineView
comments_by others l None = l
comments_by others l (Some rest) = others rest

-- at most this many comments
abbrev pub behind_comments_from : ℕ → LineView → LineView
behind_comments_from zero l = l
behind_comments_from (suc n) l = comments_by (behind_comments_from n) l (behind_comment l)

-- the text after the comments with which a line begins
unfoldable pub behind_comments : LineView → LineView
behind_comments l = behind_comments_from (suc (length l.words)) l

abbrev pub last_by : LineView → Option ℕ → LineView
last_by l None = l
last_by l (Some place) =
    if nat_lt (place + 3) (length l.words) && ends_comment l.words then front_of place l else l

-- a line without the comment with which it ends: the last that begins in it
unfoldable pub without_last : LineView → LineView
without_last l = last_by l (last_place (codes "/'") l.words)

-- a line without the comments at its ends
unfoldable pub uncommented : LineView → LineView
uncommented l = without_last (behind_comments l)
