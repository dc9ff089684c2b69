-- The ends of arrows (PlantUML's documentation of sequence diagrams, "Change arrow style").
use Rattle.std.specs.Prelude.{ℕ, Bool, true, false, not, ◌&&◌, ◌||◌, ◌==◌, List, [], ◌∷◌, Option, None, Some, if◌then◌else◌}
use Rattle.texts.specs.Words.{or_else, begins_blank}
use Rattle.texts.specs.Bytes.Classes.{is_blank}
use Rattle.diagram_plantuml_arrows.specs.Runs.{behind_byte}
use Rattle.diagram_statements.specs.Options.{◌>>=◌}
use Rattle.diagram_plantuml_arrows.specs.declared.tips.Tip.{Tip}

-- the text after this byte, once or twice
unfoldable pub behind_double : ℕ → List ℕ → Option (List ℕ)
behind_double known bytes = do
  rest ← behind_byte known bytes
  or_else (behind_byte known rest) (Some rest)

-- the text after a head: a whole one has this byte, and a half one is a slash or a backslash
unfoldable pub behind_head : ℕ → List ℕ → Option (List ℕ)
behind_head angle bytes = or_else (behind_double angle bytes) (or_else (behind_double 47 bytes) (behind_double 92 bytes))

abbrev pub head_by : List ℕ → Option (List ℕ) → Bool × List ℕ
head_by bytes None = (false, bytes)
head_by bytes (Some rest) = (true, rest)

-- a head may come next
unfoldable pub head_at : ℕ → List ℕ → Bool × List ℕ
head_at angle bytes = head_by bytes (behind_head angle bytes)

-- a byte is a cross or a circle
abbrev pub cross_of : ℕ → Option Bool
cross_of b = if b == 120 || b == 88 then Some true else (if b == 111 || b == 79 then Some false else None)

abbrev pub mark_by : List ℕ → Option Bool → Option (Bool × List ℕ)
mark_by rest None = None
mark_by rest (Some is_cross) = Some (is_cross, rest)

-- a cross or a circle
abbrev pub mark_at : List ℕ → Option (Bool × List ℕ)
mark_at [] = None
mark_at (b ∷ bs) = mark_by bs (cross_of b)

abbrev pub blank_by : Option (Bool × List ℕ) → Option (Bool × List ℕ)
blank_by None = None
blank_by (Some mark) = if begins_blank mark.1 then Some mark else None

-- a cross or a circle, which a blank follows
unfoldable pub mark_before_blank : List ℕ → Option (Bool × List ℕ)
mark_before_blank bytes = blank_by (mark_at bytes)

abbrev pub marked : Bool → List ℕ → Option (Bool × List ℕ) → Bool × List ℕ
marked is_apart bytes None = (false, bytes)
marked is_apart bytes (Some mark) = if is_apart then mark else (false, bytes)

abbrev pub pointed : Bool → Bool → Bool × List ℕ → Tip × List ℕ
pointed is_edge is_crossed head =
    (record { has_head = head.0 || (is_crossed && not is_edge); is_crossed = is_crossed }, head.1)

-- the end of an arrow before its body: a mark, if it is allowed there, and a head; at the edge a cross is no head
unfoldable pub tip_at : Bool → Bool → List ℕ → Tip × List ℕ
tip_at is_edge is_apart bytes =
    pointed is_edge (marked is_apart bytes (mark_at bytes)).0 (head_at 60 (marked is_apart bytes (mark_at bytes)).1)
