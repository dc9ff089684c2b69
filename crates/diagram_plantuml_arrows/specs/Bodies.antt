-- The bodies of arrows (PlantUML's documentation of sequence diagrams, "Change arrow style", "Change arrow color").
use Rattle.std.specs.Prelude.{ℕ, Bool, true, false, ◌&&◌, ◌||◌, ◌==◌, nat_lt, List, [], ◌∷◌, codes, length, take, drop, Option, None, Some}
use Rattle.texts.specs.Words.{behind_blanks, behind_word, or_else}
use Rattle.diagram_statements.specs.Options.{◌>>=◌}
use Rattle.diagram_plantuml_arrows.specs.Runs.{run_at, run_length, behind_byte}
use Rattle.diagram_plantuml_arrows.specs.declared.body.Body.{Body}
use Rattle.diagram_plantuml_arrows.specs.declared.runs.Class.TheVariants.{Dash, Bracketed}

abbrev pub ends_entry : List ℕ → Bool
ends_entry [] = true
ends_entry (b ∷ bs) = b == 44

abbrev pub entry_by : Option (List ℕ) → Bool
entry_by None = false
entry_by (Some rest) = ends_entry (behind_blanks rest)

-- this word comes next, up to a comma or the end
unfoldable pub is_entry : List ℕ → List ℕ → Bool
is_entry word bytes = entry_by (behind_word word (behind_blanks bytes))

-- a style has this word, between commas
unfoldable pub has_style : Bool → List ℕ → List ℕ → Bool
has_style begins word [] = false
has_style begins word (b ∷ bs) = begins && is_entry word (b ∷ bs) || has_style (b == 44) word bs

-- several dashes make an arrow dotted, and so do words of its style
unfoldable pub styled : Bool → List ℕ → Body
styled is_long style = record {
  is_dotted = is_long || has_style true (codes "dotted") style || has_style true (codes "dashed") style;
  is_hidden = has_style true (codes "hidden") style;
}

-- a style in brackets
unfoldable pub style_at : List ℕ → Option (List ℕ × List ℕ)
style_at bytes = do
  inner ← behind_byte 91 bytes
  rest ← behind_byte 93 (drop (run_length Bracketed inner) inner)
  Some (take (run_length Bracketed inner) inner, rest)

-- dashes, and whether there are several
unfoldable pub dashes_at : List ℕ → Option (Bool × List ℕ)
dashes_at bytes = do
  dashes ← run_at Dash bytes
  Some (nat_lt 1 (length dashes.0), dashes.1)

-- a body with a style after its first dashes
unfoldable pub styled_body : List ℕ → Option (Body × List ℕ)
styled_body bytes = do
  dashes ← dashes_at bytes
  style ← style_at dashes.1
  Some (styled (dashes.0 || nat_lt 0 (run_length Dash style.1)) style.0, drop (run_length Dash style.1) style.1)

-- a body without a style
unfoldable pub plain_body : List ℕ → Option (Body × List ℕ)
plain_body bytes = do
  dashes ← dashes_at bytes
  Some (styled dashes.0 [], dashes.1)

-- a body that begins with its style
unfoldable pub early_body : List ℕ → Option (Body × List ℕ)
early_body bytes = do
  style ← style_at bytes
  dashes ← dashes_at style.1
  Some (styled dashes.0 style.0, dashes.1)

-- a body without a style after its first dashes
unfoldable pub other_body : List ℕ → Option (Body × List ℕ)
other_body bytes = or_else (plain_body bytes) (early_body bytes)

-- a body
unfoldable pub body_at : List ℕ → Option (Body × List ℕ)
body_at bytes = or_else (styled_body bytes) (other_body bytes)
