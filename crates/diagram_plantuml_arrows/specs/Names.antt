-- Participants in statements (PlantUML's documentation of sequence diagrams, "Declaring participant", "Use non-letters
-- in participants").
use Rattle.std.specs.Prelude.{ℕ, List, [], ◌∷◌, codes, Option, None, Some, if◌then◌else◌}
use Rattle.diagram_statements.specs.Statements.{EndView}
use Rattle.texts.specs.Words.{behind_blanks, behind_word, or_else}
use Rattle.texts.specs.Bytes.Classes.{is_blank}
use Rattle.diagram_plantuml_arrows.specs.Runs.{run_at, behind_byte}
use Rattle.diagram_statements.specs.Options.{◌>>=◌}
use Rattle.diagram_plantuml_arrows.specs.declared.runs.Class.TheVariants.{Name, Quoted}

-- the text between two quotation marks, and the text after them
unfoldable pub quoted_at : List ℕ → Option (List ℕ × List ℕ)
quoted_at bytes = do
  inner ← behind_byte 34 bytes
  text ← run_at Quoted inner
  rest ← behind_byte 34 text.1
  Some (text.0, rest)

-- a name is a word, or a text between two quotation marks
unfoldable pub name_at : List ℕ → Option (List ℕ × List ℕ)
name_at bytes = or_else (run_at Name bytes) (quoted_at bytes)

-- the text after blanks, of which there is at least one
abbrev pub behind_gap : List ℕ → Option (List ℕ)
behind_gap [] = None
behind_gap (b ∷ bs) = if is_blank b then Some (behind_blanks bs) else None

-- a participant without a label
abbrev pub plain_end : List ℕ → EndView
plain_end word = record { word = word; label = None }

-- the word after a label and `as`
unfoldable pub word_behind_as : List ℕ → Option (List ℕ × List ℕ)
word_behind_as bytes = do
  behind ← behind_word (codes "as") (behind_blanks bytes)
  word ← behind_gap behind
  run_at Name word

-- the label after a word and `as`
unfoldable pub label_behind_as : List ℕ → Option (List ℕ × List ℕ)
label_behind_as bytes = do
  gap ← behind_gap bytes
  behind ← behind_word (codes "as") gap
  quoted_at (behind_blanks behind)

abbrev pub labelled_by : List ℕ → List ℕ → Option (List ℕ × List ℕ) → EndView × List ℕ
labelled_by label rest None = (plain_end label, rest)
labelled_by label rest (Some word) = (record { word = word.0; label = Some label }, word.1)

-- a participant that begins with its label
unfoldable pub labelled_end : List ℕ → List ℕ → EndView × List ℕ
labelled_end label rest = labelled_by label rest (word_behind_as rest)

abbrev pub worded_by : List ℕ → List ℕ → Option (List ℕ × List ℕ) → EndView × List ℕ
worded_by word rest None = (plain_end word, rest)
worded_by word rest (Some label) = (record { word = word; label = Some label.0 }, label.1)

-- a participant that begins with its word
unfoldable pub worded_end : List ℕ → List ℕ → EndView × List ℕ
worded_end word rest = worded_by word rest (label_behind_as rest)

abbrev pub by_word : Option (List ℕ × List ℕ) → Option (EndView × List ℕ)
by_word None = None
by_word (Some word) = Some (worded_end word.0 word.1)

abbrev pub by_label : List ℕ → Option (List ℕ × List ℕ) → Option (EndView × List ℕ)
by_label bytes None = by_word (run_at Name bytes)
by_label bytes (Some label) = Some (labelled_end label.0 label.1)

-- the participant of an arrow, perhaps with its label
unfoldable pub participant_at : List ℕ → Option (EndView × List ℕ)
participant_at bytes = by_label bytes (quoted_at bytes)
