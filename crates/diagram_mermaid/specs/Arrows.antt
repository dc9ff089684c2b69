-- Arrows (Mermaid's documentation of sequence diagrams, "Messages" and "Activations").
use Rattle.std.specs.Prelude.{ℕ, ◌+◌, Bool, true, false, ◌||◌, ◌==◌, List, [], ◌∷◌, take, drop, Option, None, Some, if◌then◌else◌}
use Rattle.diagram_statements.specs.Statements.{ArrowView}
use Rattle.texts.specs.Words.{behind_blanks, stripped, or_else}
use Rattle.diagram_statements.specs.declared.statement.ArrowForm.{ArrowForm}
use Rattle.diagram_statements.specs.declared.statement.ArrowForm.TheVariants as forms
use Rattle.diagram_mermaid.specs.Names.{is_word}
use Rattle.diagram_mermaid.specs.Signs.{first_sign}
use Rattle.diagram_mermaid.specs.Texts.{before_colon, text_in}
use Rattle.diagram_mermaid.specs.declared.sign.Direction.{Direction}
use Rattle.diagram_mermaid.specs.declared.sign.Direction.TheVariants.{Forth, Back, Both, Lost}
use Rattle.diagram_mermaid.specs.declared.sign.Sign.{Sign}

-- the word of these bytes, if they are one
unfoldable pub plain_receiver : List ℕ → Option (List ℕ)
plain_receiver bytes = if is_word bytes then Some (stripped bytes) else None

-- the word after a sign of activation
abbrev pub active_receiver : List ℕ → Option (List ℕ)
active_receiver [] = None
active_receiver (b ∷ bs) = if b == 43 || b == 45 then plain_receiver bs else None

-- the word after an arrow's sign
unfoldable pub receiver_of : List ℕ → Option (List ℕ)
receiver_of bytes = or_else (active_receiver (behind_blanks bytes)) (plain_receiver bytes)

-- the word before an arrow's sign
unfoldable pub sender_of : List ℕ → Option (List ℕ)
sender_of bytes = plain_receiver (stripped bytes)

abbrev pub goes_back : Direction → Bool
goes_back Back = true
goes_back Forth = false
goes_back Both = false
goes_back Lost = false

abbrev pub form_of : Direction → ArrowForm
form_of Forth = forms.Message
form_of Back = forms.Message
form_of Both = forms.BothWays
form_of Lost = forms.Lost

abbrev pub between : Direction → List ℕ → List ℕ → List ℕ → ArrowView
between direction first second label = record {
  first = Some (record { word = first; label = None });
  second = Some (record { word = second; label = None });
  goes_back = goes_back direction;
  form = form_of direction;
  label = label;
  is_beside = false;
  activates = None;
}

abbrev pub to_receiver : Direction → List ℕ → List ℕ → Option (List ℕ) → Option ArrowView
to_receiver direction first rest None = None
to_receiver direction first rest (Some second) = Some (between direction first second (text_in rest))

abbrev pub from_sender : Direction → Option (List ℕ) → List ℕ → Option ArrowView
from_sender direction None rest = None
from_sender direction (Some first) rest = to_receiver direction first rest (receiver_of (before_colon rest))

abbrev pub arrow_by : List ℕ → Option Sign → Option ArrowView
arrow_by words None = None
arrow_by words (Some sign) =
    from_sender sign.direction (sender_of (take sign.before words)) (drop (sign.before + sign.length) words)

-- the arrow of a statement: the first sign of an arrow in it counts
unfoldable pub arrow_of : List ℕ → Option ArrowView
arrow_of words = arrow_by words (first_sign words)
