-- Arrows (PlantUML's documentation of sequence diagrams: "Change arrow style", "Incoming and outgoing messages",
-- "Anchors and Duration", "Slanted or odd arrows").
use Rattle.std.specs.Prelude.{ℕ, Bool, true, false, not, ◌&&◌, ◌||◌, ◌==◌, List, [], ◌∷◌, length, Option, None, Some, option_map, is_none, unwrap_or, if◌then◌else◌}
use Rattle.diagram_statements.specs.Statements.{ArrowView, arrow_view, EndView, end_view}
use Rattle.texts.specs.Words.{behind_blanks, or_else, begins_blank}
use Rattle.diagram_statements.specs.declared.statement.ArrowForm.{ArrowForm}
use Rattle.diagram_statements.specs.declared.statement.ArrowForm.TheVariants as forms
use Rattle.diagram_statements.specs.Options.{◌>>=◌}
use Rattle.diagram_plantuml_arrows.specs.Bodies.{styled_body, other_body, body_at}
use Rattle.diagram_plantuml_arrows.specs.Names.{name_at, participant_at}
use Rattle.diagram_plantuml_arrows.specs.Runs.{run_at, behind_run, behind_byte}
use Rattle.diagram_plantuml_arrows.specs.Tails.{BehindView, behind_view, behind_at}
use Rattle.diagram_plantuml_arrows.specs.Tips.{head_at, mark_at, mark_before_blank, tip_at}
use Rattle.diagram_plantuml_arrows.specs.declared.arrow.Found.{Found}
use Rattle.diagram_plantuml_arrows.specs.declared.arrow.Shaft.{Shaft}
use Rattle.diagram_plantuml_arrows.specs.declared.arrow.Target.{Target}
use Rattle.diagram_plantuml_arrows.specs.declared.body.Body.{Body}
use Rattle.diagram_plantuml_arrows.specs.declared.runs.Class.TheVariants.{Digit, Word}
use Rattle.diagram_plantuml_arrows.specs.declared.tips.Tip.{Tip}

-- an arrow, and the signs of activation after it
abbrev pub FoundView : Type 0
FoundView = ArrowView × List ℕ

abbrev pub found_view : Found → FoundView
found_view f = (arrow_view f.arrow, f.signs.now)

-- the right end, the participant there, and the text after it
abbrev pub TargetView : Type 0
TargetView = Tip × Option EndView × BehindView

abbrev pub target_view : Target → TargetView
target_view t = (t.right, option_map end_view t.end, behind_view t.behind)

abbrev pub row_by : List ℕ → Option (List ℕ) → Bool × List ℕ
row_by bytes None = (false, bytes)
row_by bytes (Some rest) = (true, behind_blanks rest)

-- `&` states that an arrow is beside the one above it
unfoldable pub row_at : List ℕ → Bool × List ℕ
row_at bytes = row_by bytes (behind_byte 38 bytes)

-- an anchor is a word in braces
unfoldable pub behind_brace : List ℕ → Option (List ℕ)
behind_brace bytes = do
  inner ← behind_byte 123 bytes
  word ← run_at Word inner
  behind_byte 125 word.1

abbrev pub gap_by : List ℕ → Option (List ℕ) → Bool × List ℕ
gap_by bytes None = (begins_blank bytes, behind_blanks bytes)
gap_by bytes (Some rest) = (begins_blank rest, behind_blanks rest)

-- an anchor and blanks may come next
unfoldable pub gap_at : List ℕ → Bool × List ℕ
gap_at bytes = gap_by bytes (behind_brace bytes)

abbrev pub anchor_by : List ℕ → Option (List ℕ) → List ℕ
anchor_by bytes None = bytes
anchor_by bytes (Some rest) = behind_blanks rest

-- an anchor may come next, with blanks after it
unfoldable pub behind_anchor : List ℕ → List ℕ
behind_anchor bytes = anchor_by bytes (behind_brace bytes)

-- a slope gives in parentheses how far an end is below the other one
unfoldable pub slope_at : List ℕ → Option (List ℕ)
slope_at bytes = do
  inner ← behind_byte 40 bytes
  behind_byte 41 (behind_run Digit inner)

-- the form of an arrow, by its ends and its style
unfoldable pub form_of : Shaft → ArrowForm
form_of s =
    if s.body.is_hidden then forms.Hidden else (
    if s.left.has_head && s.right.has_head then forms.BothWays else (
    if not s.left.has_head && not s.right.has_head then forms.Headless else (
    if s.left.is_crossed || s.right.is_crossed then forms.Lost else forms.Message)))

-- the effect of an arrow if arrows activate
unfoldable pub activates : Shaft → List ℕ → Option Bool
activates s signs =
    if not (length signs == 0) || s.left.is_crossed || s.right.is_crossed then None else Some (not s.body.is_dotted)

-- an arrow with this shaft: if only its left end has a head, it goes to the left
unfoldable pub made : Bool → Option EndView → Option EndView → Shaft → BehindView → FoundView
made is_beside first second s behind = (
  record {
    first = first;
    second = second;
    goes_back = s.left.has_head && not s.right.has_head;
    form = form_of s;
    label = behind.1;
    is_beside = is_beside;
    activates = activates s behind.0;
  },
  behind.0,
)

abbrev pub behind_slope : List ℕ → Option (List ℕ) → List ℕ
behind_slope bytes None = behind_blanks bytes
behind_slope bytes (Some rest) = behind_blanks rest

-- the participant to which the right end leads, and the text after it
unfoldable pub receiver_at : List ℕ → Option (EndView × BehindView)
receiver_at bytes = do
  end ← participant_at (behind_slope bytes (slope_at bytes))
  behind ← behind_at (behind_anchor end.1)
  Some (end.0, behind)

-- the same for an arrow from the edge: only a name comes next
unfoldable pub named_at : List ℕ → Option (EndView × BehindView)
named_at bytes = do
  name ← name_at (behind_blanks bytes)
  behind ← behind_at name.1
  Some (record { word = name.0; label = None }, behind)

abbrev pub end_at : Bool → List ℕ → Option (EndView × BehindView)
end_at is_edge bytes = if is_edge then named_at bytes else receiver_at bytes

abbrev pub tip : Bool → Bool → Tip
tip has_head is_crossed = record { has_head = has_head; is_crossed = is_crossed }

-- a target whose right head has been read
unfoldable pub unmarked_target : Bool → Bool → List ℕ → Option TargetView
unmarked_target is_edge is_pointed bytes = do
  end ← end_at is_edge bytes
  Some (tip is_pointed false, Some end.0, end.1)

-- the same with a mark, which a blank follows
unfoldable pub marked_target : Bool → Bool → List ℕ → Option TargetView
marked_target is_edge is_pointed bytes = do
  mark ← mark_before_blank bytes
  end ← end_at is_edge mark.1
  Some (tip (is_pointed || (mark.0 && not is_edge)) mark.0, Some end.0, end.1)

abbrev pub target_by : Bool → Bool × List ℕ → Option TargetView
target_by is_edge head = or_else (marked_target is_edge head.0 head.1) (unmarked_target is_edge head.0 head.1)

-- the right end of an arrow, the participant there, and the text after it
unfoldable pub target_at : Bool → List ℕ → Option TargetView
target_at is_edge bytes = target_by is_edge (head_at 62 bytes)

abbrev pub is_pointed : Shaft → Bool
is_pointed s = s.left.has_head || s.right.has_head

abbrev pub shaft_of : Tip → Body → Tip → Shaft
shaft_of left body right = record { left = left; body = body; right = right }

abbrev pub shaft_by : Bool → Option EndView → Shaft → TargetView → Option FoundView
shaft_by is_beside first s target =
    if is_none first && not (is_pointed s) then None else Some (made is_beside first target.1 s target.2)

-- the rest of an arrow after its first participant or the edge: at the edge it has a head
unfoldable pub shaft_from : Bool → Option EndView → Tip → List ℕ → Option FoundView
shaft_from is_beside first left bytes = do
  body ← body_at bytes
  target ← target_at (is_none first) body.1
  shaft_by is_beside first (shaft_of left body.0 target.0) target

abbrev pub tip_by : Bool × List ℕ → Option (List ℕ) → Tip × List ℕ
tip_by gap None = tip_at false gap.0 gap.1
tip_by gap (Some slope) = tip_at false false slope

abbrev pub pair_by : Bool → EndView → Tip × List ℕ → Option FoundView
pair_by is_beside first left = shaft_from is_beside (Some first) left.0 left.1

abbrev pub gap_pair : Bool → EndView → Bool × List ℕ → Option FoundView
gap_pair is_beside first gap = pair_by is_beside first (tip_by gap (slope_at gap.1))

-- an arrow between two participants
unfoldable pub pair_at : Bool → List ℕ → Option FoundView
pair_at is_beside bytes = do
  first ← participant_at (behind_anchor bytes)
  gap_pair is_beside first.0 (gap_at first.1)

-- a sign of the edge
abbrev pub is_edge : ℕ → Bool
is_edge b = b == 63 || b == 91 || b == 93

abbrev pub from_left : Bool → Tip × List ℕ → Option FoundView
from_left is_beside left = shaft_from is_beside None left.0 left.1

-- an arrow from the edge: a mark may come after a sign of the edge
unfoldable pub from_tip : Bool → Bool → List ℕ → Option FoundView
from_tip is_beside has_sign bytes = from_left is_beside (tip_at true has_sign bytes)

unfoldable pub from_sign : Bool → List ℕ → Option FoundView
from_sign is_beside [] = None
from_sign is_beside (b ∷ bs) = if is_edge b then from_tip is_beside true bs else None

-- an arrow from the edge, with or without a sign of the edge
unfoldable pub from_edge : Bool → List ℕ → Option FoundView
from_edge is_beside bytes = or_else (from_sign is_beside bytes) (from_tip is_beside false bytes)

abbrev pub edge_behind : Bool → List ℕ → Option (Bool × List ℕ)
edge_behind is_crossed [] = None
edge_behind is_crossed (b ∷ bs) = if is_edge b then Some (is_crossed, bs) else None

abbrev pub edge_by : Bool × List ℕ → Option (Bool × List ℕ)
edge_by mark = edge_behind mark.0 mark.1

-- a sign of the edge; a mark may come before it
unfoldable pub edge_at : List ℕ → Option (Bool × List ℕ)
edge_at bytes = edge_by (unwrap_or (mark_at bytes) (false, bytes))

unfoldable pub signed_tail : List ℕ → Option (Bool × BehindView)
signed_tail bytes = do
  edge ← edge_at bytes
  behind ← behind_at edge.1
  Some (edge.0, behind)

abbrev pub unsigned : Option BehindView → Option (Bool × BehindView)
unsigned None = None
unsigned (Some behind) = Some (false, behind)

-- a sign of the edge, or none, and the end of an arrow's statement
unfoldable pub edge_tail : List ℕ → Option (Bool × BehindView)
edge_tail bytes = or_else (signed_tail bytes) (unsigned (behind_at bytes))

abbrev pub to_by : Bool → List ℕ → Shaft → BehindView → Option FoundView
to_by is_beside word s behind =
    if is_pointed s then Some (made is_beside (Some (record { word = word; label = None })) None s behind) else None

abbrev pub to_head : Bool → List ℕ → Tip → Body → Bool × List ℕ → Option FoundView
to_head is_beside word left body head = do
  tail ← edge_tail head.1
  to_by is_beside word (shaft_of left body (tip head.0 tail.0)) tail.1

-- an arrow to the edge, after its body
unfoldable pub to_shaft : Bool → List ℕ → Tip → Body → List ℕ → Option FoundView
to_shaft is_beside word left body bytes = to_head is_beside word left body (head_at 62 bytes)

unfoldable pub to_styled : Bool → List ℕ → Tip → List ℕ → Option FoundView
to_styled is_beside word left bytes = do
  body ← styled_body bytes
  to_shaft is_beside word left body.0 body.1

abbrev pub to_other : Bool → List ℕ → Tip → List ℕ → Option FoundView
to_other is_beside word left bytes = do
  body ← other_body bytes
  to_shaft is_beside word left body.0 body.1

-- an arrow to the edge, after its left head: brackets after its dashes are a style, if the arrow continues after them
unfoldable pub to_body : Bool → List ℕ → Tip → List ℕ → Option FoundView
to_body is_beside word left bytes = or_else (to_styled is_beside word left bytes) (to_other is_beside word left bytes)

abbrev pub to_tip : Bool → List ℕ → Tip × List ℕ → Option FoundView
to_tip is_beside word left = to_body is_beside word left.0 left.1

-- an arrow to the edge
unfoldable pub to_edge : Bool → List ℕ → Option FoundView
to_edge is_beside bytes = do
  name ← name_at bytes
  to_tip is_beside name.0 (tip_at true (begins_blank name.1) (behind_blanks name.1))

abbrev pub arrow_by : Bool × List ℕ → Option FoundView
arrow_by row = or_else (pair_at row.0 row.1) (or_else (from_edge row.0 row.1) (to_edge row.0 row.1))

-- the arrow of a statement: between two participants, from the edge, or to it
unfoldable pub arrow_of : List ℕ → Option FoundView
arrow_of words = arrow_by (row_at words)
