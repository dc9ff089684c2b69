-- The meanings of statements (PlantUML's documentation of sequence diagrams). The first form that a statement has
-- decides, in the order in which PlantUML tries them.
use Rattle.std.specs.Prelude.{◌≡◌, ℕ, ◌-◌, Bool, true, false, ◌&&◌, ◌||◌, ◌==◌, nat_lt, List, [], ◌∷◌, codes, length, drop, map, is_some, Option, None, Some, option_map, bytes_eq, nat_eq, if◌then◌else◌}
use Rattle.std.specs.List.{starts_with}
use Rattle.diagram_statements.specs.Statements.{ElementView, element_view, Named, NoteElement, Deactivate, Return, ArrowsActivate, Begin, Branch, EndElement, Box, Divider, Delay, Reference, AtArrow, AtParticipant, AtSeveral}
use Rattle.texts.specs.Words.{behind_blanks, behind_keyword, behind_word, ends_word, stripped, or_else, begins_blank}
use Rattle.texts.specs.Bytes.Words.{is_spelled}
use Rattle.diagram_statements.specs.declared.statement.Group.{Group}
use Rattle.diagram_statements.specs.declared.statement.Group.TheVariants.{Choice, Parallel, Break}
use Rattle.diagram_statements.specs.Options.{◌>>=◌}
use Rattle.diagram_plantuml_arrows.specs.Arrows.{FoundView, found_view, arrow_of, row_at}
use Rattle.diagram_plantuml_arrows.specs.Names.{behind_gap, name_at}
use Rattle.diagram_plantuml_arrows.specs.Runs.{run_at}
use Rattle.diagram_plantuml_arrows.specs.Tails.{behind_colour}
use Rattle.diagram_plantuml_arrows.specs.declared.runs.Class.TheVariants.{Name, Word}
use Rattle.diagram_plantuml_statements.specs.Looks.{block_of, is_early_look, is_late_look}
use Rattle.diagram_plantuml_statements.specs.Notes.{NoteView, behind_comma, note_of, reference_of}
use Rattle.diagram_plantuml_statements.specs.Participants.{DeclaredView, participant_of}
use Rattle.diagram_plantuml_statements.specs.declared.look.Block.{Block}
use Rattle.diagram_plantuml_statements.specs.declared.look.Block.TheVariants as blocks
use Rattle.diagram_plantuml_statements.specs.declared.meaning.Meaning.{Meaning}
use Rattle.diagram_plantuml_statements.specs.declared.meaning.Meaning.TheVariants as meanings
use Rattle.diagram_plantuml_statements.specs.declared.meaning.Reading.{Reading}

-- the meaning of a statement
pub data MeaningView : Type 0 where
  -- it only concerns how the diagram looks
  Look : MeaningView
  Says : (element : ElementView) → MeaningView
  Arrow : (found : FoundView) → MeaningView
  -- a participant that is activated, whose activation ends, or neither
  Life : (word : List ℕ) → (activates : Option Bool) → MeaningView
  -- it names participants, and is then this element
  Names : (names : List ℕ) → (element : ElementView) → MeaningView

abbrev pub meaning_view : Meaning → MeaningView
meaning_view meanings.Look = Look
meaning_view (meanings.Says element) = Says (element_view element)
meaning_view (meanings.Arrow found) = Arrow (found_view found)
meaning_view (meanings.Life word activates) = Life word.now activates
meaning_view (meanings.Names names element) = Names names.now (element_view element)

-- the meaning of a statement, and the block that it begins
abbrev pub ReadingView : Type 0
ReadingView = MeaningView × Option Block

abbrev pub reading_view : Reading → ReadingView
reading_view r = (meaning_view r.meaning, r.block)

abbrev pub Grouped : Type 0
Grouped = List ℕ × Group

-- the words that begin groups
abbrev pub groups : List Grouped
groups =
    (codes "opt", Choice) ∷ (codes "alt", Choice) ∷ (codes "loop", Choice) ∷ (codes "par2", Parallel)
    ∷ (codes "par", Parallel) ∷ (codes "break", Break) ∷ (codes "critical", Choice) ∷ (codes "group", Choice) ∷ []

abbrev pub group_by : Option (List ℕ) → Bool
group_by None = false
group_by (Some rest) = ends_word (behind_colour Word rest)

-- a group begins with this word; a colour may follow the word
unfoldable pub is_group : List ℕ → List ℕ → Bool
is_group word words = group_by (behind_word word words)

-- the group that begins with the first of these words
abbrev pub group_at : List Grouped → List ℕ → Option Group
group_at [] words = None
group_at (g ∷ gs) words = if is_group g.0 words then Some g.1 else group_at gs words

abbrev pub branch_or_end : List ℕ → Option ElementView
branch_or_end rest =
    if is_some (behind_keyword (codes "else") rest) || is_some (behind_keyword (codes "also") rest) then Some Branch else (
    if is_some (behind_keyword (codes "end") rest) then Some EndElement else None)

abbrev pub grouped_by : List ℕ → Option Group → Option ElementView
grouped_by rest None = branch_or_end rest
grouped_by rest (Some group) = Some (Begin group)

-- the beginning, the branch or the end of a group
unfoldable pub group_of : List ℕ → Option ElementView
group_of words = grouped_by (row_at words).1 (group_at groups (row_at words).1)

abbrev pub box_by : Option (List ℕ) → Bool
box_by None = false
box_by (Some rest) = ends_word rest || starts_with nat_eq rest (codes "#")

-- a box around participants begins
unfoldable pub is_box : List ℕ → Bool
is_box words = box_by (behind_word (codes "box") words)

abbrev pub box_end_by : Option (List ℕ) → Bool
box_end_by None = false
box_end_by (Some rest) = is_spelled (codes "box") (behind_blanks rest)

-- a box around participants ends
unfoldable pub is_box_end : List ℕ → Bool
is_box_end words = box_end_by (behind_word (codes "end") words)

abbrev pub answer_by : List ℕ → List ℕ → List ℕ → List ℕ
answer_by rest blanks behind =
    if nat_lt (length behind) (length blanks) && begins_blank behind then stripped behind else stripped rest

-- the text of a return; a colour may come before it
unfoldable pub answer_of : List ℕ → List ℕ
answer_of rest = answer_by rest (behind_blanks rest) (behind_colour Word (behind_blanks rest))

abbrev pub return_by : Bool → Option (List ℕ) → Option ElementView
return_by is_beside None = None
return_by is_beside (Some rest) = Some (Return (answer_of rest) is_beside)

-- a return
unfoldable pub return_of : List ℕ → Option ElementView
return_of words = return_by (row_at words).0 (behind_keyword (codes "return") (row_at words).1)

-- only colours come next: two at most
unfoldable pub are_colours : List ℕ → Bool
are_colours bytes =
    length (behind_blanks (behind_colour Word (behind_blanks (behind_colour Word (behind_blanks bytes))))) == 0

abbrev pub verb_by : Option Bool → Option (List ℕ) → Option (Option Bool × List ℕ)
verb_by activates None = None
verb_by activates (Some rest) = Some (activates, rest)

-- the text after a verb, and whether the verb begins or ends an activation
unfoldable pub verb_at : List ℕ → Option (Option Bool × List ℕ)
verb_at words =
    or_else (verb_by (Some true) (behind_word (codes "activate") words)) (
    or_else (verb_by (Some false) (behind_word (codes "deactivate") words)) (verb_by None (behind_word (codes "destroy") words)))

abbrev pub life_by : List ℕ → Option Bool → Bool → Option MeaningView
life_by name activates true = Some (Life name activates)
life_by name activates false = None

-- an activation of a participant
unfoldable pub life_of : List ℕ → Option MeaningView
life_of words = do
  verb ← verb_at words
  named ← behind_gap verb.1
  name ← name_at named
  life_by name.0 verb.0 (are_colours name.1)

abbrev pub signs_by : Bool → Option (List ℕ) → Option (Bool × List ℕ)
signs_by activates None = None
signs_by activates (Some rest) = Some (activates, rest)

-- two signs of activation
unfoldable pub signs_at : List ℕ → Option (Bool × List ℕ)
signs_at bytes = or_else (signs_by true (behind_word (codes "++") bytes)) (signs_by false (behind_word (codes "--") bytes))

-- an activation by signs after a word
unfoldable pub short_life_of : List ℕ → Option MeaningView
short_life_of words = do
  name ← run_at Name words
  signs ← signs_at (behind_blanks name.1)
  life_by name.0 (Some signs.0) (length (behind_colour Word (behind_blanks signs.1)) == 0)

abbrev pub switch_by : List ℕ → Option ElementView
switch_by word =
    if is_spelled (codes "on") word then Some (ArrowsActivate true) else (
    if is_spelled (codes "off") word then Some (ArrowsActivate false) else None)

-- arrows activate from here on, or no longer do
unfoldable pub switch_of : List ℕ → Option ElementView
switch_of words = do
  rest ← behind_word (codes "autoactivate") words
  word ← behind_gap rest
  switch_by word

-- a divider is between two equality signs at each end
unfoldable pub is_divider : List ℕ → Bool
is_divider words =
    nat_lt 3 (length words) && starts_with nat_eq words (codes "==") && bytes_eq (drop (length words - 2) words) (codes "==")

-- a delay: three dots, or one character for them
unfoldable pub is_delay : List ℕ → Bool
is_delay words = starts_with nat_eq words (codes "...") || starts_with nat_eq words (226 ∷ 128 ∷ 166 ∷ [])

abbrev pub only_by : List ℕ → Option (List ℕ) → Option (List ℕ)
only_by name None = Some name
only_by name (Some next) = None

-- the word of the single participant that is named
unfoldable pub only_name : List ℕ → Option (List ℕ)
only_name names = do
  name ← name_at names
  only_by name.0 (behind_comma name.1)

abbrev pub text_or_none : Option (List ℕ) → List ℕ
text_or_none None = []
text_or_none (Some text) = text

abbrev pub named_note : List ℕ → Option (List ℕ) → Option (List ℕ) → MeaningView
named_note names text None = Names names (NoteElement AtSeveral [])
named_note names text (Some name) = Says (NoteElement (AtParticipant name) (text_or_none text))

abbrev pub unnamed_note : Bool → MeaningView
unnamed_note true = Says (NoteElement AtSeveral [])
unnamed_note false = Says (NoteElement AtArrow [])

abbrev pub note_by : NoteView → Option (List ℕ) → MeaningView
note_by note None = unnamed_note note.1
note_by note (Some names) = named_note names note.2 (only_name names)

-- the meaning of a note
unfoldable pub note_meaning : NoteView → MeaningView
note_meaning note = note_by note note.0

-- a block begins if there is no text in the same line
abbrev pub block_without : Option (List ℕ) → Block → Option Block
block_without None block = Some block
block_without (Some text) block = None

abbrev pub noted_by : Option NoteView → Option ReadingView
noted_by None = None
noted_by (Some note) = Some (note_meaning note, block_without note.2 blocks.Note)

unfoldable pub noted : List ℕ → Option ReadingView
noted words = noted_by (note_of words)

-- a reference names its participants
unfoldable pub referred : List ℕ → Option ReadingView
referred words = do
  note ← reference_of words
  names ← note.0
  Some (Names names Reference, block_without note.2 blocks.Reference)

-- a meaning without a block
abbrev pub alone : MeaningView → Option ReadingView
alone meaning = Some (meaning, None)

abbrev pub saying : Option ElementView → Option ReadingView
saying None = None
saying (Some element) = alone (Says element)

abbrev pub meaning : Option MeaningView → Option ReadingView
meaning None = None
meaning (Some m) = alone m

abbrev pub dividing : List ℕ → Option ReadingView
dividing words =
    if is_divider words then alone (Says Divider) else (
    if is_delay words then alone (Says Delay) else (
    if is_late_look words then alone Look else None))

-- the last forms
unfoldable pub late : List ℕ → Option ReadingView
late words =
    or_else (saying (return_of words)) (or_else (referred words) (or_else (saying (switch_of words)) (dividing words)))

abbrev pub grouping : List ℕ → Option ReadingView
grouping words = or_else (saying (group_of words)) (or_else (meaning (short_life_of words)) (late words))

abbrev pub boxing : List ℕ → Option ReadingView
boxing words =
    if is_box words then alone (Says Box) else (
    if is_box_end words then alone Look else grouping words)

-- the forms that are tried after arrows
unfoldable pub listed : List ℕ → Option ReadingView
listed words = or_else (noted words) (boxing words)

abbrev pub participant_block : Bool → Option Block
participant_block opens = if opens then Some blocks.Participant else None

abbrev pub declared_by : Option DeclaredView → Option ReadingView
declared_by None = None
declared_by (Some declared) = Some (Says (Named declared.0), participant_block declared.1)

unfoldable pub declaring : List ℕ → Option ReadingView
declaring words = declared_by (participant_of words)

abbrev pub block_by : Option Block → Option ReadingView
block_by None = None
block_by (Some block) = Some (Look, Some block)

abbrev pub deactivating : List ℕ → Option ReadingView
deactivating words = if is_spelled (codes "deactivate") words then alone (Says Deactivate) else None

-- the first forms
unfoldable pub early : List ℕ → Option ReadingView
early words =
    if is_early_look words then alone Look else
    or_else (block_by (block_of words)) (or_else (meaning (life_of words)) (or_else (declaring words) (deactivating words)))

abbrev pub arrow_or : List ℕ → Option FoundView → Option ReadingView
arrow_or words None = listed words
arrow_or words (Some found) = alone (Arrow found)

-- the meaning of a statement, if it can be read
unfoldable pub reading_of : List ℕ → Option ReadingView
reading_of words = or_else (early words) (arrow_or words (arrow_of words))
