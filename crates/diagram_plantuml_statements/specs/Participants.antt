-- Statements that name a participant (PlantUML's documentation of sequence diagrams, "Declaring participant", "Participant
-- Creation", "Stereotypes and Spots").
use Rattle.std.specs.Prelude.{◌≡◌, ℕ, zero, suc, ◌+◌, ◌-◌, Bool, true, false, ◌||◌, ◌==◌, nat_lt, List, [], ◌∷◌, codes, length, drop, Option, None, Some, option_map, bytes_eq, nat_eq, if◌then◌else◌}
use Rattle.std.specs.List.{starts_with}
use Rattle.diagram_statements.specs.Statements.{EndView, end_view}
use Rattle.texts.specs.Words.{begins, behind_keyword_of, behind_word, blank_length, or_else}
use Rattle.texts.specs.Bytes.Classes.{is_blank}
use Rattle.diagram_statements.specs.Options.{◌>>=◌}
use Rattle.diagram_plantuml_arrows.specs.Names.{behind_gap, name_at, quoted_at}
use Rattle.diagram_plantuml_arrows.specs.Runs.{run_at, run_length}
use Rattle.diagram_plantuml_arrows.specs.declared.runs.Class.TheVariants.{Name, Digit, Solid}
use Rattle.diagram_plantuml_statements.specs.declared.participant.Declared.{Declared}

-- a participant, and whether a block begins
abbrev pub DeclaredView : Type 0
DeclaredView = EndView × Bool

abbrev pub declared_view : Declared → DeclaredView
declared_view d = (end_view d.end, d.opens)

-- the last place of these bytes
unfoldable pub last_place : List ℕ → List ℕ → Option ℕ
last_place known [] = None
last_place known (b ∷ bs) =
    or_else (option_map suc (last_place known bs)) (if starts_with nat_eq (b ∷ bs) known then Some 0 else None)

abbrev pub minus_length : List ℕ → ℕ
minus_length bytes = if starts_with nat_eq bytes (codes "-") then 1 else 0

abbrev pub order_by : ℕ → ℕ → ℕ → Option ℕ
order_by blanks sign digits = if blanks == 0 || digits == 0 then None else Some (blanks + sign + digits)

-- the length of an order after its word: blanks, and a number
unfoldable pub order_length : List ℕ → Option ℕ
order_length bytes =
    order_by (blank_length bytes) (minus_length (drop (blank_length bytes) bytes))
    (run_length Digit (drop (blank_length bytes + minus_length (drop (blank_length bytes) bytes)) bytes))

abbrev pub colour_length : ℕ → Option ℕ
colour_length length = if length == 0 then None else Some (length + 1)

-- the length of a decoration: a blank, a stereotype, a link, a colour or an order; a stereotype and a link go up to the
-- last of their ends
unfoldable pub decoration_length : List ℕ → Option ℕ
decoration_length [] = None
decoration_length (b ∷ bs) =
    if is_blank b then Some 1 else (
    if starts_with nat_eq (b ∷ bs) (codes "<<") then option_map (λ p. p + 4) (last_place (codes ">>") (drop 2 (b ∷ bs))) else (
    if starts_with nat_eq (b ∷ bs) (codes "[[") then option_map (λ p. p + 4) (last_place (codes "]]") (drop 2 (b ∷ bs))) else (
    if b == 35 then colour_length (run_length Solid bs) else (
    if begins (codes "order") (b ∷ bs) then option_map (λ l. l + 5) (order_length (drop 5 (b ∷ bs))) else None))))

-- the number of bytes after the first one that still belong to a decoration
unfoldable pub next_within : ℕ → List ℕ → Option ℕ
next_within within bytes =
    if nat_lt 0 within then Some (within - 1) else option_map (λ l. l - 1) (decoration_length bytes)

-- a single bracket begins a block
abbrev pub opens : List ℕ → Option Bool
opens bytes = if bytes_eq bytes (codes "[") then Some true else None

abbrev pub decorated_by : (ℕ → Option Bool) → List ℕ → Option ℕ → Option Bool
decorated_by others bytes None = opens bytes
decorated_by others bytes (Some next) = others next

-- only decorations, and perhaps the beginning of a block, are here
unfoldable pub decorated : ℕ → List ℕ → Option Bool
decorated within [] = Some false
decorated within (b ∷ bs) = decorated_by (λ next. decorated next bs) (b ∷ bs) (next_within within (b ∷ bs))

-- a participant with the text after it
unfoldable pub with_decoration : List ℕ → Option (List ℕ) → List ℕ → Option DeclaredView
with_decoration word label bytes = do
  opens ← decorated 0 bytes
  Some (record { word = word; label = label }, opens)

-- the text after `as` and the blanks around it
unfoldable pub behind_as : List ℕ → Option (List ℕ)
behind_as bytes = do
  gap ← behind_gap bytes
  rest ← behind_word (codes "as") gap
  behind_gap rest

-- "Label" as Word
unfoldable pub labelled : List ℕ → Option DeclaredView
labelled bytes = do
  label ← quoted_at bytes
  rest ← behind_as label.1
  word ← run_at Name rest
  with_decoration word.0 (Some label.0) word.1

-- Word as "Label"
unfoldable pub worded : List ℕ → Option DeclaredView
worded bytes = do
  word ← run_at Name bytes
  rest ← behind_as word.1
  label ← quoted_at rest
  with_decoration word.0 (Some label.0) label.1

-- Label as Word
unfoldable pub shortened : List ℕ → Option DeclaredView
shortened bytes = do
  label ← run_at Name bytes
  rest ← behind_as label.1
  word ← run_at Name rest
  with_decoration word.0 (Some label.0) word.1

-- a single name
unfoldable pub plain : List ℕ → Option DeclaredView
plain bytes = do
  word ← name_at bytes
  with_decoration word.0 None word.1

-- the first of these forms
unfoldable pub named_in : List ℕ → Option DeclaredView
named_in bytes = or_else (labelled bytes) (or_else (worded bytes) (or_else (shortened bytes) (plain bytes)))

-- a participant may be created
unfoldable pub behind_create : List ℕ → Option (List ℕ)
behind_create words = do
  rest ← behind_word (codes "create") words
  behind_gap rest

abbrev pub kinds : List (List ℕ)
kinds =
    codes "participant" ∷ codes "actor" ∷ codes "boundary" ∷ codes "control" ∷ codes "entity" ∷ codes "queue"
    ∷ codes "database" ∷ codes "collections" ∷ []

-- the text after the word for a kind
unfoldable pub behind_kind : List ℕ → Option (List ℕ)
behind_kind words = behind_keyword_of kinds words

-- a participant after the word for its kind
unfoldable pub kind_in : List ℕ → Option DeclaredView
kind_in words = do
  rest ← behind_kind words
  named ← behind_gap rest
  named_in named

abbrev pub created_by : List ℕ → Option (List ℕ) → Option DeclaredView
created_by words None = kind_in words
created_by words (Some created) = or_else (kind_in created) (named_in created)

-- the participant that a statement names
unfoldable pub participant_of : List ℕ → Option DeclaredView
participant_of words = created_by words (behind_create words)
