-- The state of a reader of lines, and the statements of a line.
use Rattle.std.specs.Prelude.{◌≡◌, ℕ, Bool, true, false, not, ◌&&◌, ◌||◌, ◌==◌, List, [], ◌∷◌, ◌++◌, codes, length, Option, None, Some, Result, Ok, Err, is_some, is_none, nat_eq, if◌then◌else◌}
use Rattle.std.specs.List.{starts_with}
use Rattle.diagram_statements.specs.Statements.{LineView, StatementView, Preprocessor, OtherDiagram}
use Rattle.diagram_statements.specs.declared.statement.Fault.{Fault}
use Rattle.diagram_statements.specs.declared.statement.Fault.TheVariants.{NotRead}
use Rattle.diagram_statements.specs.declared.statement.Place.{Place}
use Rattle.diagram_statements.specs.declared.statement.ReadError.{ReadError}
use Rattle.diagram_statements.specs.declared.statement.ReadError.TheVariants as errors
use Rattle.diagram_plantuml_statements.specs.Meanings.{ReadingView, reading_of}
use Rattle.diagram_plantuml_statements.specs.Statements.{one_statement, statements_of}
use Rattle.diagram_plantuml_statements.specs.declared.look.Block.{Block}
use Rattle.diagram_plantuml.specs.Comments.{ends_comment, uncommented}
use Rattle.diagram_plantuml.specs.Directives.{behind_skip, skip_of}
use Rattle.diagram_plantuml.specs.Ends.{behind_block}
use Rattle.diagram_plantuml.specs.Joints.{place_in}
use Rattle.diagram_plantuml.specs.Regions.{is_end, is_start}
use Rattle.diagram_plantuml.specs.declared.directives.Skip.{Skip}
use Rattle.diagram_plantuml.specs.declared.region.Region.{Region}
use Rattle.diagram_plantuml.specs.declared.region.Region.TheVariants.{Above, Inside, Below}
use Rattle.diagram_plantuml.specs.declared.standing.Standing.{Standing}

-- the statements of a line, and the reader's state after it
abbrev pub Step : Type 0
Step = Result (List StatementView × Standing) Fault

abbrev pub at : Bool → Option Skip → Option Block → Standing
at has_comment skip block = record { has_comment = has_comment; skip = skip; block = block }

-- nothing is open
abbrev pub nothing_open : Standing
nothing_open = at false None None

abbrev pub statement_by : Place → Option ReadingView → Step
statement_by place None = Err (NotRead place)
statement_by place (Some reading) = Ok (statements_of place reading.0, at false None reading.1)

abbrev pub block_by : Place → LineView → Option Block → Step
block_by place l None = statement_by place (reading_of l.words)
block_by place l (Some block) = Ok ([], at false None (behind_block block l.words))

-- a line that the preprocessor leaves is in a block, or is a statement
unfoldable pub blocked : Standing → Place → LineView → Step
blocked standing place l = block_by place l standing.block

abbrev pub next_skip : Option Skip → List ℕ → Option Skip
next_skip None words = skip_of words
next_skip (Some skip) words = behind_skip skip words

abbrev pub is_directive : LineView → Bool
is_directive l = starts_with nat_eq l.words (codes "!")

abbrev pub left_out : Place → LineView → List StatementView
left_out place l = if is_directive l then one_statement place Preprocessor ∷ [] else []

-- a line of the preprocessor is skipped, and so are the lines to skip after it
unfoldable pub chosen : Standing → Place → LineView → Step
chosen standing place l =
    if not (is_directive l) && is_none standing.skip then blocked standing place l
    else Ok (left_out place l, at false (next_skip standing.skip l.words) standing.block)

-- a comment over several lines may begin
unfoldable pub bared : Standing → Place → LineView → Step
bared standing place l =
    if starts_with nat_eq l.words (codes "/'") then Ok ([], at true standing.skip standing.block) else (
    if length l.words == 0 || starts_with nat_eq l.words (codes "'") then Ok ([], standing) else chosen standing place l)

-- a line of the diagram, which begins with the first line of this source
unfoldable pub stepped : Standing → List ℕ → LineView → Step
stepped standing source l =
    if standing.has_comment then Ok ([], at (not (ends_comment l.words)) standing.skip standing.block)
    else bared standing (place_in source l.number (uncommented l).column) (uncommented l)

-- a line of the text: another diagram below the first one is skipped
unfoldable pub region_stepped : Region → Standing → List ℕ → LineView → Step
region_stepped Above standing source l = Ok ([], standing)
region_stepped Inside standing source l = if is_end l.words then Ok ([], standing) else stepped standing source l
region_stepped Below standing source l =
    if is_start l.words then Ok (one_statement (place_in source l.number l.column) OtherDiagram ∷ [], standing) else Ok ([], standing)

-- a comment, a block or skipped lines continue
unfoldable pub is_open : Standing → Bool
is_open standing = standing.has_comment || is_some standing.skip || is_some standing.block

-- a call with a fault added nothing, unless memory ran out
abbrev pub StopsAt : ReadError → List StatementView → List StatementView → Step → Type 0
StopsAt errors.Memory old new step = Unit {0}
StopsAt (errors.Fault fault) old new step = (step ≡ Err fault) × (new ≡ old)

-- a call added the statements of the step and returned its state, unless memory ran out
abbrev pub Steps : Result Standing ReadError → List StatementView → List StatementView → Step → Type 0
Steps (Ok next) old new step = (more : List StatementView) × (step ≡ Ok (more, next)) × (new ≡ old ++ more)
Steps (Err e) old new step = StopsAt e old new step
