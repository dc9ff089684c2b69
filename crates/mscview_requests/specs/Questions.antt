-- The questions of `why`, `witness` and `mend` about an imported chart, and the results of the import for them (this
-- project's own).
use Rattle.std.specs.Prelude.{◌≡◌, ◌⊎◌, ℕ, true, false, List, Option, None, Some, option_map, Ok, Err}
use Rattle.cli.specs.declared.view.request.LogQuestion.{LogQuestion}
use Rattle.cli.specs.declared.view.request.Mend as mend
use Rattle.cli.specs.declared.view.request.Mend.TheVariants.{One, All}
use Rattle.cli.specs.declared.view.request.Pair as pairs
use Rattle.cli.specs.declared.view.request.RaceQuestion.{RaceQuestion}
use Rattle.cli.specs.declared.view.request.RaceQuestion.TheVariants as asked
use Rattle.cli.specs.declared.view.request.ToolQuestion.{ToolQuestion}
use Rattle.cmd_base.specs.Answers.{Exit, refusal}
use Rattle.cmd_import_diagram.specs.Importing as diagrams
use Rattle.cmd_import_diagram.specs.declared.importing.Diagnostics as diagram_reports
use Rattle.cmd_import_diagram.specs.declared.importing.ImportWriteError.TheVariants.{Diagram}
use Rattle.cmd_import_log.specs.Importing as logs
use Rattle.cmd_import_log.specs.Options as log_options
use Rattle.cmd_import_log.specs.Refusals.{one_end_text}
use Rattle.cmd_import_log.specs.declared.answers.diagnostics.Diagnostics as log_reports
use Rattle.cmd_import_log.specs.declared.importing.LogWriteError.TheVariants.{Log}
use Rattle.cmd_page.specs.Answers.Leaving.{memory, none}
use Rattle.diagram_import.specs.Importing.{OptionsView}
use Rattle.diagram_import.specs.declared.error.ImportError.{ImportError}
use Rattle.cmd_import_log.specs.declared.error.LogImportError.{LogImportError}
use Rattle.diagram_tool.specs.declared.Tool.{Tool}
use Rattle.mscview_requests.specs.Wanted.{IsAsked, IsMend, IsMendAll, IsReading, IsLog}
use Rattle.mscview_requests.specs.declared.questions.ReadQuestion.{ReadQuestion}
use Rattle.mscview_requests.specs.declared.questions.ReadQuestion.TheVariants as questions
use Rattle.texts.specs.Outs.{Stored}

-- the question of `why` or `witness` about two events
abbrev pub IsPairQuestion : pairs.Pair → ReadQuestion → Type 0
IsPairQuestion pair (questions.Pair question events) =
    (question ≡ pair.question) × IsAsked pair.instance.now pair.earlier.now pair.receive.now events
IsPairQuestion pair (questions.Mend wanted) = ⊥
IsPairQuestion pair (questions.MendAll wanted) = ⊥

-- the question of `mend` about one race, or about all
abbrev pub IsMendQuestion : mend.Mend → ReadQuestion → Type 0
IsMendQuestion (One name verbose file instance earlier receive) (questions.Mend wanted) =
    IsMend (option_map (λ word. word.now) name) verbose instance.now earlier.now receive.now wanted
IsMendQuestion (One name verbose file instance earlier receive) (questions.Pair question events) = ⊥
IsMendQuestion (One name verbose file instance earlier receive) (questions.MendAll wanted) = ⊥
IsMendQuestion (All receives completed limit file) (questions.Pair question events) = ⊥
IsMendQuestion (All receives completed limit file) (questions.Mend wanted) = ⊥
IsMendQuestion (All receives completed limit file) (questions.MendAll wanted) =
    IsMendAll receives completed (option_map (λ word. word.now) limit) wanted

-- the question of one of the three commands, by its words
abbrev pub IsQuestion : RaceQuestion → ReadQuestion → Type 0
IsQuestion (asked.Pair pair) = IsPairQuestion pair
IsQuestion (asked.Mend wanted) = IsMendQuestion wanted

-- a question, and the options for reading the diagram
abbrev pub IsToolQuestion : ToolQuestion → ReadQuestion × (Option Tool × OptionsView) → Type 0
IsToolQuestion wanted read = IsQuestion wanted.asked read.0 × IsReading wanted.import.reading read.1

-- a question, and the options for reading the log
abbrev pub IsLogQuestion : LogQuestion → ReadQuestion × log_options.OptionsView → Type 0
IsLogQuestion wanted read = IsQuestion wanted.asked read.0 × IsLog wanted.log read.1

-- The result of an import into memory that has room for it: the text of the chart, if there is one, with the exit
-- status and the warnings. This is the result for a diagram:
abbrev pub LeavesDiagram : Option Tool → List ℕ → OptionsView → Option (List ℕ) → Exit → Type 0
LeavesDiagram tool bytes options (Some text) exit = (left : Stored) × (diagnostics : diagram_reports.Diagnostics)
    × diagrams.Imports memory none left (Ok diagnostics) tool bytes options × (text ≡ left.bytes) × (exit ≡ diagrams.imported_exit (Ok diagnostics))
LeavesDiagram tool bytes options None exit = (error : ImportError)
    × diagrams.Imports memory none none (Err (Diagram error)) tool bytes options × (exit ≡ diagrams.imported_exit (Err (Diagram error)))

-- the result for a log, whose files have these names if there are several; a log with one end of each message shows no
-- race, and is refused:
abbrev pub LeavesLog : log_options.OptionsView → List (List ℕ) → List (List ℕ) → Option (List ℕ) → Exit → Type 0
LeavesLog options texts files (Some text) exit = (left : Stored) × (diagnostics : log_reports.Diagnostics)
    × logs.Imports memory none left (Ok diagnostics) options texts × (diagnostics.is_one_ended ≡ false) × (text ≡ left.bytes)
    × (exit ≡ logs.imported_exit files (Ok diagnostics))
LeavesLog options texts files None exit =
    ((error : LogImportError) × logs.Imports memory none none (Err (Log error)) options texts × (exit ≡ logs.imported_exit files (Err (Log error))))
    ⊎ ((left : Stored) × (diagnostics : log_reports.Diagnostics) × logs.Imports memory none left (Ok diagnostics) options texts
    × (diagnostics.is_one_ended ≡ true) × (exit ≡ refusal (one_end_text diagnostics)))
