-- The kind of a file, by its first words.
use Rattle.std.specs.Prelude.{ℕ, ◌==◌, ◌||◌, Bool, true, not, List, codes, bytes_eq, Result, Ok, Err, if◌then◌else◌}
use Rattle.std.specs.List.{list_any}
use Rattle.diagram_import.specs.Importing.{behind_mark}
use Rattle.cmd_explain_file.specs.declared.kind.Kind.{Kind}
use Rattle.cmd_explain_file.specs.declared.kind.Kind.TheVariants as kinds
use Rattle.fault_places.specs.Standings.{first_or}
use Rattle.cmd_base.specs.Contents.{is_schedule}
use Rattle.texts.specs.Lines.{lines_of, end_of}
use Rattle.diagram_tool.specs.Detection.Detection.{detected_tool}
use Rattle.diagram_tool.specs.declared.detection.detection.ToolError.{ToolError}
use Rattle.diagram_tool.specs.declared.Tool.{Tool}
use Rattle.diagram_tool.specs.declared.Tool.TheVariants as tools
use Rattle.cmd_tidy.specs.Typing.{exact_text}

abbrev pub has_brace : List ℕ → Bool
has_brace text = list_any (λ b. b == 123) text

-- a text with the first word `msc` is a chart's; otherwise it is a text of mscgen, which has a brace after this word
unfoldable pub begins_chart : List ℕ → Bool
begins_chart text = not (has_brace text) || bytes_eq (first_or (end_of text) (lines_of text)) (codes "msc run;")

-- the kind, by the tool that the text indicates
abbrev pub detected_kind : Bool → Result Tool ToolError → Kind
detected_kind true (Ok tools.Mscgen) = kinds.Chart
detected_kind is_chart (Ok tool) = kinds.Diagram tool
detected_kind is_chart (Err no_tool) = kinds.Other

-- The kind of a file, by its text and its exact text. It is a schedule if the first word of either text is a
-- schedule's. Otherwise the first word outside comments determines the kind.
unfoldable pub kind_by : List ℕ → List ℕ → Kind
kind_by text exact =
    if is_schedule text || is_schedule exact then kinds.Schedule
    else detected_kind (begins_chart text) (detected_tool (behind_mark text))

abbrev pub kind_of : List ℕ → Kind
kind_of text = kind_by text (exact_text text)

-- the part of a file that is shown; for a diagram this is the text after its byte order mark
abbrev pub shown : Kind → List ℕ → List ℕ
shown (kinds.Diagram tool) text = behind_mark text
shown _ text = text
