-- The verdict on a file: the first fault that its readers return, or that it has none.
use Rattle.std.specs.Prelude.{◌≡◌, ◌≢◌, ℕ, false, List, [], length, None, Ok, Err}
use Rattle.chart.specs.Charts.{chart_lines, IsPossible}
use Rattle.closure.specs.Faults.{Refuses}
use Rattle.closure.specs.declared.error.ChartError.TheVariants as charts
use Rattle.diagram_import.specs.Importing.{OptionsView, imported}
use Rattle.diagram_import.specs.Refusals.{Fails}
use Rattle.diagram_import.specs.declared.error.ImportError.{ImportError}
use Rattle.diagram_import.specs.declared.error.ImportError.TheVariants as imports
use Rattle.cmd_explain_file.specs.declared.kind.Kind.{Kind}
use Rattle.cmd_explain_file.specs.declared.kind.Kind.TheVariants as kinds
use Rattle.cmd_explain_file.specs.declared.verdict.Unread.{Unread}
use Rattle.cmd_explain_file.specs.declared.verdict.Unread.TheVariants as unreads
use Rattle.cmd_explain_file.specs.declared.verdict.Verdict.{Verdict}
use Rattle.cmd_explain_file.specs.declared.verdict.Verdict.TheVariants.{Read, Ran, Built, NotBuilt, Behind, Refused, NoSend, OtherName, Cyclic}
use Rattle.cmd_base.specs.Answers.{Exit}
use Rattle.cmd_base.specs.Contents.{Named, chart_part}
use Rattle.cmd_import_diagram.specs.Order.{in_order}
use Rattle.diagram_join.specs.Building.{joined_chart_view}
use Rattle.diagram_join.specs.declared.building.JoinedChart.{JoinedChart}
use Rattle.msc_text.specs.Reader.Reading.{chart_of}
use Rattle.schedule.specs.Plans.{Plan}
use Rattle.schedule.specs.Reading.{schedule_of}
use Rattle.schedule_replay.specs.Notes.Notes.{AreNotesOf}
use Rattle.fault_places.specs.NamedCycles.{AreStepsOf}

-- the exit status: 1 if a fault is reported, and otherwise 0
abbrev pub status_of : Verdict → ℕ
status_of Read = 0
status_of (Ran notes) = 0
status_of (Built left_out overtaking) = 0
status_of (NotBuilt unread) = 1
status_of (Behind fault) = 0
status_of (Refused fault) = 1
status_of (NoSend receive) = 1
status_of (OtherName receive) = 1
status_of (Cyclic steps) = 1

abbrev pub verdict_exit : Verdict → Exit
verdict_exit verdict = record { status = status_of verdict; diagnostics = None }

-- a schedule's text is read, and its commands leave these notes; or it has this fault
abbrev pub IsOfSchedule : List ℕ → Verdict → Type 0
IsOfSchedule text (Ran notes) = (plan : Plan) × (schedule_of text ≡ Ok plan)
    × AreNotesOf plan notes.items
IsOfSchedule text (Refused fault) = schedule_of text ≡ Err fault
IsOfSchedule text _ = ⊥

-- the chart of this text is possible, or is refused by this fault; if events come before each other, the steps are
-- those of a shortest cycle
abbrev pub IsOfLines : List ℕ → Named → Verdict → Type 0
IsOfLines text named Read = IsPossible (length named.1) (chart_lines named.1)
IsOfLines text named (NoSend receive) = Refuses (chart_lines named.1) (charts.ReceiveWithoutSend receive)
IsOfLines text named (OtherName receive) = Refuses (chart_lines named.1) (charts.NameMismatch receive)
IsOfLines text named (Cyclic steps) = Refuses (chart_lines named.1) charts.Cyclic
    × AreStepsOf text named.0 named.1 steps.items
IsOfLines text named _ = ⊥

-- the whole text is a chart's, or it has this fault
abbrev pub IsOfWhole : List ℕ → Verdict → Type 0
IsOfWhole text Read = (named : Named) × (chart_of text ≡ Ok named)
IsOfWhole text (Behind fault) = chart_of text ≡ Err fault
IsOfWhole text _ = ⊥

-- the text through the first line that ends a chart is refused, or its chart isn't possible; if the chart is possible,
-- the whole text decides
abbrev pub IsOfChart : List ℕ → Verdict → Type 0
IsOfChart text Read = (named : Named) × (chart_of (chart_part text) ≡ Ok named) × IsOfLines text named Read × IsOfWhole text Read
IsOfChart text (Behind fault) = (named : Named) × (chart_of (chart_part text) ≡ Ok named) × IsOfLines text named Read
    × IsOfWhole text (Behind fault)
IsOfChart text (Refused fault) = chart_of (chart_part text) ≡ Err fault
IsOfChart text (Ran notes) = ⊥
IsOfChart text (Built left_out overtaking) = ⊥
IsOfChart text (NotBuilt why) = ⊥
IsOfChart text verdict = (named : Named) × (chart_of (chart_part text) ≡ Ok named) × IsOfLines text named verdict

-- no lines are skipped or joined, and constructs that a chart can't express are allowed
abbrev pub no_options : OptionsView
no_options = record { skipped = []; joins = []; is_strict = false }

-- why a diagram can't be imported, without the words at the place
abbrev pub unread : ImportError → Unread
unread imports.Memory = unreads.Unfinished
unread imports.Usage = unreads.Usage
unread (imports.NotRead place words) = unreads.NotRead place
unread imports.Unfinished = unreads.Unfinished
unread (imports.UnknownInstance line) = unreads.UnknownInstance line
unread (imports.NoChart error) = unreads.NoChart error

-- a diagram is imported, and its chart can't express these constructs; or it is refused by this fault
abbrev pub IsOfDiagram : List ℕ → Verdict → Type 0
IsOfDiagram text (Built left_out overtaking) = (built : JoinedChart)
    × (imported None text no_options ≡ Ok (joined_chart_view built))
    × (left_out.items ≡ in_order built.built.left_out.items) × (overtaking ≡ built.overtaking)
IsOfDiagram text (NotBuilt why) = (error : ImportError) × (error ≢ imports.Memory)
    × Fails error (imported None text no_options) × (why ≡ unread error)
IsOfDiagram text _ = ⊥

-- the verdict on a text of this kind: it is read as a schedule, imported as a diagram, or read as a chart
abbrev pub IsVerdict : Kind → List ℕ → Verdict → Type 0
IsVerdict kinds.Schedule text verdict = IsOfSchedule text verdict
IsVerdict (kinds.Diagram tool) text verdict = IsOfDiagram text verdict
IsVerdict _ text verdict = IsOfChart text verdict
