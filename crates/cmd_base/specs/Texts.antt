-- The contents of a file, a schedule or a chart; where its chart comes from; and the result of an operation on the
-- chart.
use Rattle.std.specs.Prelude.{◌≡◌, ◌⊎◌, ℕ, true, false, List, Result, Ok, Err}
use Rattle.msc_text.specs.Reader.Reading.{chart_of}
use Rattle.texts.specs.declared.fault.Fault.{Fault}
use Rattle.schedule.specs.Outcomes.Outcomes.{IsOutcome}
use Rattle.schedule.specs.Reading.{schedule_of}
use Rattle.cmd_base.specs.declared.error.ProgramError.{ProgramError}
use Rattle.cmd_base.specs.declared.error.ProgramError.TheVariants as errors
use Rattle.cmd_base.specs.declared.text.NamedChart.{NamedChart}
use Rattle.cmd_base.specs.declared.text.Text.{Text}
use Rattle.cmd_base.specs.declared.text.Text.TheVariants.{Schedule, Chart}
use Rattle.cmd_base.specs.declared.source.Source.{Source}
use Rattle.cmd_base.specs.declared.source.Source.TheVariants.{Run, Written}
use Rattle.cmd_base.specs.Contents.{Named, is_schedule, chart_part, Reads, HasFault}

-- the value is the chart in the bytes, or the error is their fault, or memory ran out
abbrev pub ReadsChart : Result Named ProgramError → List ℕ → Type 0
ReadsChart result bytes = Reads result (chart_of (chart_part bytes))

-- the contents of the bytes: a schedule, if their first word is a schedule's, and otherwise a chart
abbrev pub IsText : List ℕ → Text → Type 0
IsText bytes (Schedule plan) = (is_schedule bytes ≡ true) × (schedule_of bytes ≡ Ok plan)
IsText bytes (Chart named) = (is_schedule bytes ≡ false) × (chart_of (chart_part bytes) ≡ Ok named)

-- the value is the contents of the bytes, or the error is their fault, or memory ran out
abbrev pub ReadsText : Result Text ProgramError → List ℕ → Type 0
ReadsText (Ok text) bytes = IsText bytes text
ReadsText (Err errors.Memory) bytes = Unit {0}
ReadsText (Err (errors.Text fault)) bytes = HasFault bytes fault
ReadsText (Err _) bytes = ⊥

-- the chart, with its names
abbrev pub named_of : Source → Named
named_of (Run schedule outcome) = (outcome.names, outcome.chart)
named_of (Written named) = named.now

-- a run is its schedule's outcome
abbrev pub ComesFrom : Source → Type 0
ComesFrom (Run schedule outcome) = IsOutcome schedule.now outcome
ComesFrom (Written named) = Unit {0}

-- the source belongs to the text
abbrev pub IsOf : Text → Source → Type 0
IsOf (Schedule plan) (Run schedule outcome) = schedule.now ≡ plan
IsOf (Schedule plan) (Written named) = ⊥
IsOf (Chart named) (Run schedule outcome) = ⊥
IsOf (Chart named) (Written written) = written.now ≡ named

-- the chart comes from the text: it is the text's own chart, or the outcome of its schedule
abbrev pub IsSourceOf : Text → Source → Type 0
IsSourceOf text source = IsOf text source × ComesFrom source

-- the source belongs to the contents of the bytes
abbrev pub IsReadAs : List ℕ → Source → Type 0
IsReadAs bytes source = (text : Text) × IsText bytes text × IsSourceOf text source

-- The result of an operation on the chart in the bytes, by `Does`; or memory ran out, or the bytes have a fault, and
-- nothing was written. `program` converts a refusal of the file to one of the operation.
abbrev pub OfFile : {S T E : Type 0} → (ProgramError → E) → (Source → Result T E → Type 0) → S → S → List ℕ → Result T E
    → Type 0
OfFile program Does old new bytes done = ((done ≡ Err (program errors.Memory)) × (new ≡ old))
    ⊎ (((fault : Fault) × (done ≡ Err (program (errors.Text fault))) × HasFault bytes fault × (new ≡ old))
    ⊎ ((source : Source) × IsReadAs bytes source × Does source done))
