-- Outcomes of runs of a schedule's scripts (this project's profile).
use Rattle.std.specs.Prelude.{◌≡◌, ℕ, ◌+◌, Bool, true, false, List, [], ◌∷◌, length}
use Rattle.std.specs.List.{list_any}
use Rattle.chart.specs.Reports.{AreReports}
use Rattle.instances.specs.declared.end.End.{End}
use Rattle.instances.specs.declared.end.End.TheVariants.{TurnsSpent, Memory}
use Rattle.instances.specs.declared.outcome.Run.{Run}
use Rattle.instances.specs.declared.turn.Turn.{Turn}
use Rattle.texts.specs.Instances.{name_at}
use Rattle.schedule.specs.Outcomes.Outcomes.{OutcomeView, AreByLine}
use Rattle.schedule.specs.Plans.{Plan}
use Rattle.schedule_threads.specs.RunNotes.{lacks_memory, all_notes}

-- the outcome as a replay has it: names, chart, reports and notes; and the names of the instances whose turns were
-- spent
pub record RunView : Type 0 where
  pub outcome : OutcomeView
  pub spent : List (List ℕ)

-- the run has as many lines, traces and ends as the schedule has instances, and the reports of its chart's receives
pub record IsRunOf (plan : Plan) (run : Run) : Type 0 where
  pub lines : length run.gathered.chart ≡ length plan.names
  pub reports : AreReports run.gathered.chart run.gathered.reports.items
  pub traces : length run.traces.items ≡ length plan.names
  pub ends : length run.ends.items ≡ length plan.names

-- of the instances from number p on, which have these ends, the names of those whose turns were spent
abbrev pub spent_from : List (List ℕ) → ℕ → List End → List (List ℕ)
spent_from names p [] = []
spent_from names p (TurnsSpent ∷ ends) = name_at names p ∷ spent_from names (p + 1) ends
spent_from names p (_ ∷ ends) = spent_from names (p + 1) ends

-- an act of these turns had the answer that memory was refused
abbrev pub lacked_memory : List Turn → Bool
lacked_memory trace = list_any (λ (turn : Turn). lacks_memory turn.answer) trace

-- the trace's growth was refused
abbrev pub is_memory_end : End → Bool
is_memory_end Memory = true
is_memory_end _ = false

-- memory was refused to no instance
pub record HadMemory (run : Run) : Type 0 where
  pub acts : list_any lacked_memory run.traces.items ≡ false
  pub ends : list_any is_memory_end run.ends.items ≡ false

-- The outcome of a run of the schedule's scripts, in which the k-th trace and the k-th end are those of the k-th
-- instance. It has the chart and the reports that were gathered, the notes by line, and the instances whose turns were
-- spent. There is none if memory was refused.
pub record IsRunOutcome (plan : Plan) (run : Run) (o : RunView) : Type 0 where
  pub had_memory : HadMemory run
  pub names : o.outcome.names ≡ plan.names
  pub chart : o.outcome.chart ≡ run.gathered.chart
  pub reports : o.outcome.reports ≡ run.gathered.reports.items
  pub notes : AreByLine (all_notes plan.commands 1 run.traces.items) o.outcome.notes
  pub spent : o.spent ≡ spent_from plan.names 1 run.ends.items
