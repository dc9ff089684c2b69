-- The reversal of a pair of events, and the text of its witness.
use Rattle.std.specs.Prelude.{◌≡◌, ℕ, ◌<◌, true, false, List, length, Option, Result, Ok, Err}
use Rattle.chart.specs.Charts.{Chart, chart_lines, IsPossible}
use Rattle.closure.specs.Faults.{place_of}
use Rattle.texts.specs.Outs.{Sink}
use Rattle.texts.specs.Writing.{Puts, Breaks}
use Rattle.reordering.specs.OtherRuns.OtherRuns.{CanBeOvertaken, CanBeOvertakenWithin}
use Rattle.chart.specs.declared.history.TheConstants.{MAX_CAPACITY}
use Rattle.schedule.specs.Plans.{Plan}
use Rattle.schedule.specs.ScheduleText.{schedule_text}
use Rattle.cmd_base.specs.declared.error.ProgramError.TheVariants as errors
use Rattle.cmd_base.specs.Contents.{Named, IsRefused}
use Rattle.schedule_replay.specs.Recorded.{IsRecorded}
use Rattle.schedule_replay.specs.ReorderedRuns.Runs.{IsLeastRun}
use Rattle.schedule_replay.specs.ReorderedRuns.Schedules.{commands_of}
use Rattle.schedule_replay.specs.ReorderedRuns.Showing.{ShowsTurn}
use Rattle.schedule_replay.specs.ReorderedRuns.Reorderings.{IsLeastTurn, IsKept}
use Rattle.schedule_replay.specs.declared.reordered_runs.scheduling.TheConstants.{FIRST_LINE}
use Rattle.schedule_replay.specs.declared.reordered_runs.overtaking.Reordered.{Reordered}
use Rattle.reordering.specs.Witness.Orders.{IsInOrder}
use Rattle.chart.specs.declared.run_steps.step.Step.{Step}
use Rattle.cmd_base.specs.declared.pairs.error.PairError.{PairError}
use Rattle.cmd_base.specs.declared.pairs.error.PairError.TheVariants.{Program, ManySlots}
use Rattle.cmd_base.specs.declared.pairs.pair.Asked.{Asked}
use Rattle.cmd_base.specs.declared.pairs.pair.Pair.{Pair}
use Rattle.cmd_explain_race.specs.declared.verdict.Verdict.{Verdict}
use Rattle.cmd_explain_race.specs.declared.verdict.Verdict.TheVariants.{Enforced, Race, Hidden}
use Rattle.cmd_explain_race.specs.Explaining.{AreInOneRegion}
use Rattle.cmd_base.specs.Pairs.Pairs.{pair_of}

-- the two events of a possible chart that the words name
abbrev pub IsAskedFor : Named → Asked → Result Pair PairError → Type 0
IsAskedFor named asked (Ok pair) = (pair_of named.0 named.1 asked ≡ Ok pair)
    × IsPossible (length named.1) (chart_lines named.1)
IsAskedFor named asked (Err (Program errors.Memory)) = Unit {0}
IsAskedFor named asked (Err (Program error)) = IsRefused error named
IsAskedFor named asked (Err error) = (pair_of named.0 named.1 asked ≡ Err error)
    × IsPossible (length named.1) (chart_lines named.1)

-- the source of a witness: the run of a schedule's accepted commands, or a run of the chart's lines as drawn
pub data Origin : Type 0 where
  recorded : Plan → Origin
  from_chart : Origin

-- the least number of slots that a witness may have
abbrev pub first_of : Origin → ℕ
first_of (recorded plan) = plan.capacity
first_of from_chart = 1

-- the steps are a run from this source; for a chart it is a run over the fewest slots
abbrev pub IsFrom : Named → Origin → List Step → Type 0
IsFrom named (recorded plan) steps = IsRecorded plan steps
IsFrom named from_chart steps = (k : ℕ) × IsLeastRun (length named.1) k (chart_lines named.1) steps

-- the result has first the steps of such a run that have to come with the pair's receive, and then the others; both
-- keep the order of that run
abbrev pub IsKeptFrom : Named → Origin → Pair → Reordered → Type 0
IsKeptFrom named origin pair reordered = (steps : List Step) × IsFrom named origin steps
    × IsKept steps (place_of pair.receive) reordered

-- the same for the plan's commands
abbrev pub IsOrdered : Named → Origin → Pair → Plan → Type 0
IsOrdered named origin pair plan = (steps : List Step) × (run : List Step) × IsFrom named origin steps
    × IsInOrder plan.capacity steps (place_of pair.receive) run × (plan.commands ≡ commands_of FIRST_LINE run)

-- The plan has these instances, refuses nothing, and describes a run of the chart's events and causes. In this run the
-- pair's receive comes before its earlier event. The number of slots is the least. The events that needn't come with
-- the receive keep their order.
abbrev pub IsWitness : Named → Origin → Pair → Plan → Type 0
IsWitness (names, lines) origin pair plan = (plan.names ≡ names)
    × ShowsTurn (length names) (chart_lines lines) (place_of pair.earlier) (place_of pair.receive) plan
    × IsLeastTurn (length names) (first_of origin) plan.capacity (chart_lines lines)
    (place_of pair.earlier) (place_of pair.receive)
    × IsOrdered (names, lines) origin pair plan

-- such a run needs at least k slots, more than lanes may have
abbrev pub NeedsSlots : Named → Origin → Pair → ℕ → Type 0
NeedsSlots (names, lines) origin pair k = (MAX_CAPACITY < k)
    × CanBeOvertakenWithin (length names) k (chart_lines lines) (place_of pair.earlier) (place_of pair.receive)
    × IsLeastTurn (length names) (first_of origin) k (chart_lines lines)
    (place_of pair.earlier) (place_of pair.receive)

module _ {S : Type 0} (sink : S → Sink) where
  -- for a pair of the chart, the text of a witness was written, or a beginning of it, if a put failed; or nothing, if
  -- no run reverses the pair, each needs too many slots, or memory ran out
  abbrev pub Shows : S → S → Result Verdict PairError → Named → Origin → Pair → Type 0
  Shows old new (Ok Enforced) named origin pair =
      (CanBeOvertaken (length named.0) (chart_lines named.1) (place_of pair.earlier) (place_of pair.receive) → ⊥)
      × (new ≡ old)
  Shows old new (Ok Race) named origin pair = (plan : Plan) × IsWitness named origin pair plan
      × AreInOneRegion (chart_lines named.1) pair false × Puts sink old new (schedule_text plan)
  Shows old new (Ok Hidden) named origin pair = (plan : Plan) × IsWitness named origin pair plan
      × AreInOneRegion (chart_lines named.1) pair true × Puts sink old new (schedule_text plan)
  Shows old new (Err (Program errors.Memory)) named origin pair = new ≡ old
  Shows old new (Err (Program errors.Write)) named origin pair =
      (plan : Plan) × IsWitness named origin pair plan × Breaks sink old new (schedule_text plan)
  Shows old new (Err (ManySlots k)) named origin pair = NeedsSlots named origin pair k × (new ≡ old)
  Shows old new (Err error) named origin pair = ⊥
