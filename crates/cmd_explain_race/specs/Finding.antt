-- The search for the other order of two events.
use Rattle.std.specs.Prelude.{◌≡◌, ℕ, Bool, true, false, List, length, Result, Ok, Err}
use Rattle.std.specs.List.{list_any}
use Rattle.chart.specs.Charts.{chart_lines, IsPossible}
use Rattle.closure.specs.Faults.{place_of}
use Rattle.cmd_base.specs.declared.error.ProgramError.TheVariants as errors
use Rattle.cmd_base.specs.declared.source.Source.{Source}
use Rattle.cmd_base.specs.declared.source.Source.TheVariants.{Run, Written}
use Rattle.cmd_base.specs.Contents.{Named}
use Rattle.cmd_base.specs.Texts.{named_of}
use Rattle.reordering.specs.OtherRuns.OtherRuns.{CanBeOvertaken}
use Rattle.schedule.specs.declared.command.Action.{Action}
use Rattle.schedule.specs.declared.command.Action.TheVariants.{Send, Receive, Any, Close, Open, Shut}
use Rattle.schedule.specs.declared.command.Command.{Command}
use Rattle.schedule.specs.Plans.{Plan}
use Rattle.schedule_replay.specs.declared.reordered_runs.showing.Shown.{Shown}
use Rattle.schedule_replay.specs.declared.reordered_runs.showing.Shown.TheVariants as founds
use Rattle.cmd_base.specs.declared.pairs.error.PairError.{PairError}
use Rattle.cmd_base.specs.declared.pairs.error.PairError.TheVariants.{Program, ManySlots}
use Rattle.cmd_explain_race.specs.declared.finding.Found.{Found}
use Rattle.cmd_base.specs.declared.pairs.pair.Asked.{Asked}
use Rattle.cmd_base.specs.declared.pairs.pair.Pair.{Pair}
use Rattle.cmd_explain_race.specs.declared.verdict.Verdict.TheVariants.{Enforced}
use Rattle.cmd_explain_race.specs.declared.verdict.Witnessed.{Witnessed}
use Rattle.cmd_explain_race.specs.Explaining.{AreInOneRegion}
use Rattle.cmd_base.specs.Pairs.Pairs.{pair_of}
use Rattle.cmd_explain_race.specs.Reordering.{Origin, IsAskedFor, IsWitness, NeedsSlots}
use Rattle.cmd_explain_race.specs.Reordering.Origin.{recorded, from_chart}
use Rattle.cmd_explain_race.specs.Verdicts.{verdict_in}

-- the action closes a lane
abbrev pub is_close : Action → Bool
is_close (Send to name) = false
is_close (Receive from) = false
is_close Any = false
is_close (Close to) = true
is_close Open = false
is_close Shut = false

-- some command of a plan closes a lane
abbrev pub has_closes : Plan → Bool
has_closes plan = list_any (λ (c : Command). is_close c.action) plan.commands

-- the source of a witness: the accepted commands of a schedule, or a chart's lines as drawn
abbrev pub origin_of : Source → Origin
origin_of (Run schedule outcome) = recorded schedule.now
origin_of (Written named) = from_chart

-- whether the schedule has closes, which a witness leaves out
abbrev pub closes_in : Source → Bool
closes_in (Run schedule outcome) = has_closes schedule.now
closes_in (Written named) = false

-- the result for a pair of the chart: a witness; or no run reverses it; or each run that does needs this number of
-- slots
abbrev pub HasShown : Named → Origin → Pair → Shown → Type 0
HasShown named origin pair (founds.Replay plan) = IsWitness named origin pair plan
HasShown named origin pair founds.Enforced =
    CanBeOvertaken (length named.0) (chart_lines named.1) (place_of pair.earlier) (place_of pair.receive) → ⊥
HasShown named origin pair (founds.TooManySlots k) = NeedsSlots named origin pair k

-- the result was found for the pair, or memory ran out
abbrev pub IsFoundOf : Named → Origin → Pair → Result Found PairError → Type 0
IsFoundOf named origin pair (Ok found) = (found.pair ≡ pair) × HasShown named origin pair found.shown
IsFoundOf named origin pair (Err (Program errors.Memory)) = Unit {0}
IsFoundOf named origin pair (Err error) = ⊥

-- the result was found for the two events that the words name; or the chart isn't possible, there is no such pair, or
-- memory ran out
abbrev pub IsFound : Named → Origin → Asked → Result Found PairError → Type 0
IsFound named origin asked (Ok found) = (pair_of named.0 named.1 asked ≡ Ok found.pair)
    × IsPossible (length named.1) (chart_lines named.1) × HasShown named origin found.pair found.shown
IsFound named origin asked (Err error) = IsAskedFor named asked (Err error)

-- the verdict on the pair of the source's chart, by its result
abbrev pub IsJudged : Source → Pair → Shown → Result Witnessed PairError → Type 0
IsJudged source pair (founds.Replay plan) result = (hidden : Bool)
    × AreInOneRegion (chart_lines (named_of source).1) pair hidden
    × (result ≡ Ok (record { verdict = verdict_in hidden; has_closes = closes_in source }))
IsJudged source pair founds.Enforced result =
    result ≡ Ok (record { verdict = Enforced; has_closes = closes_in source })
IsJudged source pair (founds.TooManySlots k) result = result ≡ Err (ManySlots k)

abbrev pub Judges : Source → Found → Result Witnessed PairError → Type 0
Judges source found = IsJudged source found.pair found.shown
