-- What is found for a run also holds for its chart.
use Rattle.std.proofs.Common.{ℕ, ◌≤◌, inl, inr, List, [], ◌≡◌, length, map, sym, ap, ◌∙◌, subst, subst₂, arith}
use Rattle.std.specs.Prelude.{None, All}
use Rattle.std.proofs.Math.Path.{fun_ext}
use Rattle.std.proofs.lemmas.Bool.{cases_lt}
use Rattle.chart.specs.declared.history.Occurrence.{Occurrence}
use Rattle.chart.specs.declared.line.TheConstants.{MAX_EVENTS}
use Rattle.chart.specs.Histories.{chart_of}
use Rattle.chart.specs.Charts.{Chart, LineView, Place, chart_lines}
use Rattle.chart.specs.HistoryLines.{history_lines}
use Rattle.chart.proofs.HistoryLines.{chart-is}
use Rattle.schedule_replay.specs.Recorded.{IsRecorded}
use Rattle.std.specs.List.{range_with_len}
use Rattle.reordering.specs.OtherRuns.OtherRuns.{IsRunWithin, IsOvertaken, CanBeOvertaken, CanBeOvertakenWithin}
use Rattle.schedule.specs.Meaning.{meaning}
use Rattle.schedule.specs.Plans.{Plan}
use Rattle.chart.specs.declared.run_steps.step.Step.{Step}
use Rattle.reordering.specs.Witness.Steps.{IsFound}
use Rattle.chart.specs.RunSteps.Steps.{history_of, IsOutside}
use Rattle.schedule_replay.specs.declared.reordered_runs.overtaking.Reordered.{Reordered}
use Rattle.schedule_replay.specs.declared.reordered_runs.overtaking.Reordered.TheVariants.{Run, Enforced}
use Rattle.schedule_replay.specs.ReorderedRuns.Runs.{IsLeastRun}
use Rattle.schedule_replay.specs.ReorderedRuns.Showing.{ShowsTurn}
use Rattle.schedule_replay.specs.ReorderedRuns.Reorderings.{TurnsRound, IsReordered}
use Rattle.schedule_replay.proofs.ReorderedRunsLemmas.Slots.{never_overtaken, overtaken-more, overtaken-most}

-- a run that was found reverses the pair
pub turns_round : (n k : ℕ) (c : Chart) (e r : Place) (steps : List Step) → IsRunWithin n k c (history_of steps) × IsOvertaken c (history_of steps) e r → All IsOutside steps → TurnsRound n k c e r steps
turns_round n k c e r steps (run, over) outside = record { run = run; overtaken = over; outside = outside }

-- if no run was found with k slots, there is none with fewer
pub none_with_fewer : (n k : ℕ) (h : List Occurrence) (e r : Place) → IsFound n k h e r None → (l : ℕ) → l ≤ k → CanBeOvertakenWithin n l (chart_of h) e r → ⊥
none_with_fewer n k h e r found l le over = never_overtaken n k (chart_of h) e r found (overtaken-more n l k (chart_of h) e r le over)

-- if none was found with as many slots as a line may have events, there is none at all
pub none_at_all : (n : ℕ) (h : List Occurrence) (e r : Place) → IsFound n MAX_EVENTS h e r None → CanBeOvertaken n (chart_of h) e r → ⊥
none_at_all n h e r found over = never_overtaken n MAX_EVENTS (chart_of h) e r found (overtaken-most n (chart_of h) e r over)

-- what is found for the run with the fewest slots holds for the chart
pub reordered_of_run : (n k : ℕ) (c : Chart) (e r : Place) (steps : List Step) (reordered : Reordered) → IsLeastRun n k c steps → IsReordered n k (chart_of (history_of steps)) e r reordered → IsReordered n 1 c e r reordered
reordered_of_run n k c e r steps reordered least found = go reordered (subst (λ d. IsReordered n k d e r reordered) (fun_ext least.chart_run.chart) found)
  where
    go : (x : Reordered) → IsReordered n k c e r x → IsReordered n 1 c e r x
    go (Run slots run) (turns, its) = (
      turns,
      record {
        begun = omega (arith, least.begun, its.begun);
        least = λ l low high possible over. elim (cases_lt l k) [
          | inl less ↦ least.least l low less possible
          | inr more ↦ its.least l more high possible over
        ];
      },
    )
    go Enforced none = none

-- a plan with these slots that means the run shows what was found
pub shows_turn : (n k : ℕ) (c : Chart) (e r : Place) (plan : Plan) (steps : List Step) → plan.capacity ≡ k → (meaning plan).run.history ≡ history_of steps → (meaning plan).notes ≡ [] → TurnsRound n k c e r steps → ShowsTurn n c e r plan
shows_turn n k c e r plan steps capacity history silent turns = record {
  run = subst₂ (λ l h. IsRunWithin n l c h) (sym capacity) (sym history) turns.run;
  overtaken = subst (λ h. IsOvertaken c h e r) (sym history) turns.overtaken;
  silent = silent;
}

-- the line of an instance in a chart
line_of : Chart → ℕ → LineView
line_of c p = record { instance = p; events = c p }

-- the chart of a schedule's recorded run is the schedule's
pub recorded_chart : (plan : Plan) (steps : List Step) → IsRecorded plan steps → chart_of (history_of steps) ≡ chart_lines (history_lines (length plan.names) (meaning plan).run.history)
unfolding line_of
recorded_chart plan steps recorded =
    chart-is (length plan.names) plan.capacity (history_of steps) recorded.legal ∙ ap (λ (c : Chart). chart_lines (map (line_of c) (range_with_len 1 (length plan.names)))) (fun_ext recorded.chart)
