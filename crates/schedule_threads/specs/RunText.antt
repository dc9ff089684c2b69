-- The text of a run's outcome (this project's profile).
use Rattle.std.specs.Prelude.{ℕ, List, ◌++◌, codes}
use Rattle.std.specs.List.{flat_map}
use Rattle.schedule.specs.Outcomes.OutcomeText.{outcome_text}
use Rattle.schedule_threads.specs.RunOutcomes.{RunView}

-- spent NAME
unfoldable pub spent_text : List ℕ → List ℕ
spent_text name = codes "spent " ++ (name ++ codes "\n")

-- the text of a replay's outcome, and then a line for each instance whose turns were spent
unfoldable pub run_text : RunView → List ℕ
run_text o = outcome_text o.outcome ++ flat_map spent_text o.spent
