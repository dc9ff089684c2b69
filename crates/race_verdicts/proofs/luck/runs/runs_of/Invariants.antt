use Rattle.std.proofs.Common.{◌≡◌, ◌≤◌, length}
use Rattle.race_verdicts.specs.Luck.Runs.{HaveRuns}
use Rattle.race_verdicts.proofs.luck.runs.runs_of.Given as goal

abbrev pub invariant-items : goal.invariant-items
invariant-items l = record {
  within : l.place ≤ length l.items;
  whole : length l.runs ≡ length l.items;
  have : HaveRuns l.items l.runs l.place;
}

abbrev pub decreases-items : goal.decreases-items
decreases-items l = l.place
