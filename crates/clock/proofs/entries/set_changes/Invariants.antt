use Rattle.std.proofs.Common.{◌≡◌, drop}
use Rattle.clock.specs.Diffs.{apply_diff}
use Rattle.clock.proofs.entries.set_changes.Given as goal

abbrev pub invariant-loop-change : goal.invariant-loop-change
invariant-loop-change l = apply_diff l.entries (drop l.change-index l.changes) ≡ apply_diff l.initial.entries l.changes
