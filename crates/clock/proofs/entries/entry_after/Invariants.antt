use Rattle.std.proofs.Common.{◌≡◌, take}
use Rattle.clock.specs.Clocks.{entry_of}
use Rattle.clock.specs.Diffs.{apply_diff}
use Rattle.clock.proofs.entries.entry_after.Given as goal

abbrev pub invariant-loop-change : goal.invariant-loop-change
invariant-loop-change l = l.entry ≡ entry_of (apply_diff l.entries (take l.change-index l.changes)) l.p
