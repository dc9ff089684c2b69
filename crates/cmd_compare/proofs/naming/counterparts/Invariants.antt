use Rattle.std.proofs.Common.{◌≡◌, ℕ, List, length, Some}
use Rattle.std.specs.Prelude.{slice_get}
use Rattle.chart.specs.Names.{instance_of}
use Rattle.cmd_compare.proofs.naming.counterparts.Given as goal

abbrev pub invariant-loop-place : goal.invariant-loop-place
invariant-loop-place l = (length l.others.items ≡ l.place) × ((i p : ℕ) → slice_get l.others.items i ≡ Some p → (w : List ℕ) → slice_get l.names i ≡ Some w → instance_of l.other_names w ≡ Some p)
