use Rattle.std.proofs.Common.{◌≡◌, ◌++◌, ◌≤◌, ℕ, List, length, drop}
use Rattle.std.specs.Prelude.{slice_get, Some}
use Rattle.chart.specs.Names.{IsName}
use Rattle.c_board.specs.Boards.Naming.{words_in}
use Rattle.c_board.proofs.boards.naming.names_in.Given as goal

abbrev pub invariant-loop-many : goal.invariant-loop-many
invariant-loop-many l = record {
  splits : words_in l.bytes l.lengths ≡ l.names ++ words_in (drop l.start l.bytes) (drop l.many-index l.lengths);
  within : l.start ≤ length l.bytes;
  names : (i : ℕ) (name : List ℕ) → slice_get l.names i ≡ Some name → IsName name;
  count : length l.names ≡ l.many-index;
}
