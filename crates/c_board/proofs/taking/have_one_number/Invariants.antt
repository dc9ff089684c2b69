use Rattle.std.proofs.Common.{◌≡◌, ◌<◌, ℕ}
use Rattle.std.specs.Prelude.{slice_get, Some}
use Rattle.c_board.specs.declared.chair.Chair.{Chair}
use Rattle.c_board.proofs.taking.have_one_number.Given as goal

abbrev pub invariant-loop-chair : goal.invariant-loop-chair
invariant-loop-chair l = (i : ℕ) (first chair : Chair) → i < l.chair-index → slice_get l.chairs 0 ≡ Some first → slice_get l.chairs i ≡ Some chair → first.board_number ≡ chair.board_number
