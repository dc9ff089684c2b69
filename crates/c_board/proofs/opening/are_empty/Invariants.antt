use Rattle.std.proofs.Common.{◌≡◌, ◌<◌, ℕ}
use Rattle.std.specs.Prelude.{slice_get, Option, None, Some}
use Rattle.c_board.specs.declared.kept.Kept.{Kept}
use Rattle.c_board.specs.Opening.{kept_by}
use Rattle.c_board.proofs.opening.are_empty.Given as goal

abbrev pub invariant-loop-handle : goal.invariant-loop-handle
invariant-loop-handle l = (i : ℕ) (kept : Option Kept) → i < l.handle-index → slice_get (kept_by l.handles) i ≡ Some kept → kept ≡ None
