use Rattle.std.proofs.Common.{◌≡◌, ◌<◌, ℕ}
use Rattle.std.specs.Prelude.{slice_get, Option, Some, true}
use Rattle.c_board.specs.declared.kept.Kept.{Kept}
use Rattle.c_board.specs.Opening.{kept_by}
use Rattle.c_board.specs.Chairs.{is_post}
use Rattle.c_board.proofs.taking.have_posts.Given as goal

abbrev pub invariant-loop-place : goal.invariant-loop-place
invariant-loop-place l = record {
  same : kept_by l.handles ≡ kept_by l.initial.handles;
  posts : (i : ℕ) (kept : Option Kept) → i < l.place → slice_get (kept_by l.initial.handles) i ≡ Some kept → is_post kept ≡ true;
}
