-- Posts of one board, whatever calls they made.
use Rattle.std.specs.Prelude.{◌≡◌, ℕ, List, slice_get, Some}
use Rattle.board.specs.Views.{BoardView, PostView}

abbrev pub AreAt : BoardView → List PostView → Type 0
AreAt board posts = (i : ℕ) (post : PostView) → slice_get posts i ≡ Some post → post.board ≡ board
