-- Posts without their board's words, and the board where they are woken (this project's profile).
use Rattle.std.specs.Prelude.{◌≡◌, ℕ, List, slice_get, Some}
use Rattle.atomic_table.specs.Seated.{TableId}
use Rattle.board_table.specs.declared.shape.Shape.{Shape}
use Rattle.board_table.specs.Layout.{IsBoard}
use Rattle.board.specs.Known.{IsSized}
use Rattle.board.specs.Views.{PostView}
use Rattle.board.specs.Boards.{AreNewPosts}

-- the post is one of the board that has these words
pub record IsAtBoard (key : Shape) (table : TableId) (post : PostView) : Type 0 where
  pub table_is : post.board.table ≡ table
  pub board : IsBoard post.board.size post.board.capacity key table

-- all of them are
abbrev pub AreAtBoard : Shape → TableId → List PostView → Type 0
AreAtBoard key table posts = (i : ℕ) (post : PostView) → slice_get posts i ≡ Some post → IsAtBoard key table post

-- all posts of a new board of this size, which has these words, before their first calls
pub record AreOpened (n k : ℕ) (key : Shape) (table : TableId) (posts : List PostView) : Type 0 where
  pub sized : IsSized n k
  pub new : AreNewPosts (record { table = table; size = n; capacity = k }) posts
  pub at : AreAtBoard key table posts
