-- Posts at their board's words, one after another.
use Rattle.std.proofs.Common.{◌≡◌, ℕ, ◌<◌, ⊎_elim, List, [], ◌∷◌, ◌++◌, length, get_or, set, refl, sym, ap, ◌∙◌, subst}
use Rattle.std.proofs.lemmas.Option.{slice_get-get_or}
use Rattle.std.specs.Prelude.{slice_get, Some}
use Rattle.atomic_table.specs.Seated.{TableId}
use Rattle.board_table.specs.declared.shape.Shape.{Shape}
use Rattle.board_table.specs.Layout.{IsBoard}
use Rattle.board.specs.Views.{BoardView, PostView, Sound}
use Rattle.board.specs.Parked.{IsAtBoard, AreAtBoard}
use Rattle.board.proofs.PostLemmas.{at_set}

middle : (done : List PostView) (post : PostView) (rest : List PostView) → slice_get (done ++ post ∷ rest) (length done) ≡ Some post
middle [] post rest = refl
middle (x ∷ done) post rest = middle done post rest

-- the next of these posts is at the board too
pub next_at : (key : Shape) (table : TableId) (posts done left rest : List PostView) (post : PostView) → AreAtBoard key table posts → done ++ left ≡ posts → left ≡ post ∷ rest → IsAtBoard key table post
next_at key table posts done left rest post all whole next = all (length done) post (subst (λ (xs : List PostView). slice_get xs (length done) ≡ Some post) (ap (λ (xs : List PostView). done ++ xs) (sym next) ∙ whole) (middle done post rest))

-- a post stays at its board
pub stays_at : (key : Shape) (table : TableId) (old new : PostView) → Sound old new → IsAtBoard key table old → IsAtBoard key table new
stays_at key table old new sound at = record {
  table_is = ap (λ (b : BoardView). b.table) sound.same.board ∙ at.table_is;
  board = subst (λ (b : BoardView). IsBoard b.size b.capacity key table) (sym sound.same.board) at.board;
}

-- one of several posts that are at their board is too
pub at_index : (key : Shape) (table : TableId) (posts : List PostView) (i : ℕ) (d : PostView) → AreAtBoard key table posts → i < length posts → IsAtBoard key table (get_or posts i d)
at_index key table posts i d all within = all i (get_or posts i d) (slice_get-get_or posts i d within)

pub at_put : (key : Shape) (table : TableId) (posts : List PostView) (j : ℕ) (post : PostView) → AreAtBoard key table posts → IsAtBoard key table post → AreAtBoard key table (set posts j post)
at_put key table posts j post all its i x at = ⊎_elim (λ here. subst (IsAtBoard key table) here.1 its) (λ other. all i x other.1) (at_set posts j i post x at)
