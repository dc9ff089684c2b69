-- Posts of one board: new posts, posts with its words, posts that remain when the last ones have left, and posts that
-- have met.
use Rattle.std.proofs.Common.{◌≡◌, ℕ, suc, zero, List, [], ◌∷◌, ◌++◌, refl, sym, ap, ◌∙◌, subst}
use Rattle.std.specs.Prelude.{slice_get, None, Some, map, Result, Ok, Err}
use Rattle.std.proofs.lemmas.Option.{slice_get_within}
use Rattle.chart.proofs.Places.{slice_get-append}
use Rattle.atomic_table.specs.Seated.{TableId}
use Rattle.board_table.specs.declared.shape.Shape.{Shape}
use Rattle.board.specs.declared.error.MeetError.{MeetError}
use Rattle.board.specs.Views.{BoardView, PostView}
use Rattle.board.specs.Boards.{AreNewPosts}
use Rattle.board.specs.Parked.{AreAtBoard}
use Rattle.board.specs.Meeting.{AreOfOneBoard, HaveMet, MeetsAll}

none_there : (y : PostView) → None ≡ Some y → ⊥
none_there y never = cc

some_one : (x y : PostView) → Some x ≡ Some y → x ≡ y
some_one x y same = cc

-- one of the posts is of the same board as this post
record HasFellow (posts : List PostView) (post : PostView) : Type 0 where
  place : ℕ
  fellow : PostView
  at : slice_get posts place ≡ Some fellow
  same : fellow.board ≡ post.board

fellows : (old new : List PostView) → ((i : ℕ) (y : PostView) → slice_get new i ≡ Some y → HasFellow old y) → AreOfOneBoard old → AreOfOneBoard new
fellows old new each one i j x y at_i at_j =
    let a = each i x at_i in
    let b = each j y at_j in
    sym a.same ∙ one a.place b.place a.fellow b.fellow a.at b.at ∙ b.same

-- the new posts of a board
pub one_board-new : (board : BoardView) (posts : List PostView) → AreNewPosts board posts → AreOfOneBoard posts
one_board-new board posts new i j x y at_i at_j = ap (λ (post : PostView). post.board) (new.each i x at_i) ∙ sym (ap (λ (post : PostView). post.board) (new.each j y at_j))

-- the last posts have left
pub one_board-front : (posts front left rest : List PostView) → posts ≡ left ++ rest → front ≡ left → AreOfOneBoard posts → AreOfOneBoard front
one_board-front posts front left rest whole same = fellows posts front (λ i y at.
    let there : slice_get left i ≡ Some y = subst (λ (xs : List PostView). slice_get xs i ≡ Some y) same at in
    record { place = i; fellow = y; at = ap (λ (xs : List PostView). slice_get xs i) whole ∙ slice_get-append left rest i (slice_get_within left i y there) ∙ there; same = refl })

mapped : (f : PostView → PostView) → ((x : PostView) → (f x).board ≡ x.board) → (posts : List PostView) (i : ℕ) (y : PostView) → slice_get (map f posts) i ≡ Some y → HasFellow posts y
mapped f keeps [] i y at = absurd (none_there y at)
mapped f keeps (x ∷ xs) zero y at = record { place = 0; fellow = x; at = refl; same = sym (keeps x) ∙ ap (λ (post : PostView). post.board) (some_one (f x) y at) }
mapped f keeps (x ∷ xs) (suc i) y at =
    let its = mapped f keeps xs i y at in
    record { place = suc its.place; fellow = its.fellow; at = its.at; same = its.same }

-- the posts have met
pub one_board-met : (old new : List PostView) → HaveMet old new → AreOfOneBoard old → AreOfOneBoard new
one_board-met old new met one = fellows old new (λ i y at. mapped (λ (post : PostView). record post { seen = met.history }) (λ x. refl) old i y (subst (λ (posts : List PostView). slice_get posts i ≡ Some y) met.seen at)) one

-- the posts meet, or are refused
pub one_board-meets : (old new : List PostView) (answer : Result (Unit {0}) MeetError) → MeetsAll old answer new → AreOfOneBoard old → AreOfOneBoard new
one_board-meets old new (Ok done) its one = one_board-met old new its.1 one
one_board-meets old new (Err error) its one = subst (λ (posts : List PostView). AreOfOneBoard posts) (sym its.1) one

-- posts with the same words are of one board
at_words : (key : Shape) (table : TableId) (b : BoardView) → b.table ≡ table → key.instances ≡ b.size → key.capacity ≡ b.capacity → b ≡ record { table = table; size = key.instances; capacity = key.capacity }
at_words key table b its size capacity =
    ap (λ (t : TableId). record { table = t; size = b.size; capacity = b.capacity }) its
    ∙ ap (λ (n : ℕ). record { table = table; size = n; capacity = b.capacity }) (sym size)
    ∙ ap (λ (k : ℕ). record { table = table; size = key.instances; capacity = k }) (sym capacity)

pub one_board-at : (key : Shape) (table : TableId) (posts : List PostView) → AreAtBoard key table posts → AreOfOneBoard posts
one_board-at key table posts all i j x y at_i at_j =
    let a = all i x at_i in
    let b = all j y at_j in
    at_words key table x.board a.table_is a.board.instances a.board.capacity ∙ sym (at_words key table y.board b.table_is b.board.instances b.board.capacity)
