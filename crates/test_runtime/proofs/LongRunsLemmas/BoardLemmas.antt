-- Posts of a board, gathered, and new posts that take over what was left.
use Rattle.std.proofs.Common.{◌≡◌, ℕ, zero, suc, ◌<◌, ◌≤◌, ◌⊎◌, inl, inr, List, [], ◌∷◌, length, ◌++◌, map, take, drop, set, get_or, refl, sym, ap, ◌∙◌, subst, subst₂, arith}
use Rattle.std.specs.Prelude.{slice_get, None, Some, Result, Ok, IfOk}
use Rattle.std.proofs.lemmas.Option.{slice_get-get_or}
use Rattle.board.specs.declared.gathering.Gathered.{Gathered}
use Rattle.board.specs.Views.{BoardView, PostView}
use Rattle.board.specs.declared.error.BoardError.{BoardError}
use Rattle.board.specs.declared.gathering.ClosedLane.{ClosedLane}
use Rattle.board.specs.Boards.{BoardState, IsNewBoard, MakesBoard, AreNewPosts}
use Rattle.board.specs.Meeting.{AreOfOneBoard}
use Rattle.board.specs.Gathering.{LaneEnds, LeftView, left_view, closed_view, size_of, IsWhole}
use Rattle.board.proofs.Meetings.{at_within, one_ahead}
use Rattle.board.proofs.PostLemmas.{at_set}
use Rattle.board.specs.LongRuns.CarriedHistories.{WereLeft}
use Rattle.board.specs.LongRuns.CarryingOver.{HaveCarried, MayAllCarry}
use Rattle.board.proofs.LongRunsLemmas.CarriedOver.{first_left, gathered_left}
use Rattle.test_runtime.specs.LongRuns.Boards.{AreAt}

none_there : {X : Type 0} (x : X) → None ≡ Some x → ⊥
none_there x never = cc

pub at_new : (board : BoardView) (posts : List PostView) → AreNewPosts board posts → AreAt board posts
at_new board posts new i post at = ap (λ (x : PostView). x.board) (new.each i post at)

pub one_at : (board : BoardView) (posts : List PostView) → AreAt board posts → AreOfOneBoard posts
one_at board posts at i j x y at_x at_y = at i x at_x ∙ sym (at j y at_y)

pub whole_left : (board : BoardView) (posts : List PostView) (it : Gathered) → AreAt board posts → IsWhole posts it → WereLeft board.size board.capacity (map left_view it.left.items) (map closed_view it.closed.items)
whole_left board [] it at whole = absurd whole.all
whole_left board (x ∷ posts) it at whole =
    let its : x.board ≡ board = at 0 x refl in
    subst (λ (n : ℕ). WereLeft n board.capacity (map left_view it.left.items) (map closed_view it.closed.items)) (ap (λ (b : BoardView). b.size) its)
    (gathered_left (x ∷ posts) it board.capacity whole (λ i post there. let same = ap (λ (b : BoardView). b.capacity) (at i post there) in omega (arith, same)))

pub carried_at : (board : BoardView) (left : List LeftView) (closed : List LaneEnds) (old new : List PostView) → AreNewPosts board old → HaveCarried left closed old new → AreAt board new
carried_at board left closed old new fresh carried i y at_y =
    let within : i < length old = let lt = at_within new i y at_y in omega (arith, lt, carried.as_many) in
    let x : PostView = get_or old i y in
    let at_x : slice_get old i ≡ Some x = slice_get-get_or old i y within in
    (carried.each i x y at_x at_y).same.board ∙ at_new board old fresh i x at_x

-- after a call of one post all posts are at their board
pub at_put : (board : BoardView) (posts : List PostView) (i : ℕ) (d y : PostView) → AreAt board posts → i < length posts → y.board ≡ (get_or posts i d).board → AreAt board (set posts i y)
at_put board posts i d y at within same j z there = go (at_set posts i j y z there)
  where
    go : ((j ≡ i) × (y ≡ z)) ⊎ ((j ≡ i → ⊥) × (slice_get posts j ≡ Some z)) → z.board ≡ board
    go (inl (here, new)) = ap (λ (x : PostView). x.board) (sym new) ∙ same ∙ at i (get_or posts i d) (slice_get-get_or posts i d within)
    go (inr (ne, old)) = at j z old

-- each of the first posts is one of the posts
pub among_first : (posts : List PostView) (many i : ℕ) (x : PostView) → slice_get (take many posts) i ≡ Some x → slice_get posts i ≡ Some x
among_first posts zero i x at = absurd (none_there x at)
among_first [] (suc many) i x at = absurd (none_there x at)
among_first (y ∷ posts) (suc many) zero x at = at
among_first (y ∷ posts) (suc many) (suc i) x at = among_first posts many i x at

pub first_one : (posts : List PostView) (many : ℕ) → AreOfOneBoard posts → AreOfOneBoard (take many posts)
first_one posts many one i j x y at_x at_y = one i j x y (among_first posts many i x at_x) (among_first posts many j y at_y)

pub first_may : (posts : List PostView) (many : ℕ) (left : List LeftView) (closed : List LaneEnds) → MayAllCarry left closed posts → MayAllCarry left closed (take many posts)
first_may posts many left closed may i x at = may i x (among_first posts many i x at)

-- a property of the answer, if the call wasn't refused
pub ok_is : {A E : Type 0} (P : A → Type 0) (r : Result A E) (a : A) → IfOk r P → r ≡ Ok a → P a
ok_is P r a its same = subst (λ x. IfOk x P) same its

pub made_new : (n k : ℕ) (r : Result BoardState BoardError) (b : BoardState) → MakesBoard n k r → r ≡ Ok b → IsNewBoard n k b
made_new n k r b made same = subst (λ x. MakesBoard n k x) same made

-- the posts of a new board may take over what was left
pub may_carry : (n k : ℕ) (b : BoardState) (posts slice : List PostView) (left : List LeftView) (closed shut : List ClosedLane) → IsNewBoard n k b → AreNewPosts b.board posts → slice ≡ posts → shut ≡ closed → WereLeft n k left (map closed_view closed)
    → (x : BoardView) × AreNewPosts x slice × WereLeft x.size x.capacity left (map closed_view shut)
may_carry n k b posts slice left closed shut new fresh same same_closed were = (
  b.board,
  subst (λ (ps : List PostView). AreNewPosts b.board ps) (sym same) fresh,
  subst₂ (λ x y. WereLeft x y left (map closed_view shut)) (sym new.size) (sym new.capacity) (subst (λ (cs : List ClosedLane). WereLeft n k left (map closed_view cs)) (sym same_closed) were),
)

pub sized : (n k : ℕ) (b : BoardState) (left : List LeftView) (closed : List LaneEnds) → IsNewBoard n k b → WereLeft b.board.size b.board.capacity left closed → WereLeft n k left closed
sized n k b left closed new were = subst₂ (λ x y. WereLeft x y left closed) new.size new.capacity were

-- posts of one board, some of which were overwritten by other posts of this board
append_at : (board : BoardView) (xs ys : List PostView) → AreAt board xs → AreAt board ys → AreAt board (xs ++ ys)
append_at board [] ys at_xs at_ys i post there = at_ys i post there
append_at board (x ∷ xs) ys at_xs at_ys zero post there = at_xs 0 post there
append_at board (x ∷ xs) ys at_xs at_ys (suc i) post there = append_at board xs ys (λ j z its. at_xs (suc j) z its) at_ys i post there

drop_at : (board : BoardView) (many : ℕ) (xs : List PostView) → AreAt board xs → AreAt board (drop many xs)
drop_at board zero xs at i post there = at i post there
drop_at board (suc many) [] at i post there = absurd (none_there post there)
drop_at board (suc many) (x ∷ xs) at i post there = drop_at board many xs (λ j z its. at (suc j) z its) i post there

pub written_at : (board : BoardView) (len many : ℕ) (old new : List PostView) → AreAt board old → AreAt board new → AreAt board (take len (new ++ drop many old))
written_at board len many old new at_old at_new i post there = append_at board new (drop many old) at_new (drop_at board many old at_old) i post (among_first (new ++ drop many old) len i post there)
