-- The effect of gathering posts that were taken out of handles.
use Rattle.std.proofs.Common.{◌≡◌, ℕ, List, [], length, map, sym, ap, ◌∙◌, subst, arith}
use Rattle.std.specs.Prelude.{slice_get, IsErrAnd, Option, None, Some, Ok, Err, Result}
use Rattle.chart.proofs.HistoryLines.{length-history_lines}
use Rattle.board.specs.declared.error.GatherCause.{GatherCause}
use Rattle.board.specs.declared.error.GatherCause.TheVariants as cause
use Rattle.board.specs.declared.gathering.Gathered.{Gathered}
use Rattle.board.specs.Views.{BoardView, PostView}
use Rattle.board.specs.Meeting.{AreOfOneBoard, AreNotAll}
use Rattle.board.specs.Gathering.{left_view, closed_view, size_of, IsWhole}
use Rattle.board.specs.LongRuns.CarriedHistories.{WereLeft}
use Rattle.board.proofs.LongRunsLemmas.CarriedOver.{gathered_left}
use Rattle.c_board.specs.declared.kept.Kept.{Kept}
use Rattle.c_board.specs.declared.kept.Kept.TheVariants.{Post}
use Rattle.c_board.specs.declared.gathering.GatherRefusal.{GatherRefusal}
use Rattle.c_board.specs.declared.taking.TakingError.{TakingError}
use Rattle.c_board.specs.declared.taking.TakingError.TheVariants as taking
use Rattle.c_board.specs.declared.chair.Chair.{Chair}
use Rattle.c_board.specs.Chairs.{AreFit, seats_with, kept_seats, posts_of, HaveOneNumber, TakesPosts}
use Rattle.c_board.specs.Gathering.{Gathers, IsUngathered, LackPosts, refusal_of_taking, refusal_of_cause}
use Rattle.c_board.specs.PostStates.{PostStateView}
use Rattle.c_board.proofs.Lists.{first_of}
use Rattle.c_board.proofs.ChairLemmas.{length-seats, length-fit}

-- no posts are of one board, and posts are missing
pub none_one : (olds : List (Option Kept)) → olds ≡ [] → HaveOneNumber olds
none_one olds none i j x y at_i at_j = absurd (never (sym (ap (λ (xs : List (Option Kept)). slice_get xs i) none) ∙ at_i))
  where
    never : {X : Type 0} {a : X} → None ≡ Some a → ⊥
    never e = cc

pub none_lack : (olds : List (Option Kept)) → olds ≡ [] → LackPosts olds
none_lack olds none = record { seats = []; kept = none; lacking = tt }

-- the posts weren't taken out
untaken : (error : TakingError) (olds news : List (Option Kept)) (board : Option Kept) → board ≡ None → TakesPosts olds (Err error) news → Gathers olds board (Err (refusal_of_taking error)) news board
untaken taking.NoHandles olds news board none its = (record { same = its.0; vacant = none; unmade = none }, none_lack olds its.1, none_one olds its.1)
untaken taking.NoPost olds news board none its = (record { same = its.0; vacant = none; unmade = none }, its.1)
untaken taking.Memory olds news board none its = record { same = its.0; vacant = none; unmade = none }
untaken taking.OtherBoard olds news board none its = (record { same = its.0; vacant = none; unmade = none }, its.1.0, its.1.1)

pub gather_refused : (olds news : List (Option Kept)) (board : Option Kept) (result : Result (Unit {0}) GatherRefusal) (error : TakingError) → IsErrAnd result (λ e. e ≡ refusal_of_taking error) → board ≡ None → TakesPosts olds (Err error) news
    → Gathers olds board result news board
gather_refused olds news board (Ok done) error never none its = absurd never
gather_refused olds news board (Err e) error same none its = subst (λ (x : GatherRefusal). Gathers olds board (Err x) news board) (sym same) (untaken error olds news board none its)

-- the posts are where they were
pub back_again : (why_not : GatherCause) (olds news : List (Option Kept)) (board : Option Kept) (seats : List PostStateView) (posts : List PostView) → olds ≡ kept_seats seats → posts_of seats ≡ posts
    → HaveOneNumber olds → IsUngathered posts why_not → news ≡ olds → board ≡ None → Gathers olds board (Err (refusal_of_cause why_not)) news board
back_again cause.NotAllPosts olds news board seats posts kept of one its same none = (record { same = same; vacant = none; unmade = none }, record { seats = seats; kept = kept; lacking = subst AreNotAll (sym of) its }, one)
back_again cause.Memory olds news board seats posts kept of one its same none = record { same = same; vacant = none; unmade = none }

-- handles that keep something keep posts
pub some_posts : (olds : List (Option Kept)) (chairs : List Chair) (posts : List PostView) → (length olds ≡ 0 → ⊥) → olds ≡ kept_seats (seats_with chairs posts) → AreFit chairs posts → length posts ≡ 0 → ⊥
some_posts olds chairs posts some seats fit none = some (ap length seats ∙ length-seats chairs posts fit ∙ sym (length-fit chairs posts fit) ∙ none)

-- all lanes have as many slots as those of the first post
pub slots_same : (posts : List PostView) (k : ℕ) → AreOfOneBoard posts → (length posts ≡ 0 → ⊥) → ((post : PostView) → slice_get posts 0 ≡ Some post → post.board.capacity ≡ k)
    → (i : ℕ) (post : PostView) → slice_get posts i ≡ Some post → post.board.capacity ≡ k
slots_same posts k one some slots i post at =
    let first = first_of posts some in
    ap (λ (b : BoardView). b.capacity) (one i 0 post first.0 at first.1) ∙ slots first.0 first.1

-- what was gathered was left on such lanes
pub whole_left : (posts : List PostView) (it : Gathered) (k : ℕ) → IsWhole posts it → ((i : ℕ) (post : PostView) → slice_get posts i ≡ Some post → post.board.capacity ≡ k)
    → WereLeft (length it.chart) k (map left_view it.left.items) (map closed_view it.closed.items)
whole_left posts it k whole slots = subst (λ (n : ℕ). WereLeft n k (map left_view it.left.items) (map closed_view it.closed.items))
    (sym (ap length whole.gathered.chart ∙ length-history_lines (size_of posts) whole.history))
    (gathered_left posts it k whole (λ i post at. omega (arith, slots i post at)))
