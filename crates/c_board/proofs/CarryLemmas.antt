-- Carrying over to posts that were taken out of handles.
use Rattle.std.proofs.Common.{◌≡◌, ℕ, suc, List, [], ◌∷◌, length, map, refl, sym, ap, ◌∙◌, subst, arith}
use Rattle.std.specs.Global.{Vec}
use Rattle.std.specs.Prelude.{slice_get, true, false, unwrap_or, IsErrAnd, Option, None, Some, Ok, Err, Result}
use Rattle.board_table.specs.Layout.{IsBoard}
use Rattle.board.specs.declared.answer.Arrival.{Arrival}
use Rattle.board.specs.declared.gathering.ClosedLane.{ClosedLane}
use Rattle.board.specs.declared.gathering.Gathered.{Gathered}
use Rattle.board.specs.declared.gathering.Left.{Left}
use Rattle.board.specs.Views.{BoardView, PostView}
use Rattle.board.specs.Meeting.{AreNotAll}
use Rattle.board.specs.declared.long_runs.carrying.Carried.{Carried}
use Rattle.board.specs.declared.long_runs.carrying.CarryCause.{CarryCause}
use Rattle.board.specs.declared.long_runs.carrying.CarryCause.TheVariants as cause
use Rattle.board.specs.declared.long_runs.carrying.CarryError.{CarryError}
use Rattle.board.specs.Gathering.{LeftView, LaneEnds, left_view, closed_view}
use Rattle.board.specs.LongRuns.CarriedHistories.{WereLeft}
use Rattle.board.specs.LongRuns.CarryingOver.{IsUntouched, MayAllCarry, CarriesOver, HasMoreRoom, HaveMoreRoom}
use Rattle.board.proofs.LongRunsLemmas.CarriedOver.{first_left}
use Rattle.c_board.specs.Came.{came_list}
use Rattle.c_board.specs.declared.chair.Chair.{Chair}
use Rattle.c_board.specs.declared.chair.Taken.{Taken}
use Rattle.c_board.specs.declared.kept.Kept.{Kept}
use Rattle.c_board.specs.declared.kept.Kept.TheVariants.{Post, Board, Away}
use Rattle.c_board.specs.declared.board_number.BoardNumber.{BoardNumber}
use Rattle.c_board.specs.declared.carrying.CarryRefusal.{CarryRefusal}
use Rattle.c_board.specs.declared.carrying.CarryRefusal.TheVariants as why
use Rattle.c_board.specs.declared.carrying.FitError.{FitError}
use Rattle.c_board.specs.declared.carrying.FitError.TheVariants as fitting
use Rattle.c_board.specs.declared.carrying.Misfit.{Misfit}
use Rattle.c_board.specs.declared.carrying.Misfit.TheVariants.{Size, Used}
use Rattle.c_board.specs.declared.taking.TakingError.{TakingError}
use Rattle.c_board.specs.declared.taking.TakingError.TheVariants as taking
use Rattle.c_board.specs.Chairs.{Fits, AreFit, seats_with, kept_seats, posts_of, KeepPosts, HaveOneNumber, TakesPosts}
use Rattle.c_board.specs.Carrying.{AreEach, IsOneNot, IsAsLarge, MayTakeOver, KeepAll, IsUncarried, AreSeats, HaveRoomOver, Carries, CarriesParked, ChecksFit, TakesFit, IsUnborne, refusal_of_fit, refusal_of_cause}
use Rattle.c_board.specs.Copying.{put_over}
use Rattle.c_board.specs.PostStates.{PostStateView}
use Rattle.c_board.specs.Wholes.{WholeView}
use Rattle.c_board.proofs.ChairLemmas.{posts-same}
use Rattle.c_board.proofs.GatherLemmas.{none_one}

some_same : {X : Type 0} (x y : X) → Some x ≡ Some y → x ≡ y
some_same x y e = cc

none_there : {X : Type 0} (x : X) → None ≡ Some x → ⊥
none_there x e = cc

one_room : (x y : PostView) → y ≡ x → HasMoreRoom x y
one_room x y same = subst (HasMoreRoom x) (sym same) (record { rest = refl; room = omega arith })

-- nothing has changed
pub more_same : (posts : List PostView) → HaveMoreRoom posts posts
more_same posts = record { as_many = refl; each = λ i x y at_x at_y. one_room x y (some_same y x (sym at_y ∙ at_x)) }

-- posts at the same boards fit the same seats
fit-boards : (chairs : List Chair) (posts new : List PostView) → AreFit chairs posts → length new ≡ length posts
    → ((i : ℕ) (x y : PostView) → slice_get posts i ≡ Some x → slice_get new i ≡ Some y → y.board ≡ x.board) → AreFit chairs new
fit-boards [] [] [] fit many boards = tt
fit-boards [] [] (y ∷ new) fit many boards = absurd (omega (arith, many))
fit-boards [] (x ∷ posts) new fit many boards = absurd fit
fit-boards (c ∷ chairs) [] new fit many boards = absurd fit
fit-boards (c ∷ chairs) (x ∷ posts) [] fit many boards = absurd (omega (arith, many))
fit-boards (c ∷ chairs) (x ∷ posts) (y ∷ new) fit many boards = (moved (boards 0 x y refl refl), fit-boards chairs posts new fit.1 (omega (arith, many)) (λ i a b at_a at_b. boards (suc i) a b at_a at_b))
  where
    moved : y.board ≡ x.board → Fits c y
    moved e = record {
      at = record {
        table_is = ap (λ (b : BoardView). b.table) e ∙ fit.0.at.table_is;
        board = subst (λ (b : BoardView). IsBoard b.size b.capacity c.table.value.shared.key c.table.value.shared.table_id) (sym e) fit.0.at.board;
      };
      known = omega (arith, fit.0.known, ap (λ (b : BoardView). b.size) e);
    }

more-fit : (chairs : List Chair) (posts new : List PostView) → AreFit chairs posts → HaveMoreRoom posts new → AreFit chairs new
more-fit chairs posts new fit more = fit-boards chairs posts new fit more.as_many (λ i x y at_x at_y. ap (λ (p : PostView). p.board) (more.each i x y at_x at_y).rest)

unborne-fit : (chairs : List Chair) (posts new : List PostView) (why_not : CarryCause) → AreFit chairs posts → IsUnborne posts why_not new → AreFit chairs new
unborne-fit chairs posts new cause.NotAllPosts fit its = subst (λ (ps : List PostView). AreFit chairs ps) (sym its.1) fit
unborne-fit chairs posts new cause.Memory fit its = more-fit chairs posts new fit its

-- the posts still fit their seats
pub borne-fit : (chairs : List Chair) (left : List Left) (closed : List ClosedLane) (posts new : List PostView) (answer : Result Carried CarryError) → AreFit chairs posts → CarriesParked left closed posts answer new → AreFit chairs new
borne-fit chairs left closed posts new (Ok carried) fit its = fit-boards chairs posts new fit its.carried.as_many (λ i x y at_x at_y. (its.carried.each i x y at_x at_y).same.board)
borne-fit chairs left closed posts new (Err error) fit its = unborne-fit chairs posts new error.cause fit its.1

-- the posts keep the messages that they received last
keep_all : (chairs : List Chair) (posts new : List PostView) → AreFit chairs posts → AreFit chairs new → KeepAll (seats_with chairs posts) (seats_with chairs new)
keep_all [] [] [] fit fits = record { last = refl; came = refl; numbers = refl }
keep_all [] [] (y ∷ new) fit fits = absurd fits
keep_all [] (x ∷ posts) new fit fits = absurd fit
keep_all (c ∷ chairs) [] new fit fits = absurd fit
keep_all (c ∷ chairs) (x ∷ posts) [] fit fits = absurd fits
keep_all (c ∷ chairs) (x ∷ posts) (y ∷ new) fit fits = let rest = keep_all chairs posts new fit.1 fits.1 in record {
  last = ap (λ (xs : List ℕ). unwrap_or c.last 0 ∷ xs) rest.last;
  came = ap (λ (xs : List (List Arrival)). came_list c.came ∷ xs) rest.came;
  numbers = ap (λ (xs : List BoardNumber). c.board_number ∷ xs) rest.numbers;
}

-- the seats of handles that keep posts
seats_in : (all : List (Option Kept)) → KeepPosts all → (seats : List PostStateView) × (all ≡ kept_seats seats)
seats_in [] keep = ([], refl)
seats_in (None ∷ all) keep = absurd (different (keep 0 None refl))
  where
    different : false ≡ true → ⊥
    different e = cc
seats_in (Some (Post state) ∷ all) keep = let rest = seats_in all (λ i kept at. keep (suc i) kept at) in (state ∷ rest.0, ap (λ (xs : List (Option Kept)). Some (Post state) ∷ xs) rest.1)
seats_in (Some (Board it) ∷ all) keep = absurd (different (keep 0 (Some (Board it)) refl))
  where
    different : false ≡ true → ⊥
    different e = cc
seats_in (Some Away ∷ all) keep = absurd (different (keep 0 (Some Away) refl))
  where
    different : false ≡ true → ⊥
    different e = cc

keep_same : (seats : List PostStateView) → KeepAll seats seats
keep_same seats = record { last = refl; came = refl; numbers = refl }

-- there was no memory for the lists
pub no_lists : (old new : List (Option Kept)) → new ≡ old → KeepPosts old → HaveRoomOver old new
no_lists old new same keep = let its = seats_in old keep in record { seats = its.0; kept = its.1; after = its.0; more = more_same (posts_of its.0); stay = keep_same its.0; new_is = same ∙ its.1 }

-- nothing was taken from the board
left_alone : (it : WholeView) (room : List ℕ) → IsUncarried it (Some (Board it)) room (Some (Board it)) room
left_alone it room = record { board_is = refl; left = it.gathered.left; same = refl; now_is = refl; out_is = refl }

none_each : (P : PostView → Type 0) → AreEach P []
none_each P i post at = absurd (none_there post at)

-- the posts weren't taken out
untaken : (it : WholeView) (old : List (Option Kept)) (room : List ℕ) (error : FitError) (new : List (Option Kept)) → TakesFit (length it.gathered.chart) it.capacity old (Err error) new
    → Carries (Some (Board it)) old room (Err (refusal_of_fit error)) (Some (Board it)) new room
untaken it old room (fitting.NotTaken taking.NoHandles) new its = (
  it,
  left_alone it room,
  its.0,
  [],
  record { kept = its.1; one = none_one old its.1 },
  record { large = none_each (IsAsLarge (length it.gathered.chart) it.capacity); untouched = none_each IsUntouched },
  tt,
)
untaken it old room (fitting.NotTaken taking.NoPost) new its = (it, left_alone it room, its.0, its.1)
untaken it old room (fitting.NotTaken taking.Memory) new its = (it, left_alone it room, no_lists old new its.0 its.1.0)
untaken it old room (fitting.NotTaken taking.OtherBoard) new its = (it, left_alone it room, its.0, its.1.0, its.1.1)
untaken it old room (fitting.Misfit Size) new its = (it, left_alone it room, its.0, its.1, its.2, its.3)
untaken it old room (fitting.Misfit Used) new its = (it, left_alone it room, its.0, its.1, its.2, its.3.0, its.3.1)

pub carry_refused : (it : WholeView) (old : List (Option Kept)) (room : List ℕ) (result : Result ℕ CarryRefusal) (error : FitError) (new : List (Option Kept)) → IsErrAnd result (λ e. e ≡ refusal_of_fit error)
    → TakesFit (length it.gathered.chart) it.capacity old (Err error) new → Carries (Some (Board it)) old room result (Some (Board it)) new room
carry_refused it old room (Ok many) error new never its = absurd never
carry_refused it old room (Err e) error new same its = subst (λ (x : CarryRefusal). Carries (Some (Board it)) old room (Err x) (Some (Board it)) new room) (sym same) (untaken it old room error new its)

pub fit_refused : (n k : ℕ) (old : List (Option Kept)) (result : Result Taken FitError) (error : TakingError) (new : List (Option Kept)) → IsErrAnd result (λ e. e ≡ fitting.NotTaken error) → TakesPosts old (Err error) new → TakesFit n k old result new
fit_refused n k old (Ok it) error new never its = absurd never
fit_refused n k old (Err e) error new same its = subst (λ (x : FitError). TakesFit n k old (Err x) new) (sym same) its

-- the posts can't take it over
pub unfit : (n k : ℕ) (misfit : Misfit) (chairs : List Chair) (posts : List PostView) (old new : List (Option Kept)) → AreFit chairs posts → old ≡ kept_seats (seats_with chairs posts) → HaveOneNumber old
    → ChecksFit n k posts (Err misfit) → new ≡ kept_seats (seats_with chairs posts) → TakesFit n k old (Err (fitting.Misfit misfit)) new
unfit n k misfit chairs posts old new fit kept one its put = (put ∙ sym kept, seats_with chairs posts, record { kept = kept; one = one }, subst (λ (ps : List PostView). ChecksFit n k ps (Err misfit)) (sym (posts-same chairs posts fit)) its)

-- they can
pub may_take : (it : WholeView) (chairs : List Chair) (posts : List PostView) → AreFit chairs posts → ChecksFit (length it.gathered.chart) it.capacity posts (Ok tt) → MayTakeOver it (posts_of (seats_with chairs posts))
may_take it chairs posts fit its = subst (MayTakeOver it) (sym (posts-same chairs posts fit)) (record { large = its.0; untouched = its.1 })

pub may_carry : (n k : ℕ) (left : List LeftView) (closed : List LaneEnds) (posts : List PostView) → WereLeft n k left closed → ChecksFit n k posts (Ok tt) → MayAllCarry left closed posts
may_carry n k left closed posts were fit i post at =
    let its = fit.0 i post at in
    record {
      untouched = fit.1 i post at;
      were = subst (λ (m : ℕ). WereLeft m post.board.capacity left closed) (sym its.size)
          (record { slots = were.slots; within = omega (arith, were.within, its.slots); history = were.history; legal = were.legal; left_by = were.left_by });
    }

-- everything was carried over
pub all_carried : (it : WholeView) (left : Vec Left) (closed : Vec ClosedLane) (chairs : List Chair) (posts after : List PostView) (old new : List (Option Kept)) (carried : Carried) (room out : List ℕ) (many : ℕ)
    → AreFit chairs posts → old ≡ kept_seats (seats_with chairs posts) → HaveOneNumber old → ChecksFit (length it.gathered.chart) it.capacity posts (Ok tt)
    → CarriesParked it.gathered.left.items it.gathered.closed.items posts (Ok carried) after → new ≡ kept_seats (seats_with chairs after)
    → many ≡ length carried.sends.items → out ≡ put_over carried.sends.items room → left.items ≡ [] → closed.items ≡ []
    → Carries (Some (Board it)) old room (Ok many) (Some (Board (record it { gathered = record it.gathered { left = left; closed = closed } }))) new out
all_carried it left closed chairs posts after old new carried room out many fit kept one fits its put many_is copied none_left none_closed =
    let fits_after = borne-fit chairs it.gathered.left.items it.gathered.closed.items posts after (Ok carried) fit its in (
      record {
        it = it;
        board_is = refl;
        seats = seats_with chairs posts;
        kept = kept;
        may = may_take it chairs posts fit fits;
        after = seats_with chairs after;
        carried = carried;
        over = subst (λ (ps : List PostView). CarriesOver it.gathered.left.items it.gathered.closed.items ps (Ok carried) (posts_of (seats_with chairs after))) (sym (posts-same chairs posts fit))
            (subst (λ (ps : List PostView). CarriesOver it.gathered.left.items it.gathered.closed.items posts (Ok carried) ps) (sym (posts-same chairs after fits_after)) its);
        stay = keep_all chairs posts after fit fits_after;
        new_is = put;
        many_is = many_is;
        copied = copied;
        left = left;
        closed = closed;
        now_is = refl;
        none_left = none_left;
        none_closed = none_closed;
      },
      one,
    )

-- why nothing was carried over
pub none_carried : (why_not : CarryCause) (it : WholeView) (left : Vec Left) (chairs : List Chair) (posts after : List PostView) (old new : List (Option Kept)) (room : List ℕ)
    → AreFit chairs posts → old ≡ kept_seats (seats_with chairs posts) → HaveOneNumber old → ChecksFit (length it.gathered.chart) it.capacity posts (Ok tt)
    → IsUnborne posts why_not after → new ≡ kept_seats (seats_with chairs after) → left.items ≡ it.gathered.left.items
    → Carries (Some (Board it)) old room (Err (refusal_of_cause why_not)) (Some (Board (record it { gathered = record it.gathered { left = left } }))) new room
none_carried cause.NotAllPosts it left chairs posts after old new room fit kept one fits its put same = (
  it,
  record { board_is = refl; left = left; same = same; now_is = refl; out_is = refl },
  put ∙ ap (λ (ps : List PostView). kept_seats (seats_with chairs ps)) its.1 ∙ sym kept,
  seats_with chairs posts,
  record { kept = kept; one = one },
  may_take it chairs posts fit fits,
  subst AreNotAll (sym (posts-same chairs posts fit)) its.0,
)
none_carried cause.Memory it left chairs posts after old new room fit kept one fits its put same =
    let fits_after = more-fit chairs posts after fit its in (
      it,
      record { board_is = refl; left = left; same = same; now_is = refl; out_is = refl },
      record {
        seats = seats_with chairs posts;
        kept = kept;
        after = seats_with chairs after;
        more = subst (λ (ps : List PostView). HaveMoreRoom ps (posts_of (seats_with chairs after))) (sym (posts-same chairs posts fit)) (subst (λ (ps : List PostView). HaveMoreRoom posts ps) (sym (posts-same chairs after fits_after)) its);
        stay = keep_all chairs posts after fit fits_after;
        new_is = put;
      },
    )

-- the same for equal lanes
pub borne_at : (left_out left : List Left) (closed_out closed : List ClosedLane) (posts : List PostView) (answer answered : Result Carried CarryError) (after : List PostView) → left_out ≡ left → closed_out ≡ closed → answer ≡ answered
    → CarriesParked left_out closed_out posts answer after → CarriesParked left closed posts answered after
borne_at left_out left closed_out closed posts answer answered after same_left same_closed same_answer its =
    subst (λ (ls : List Left). CarriesParked ls closed posts answered after) same_left (subst (λ (cs : List ClosedLane). CarriesParked left_out cs posts answered after) same_closed
    (subst (λ (r : Result Carried CarryError). CarriesParked left_out closed_out posts r after) same_answer its))

-- What the board keeps was left by it still.

abbrev were_left : WholeView → Type 0
were_left it = WereLeft (length it.gathered.chart) it.capacity (map left_view it.gathered.left.items) (map closed_view it.gathered.closed.items)

one_board_kept : (x y : WholeView) → Some (Board x) ≡ Some (Board y) → x ≡ y
one_board_kept x y same = cc

alone_left : (board now it : WholeView) (room out : List ℕ) → were_left board → IsUncarried it (Some (Board board)) room (Some (Board now)) out → were_left now
alone_left board now it room out were its = subst were_left (sym (one_board_kept now (record it { gathered = record it.gathered { left = its.left } }) its.now_is))
    (subst (λ (ls : List Left). WereLeft (length it.gathered.chart) it.capacity (map left_view ls) (map closed_view it.gathered.closed.items)) (sym its.same) (subst were_left (one_board_kept board it its.board_is) were))

pub still_left : (board now : WholeView) (old : List (Option Kept)) (room : List ℕ) (result : Result ℕ CarryRefusal) (new : List (Option Kept)) (out : List ℕ) → were_left board
    → Carries (Some (Board board)) old room result (Some (Board now)) new out → were_left now
still_left board now old room (Ok many) new out were its =
    let carried = its.0 in
    let it = carried.it in
    subst were_left (sym (one_board_kept now (record it { gathered = record it.gathered { left = carried.left; closed = carried.closed } }) carried.now_is))
    (subst (λ (ls : List Left). WereLeft (length it.gathered.chart) it.capacity (map left_view ls) (map closed_view carried.closed.items)) (sym carried.none_left)
    (subst (λ (cs : List ClosedLane). WereLeft (length it.gathered.chart) it.capacity [] (map closed_view cs)) (sym carried.none_closed) (first_left (length it.gathered.chart) it.capacity)))
still_left board now old room (Err why.NoBoard) new out were its = subst were_left (sym (one_board_kept now board its.1)) were
still_left board now old room (Err why.NoPost) new out were its = alone_left board now its.0 room out were its.1
still_left board now old room (Err why.OtherBoard) new out were its = alone_left board now its.0 room out were its.1
still_left board now old room (Err why.WrongNumber) new out were its = alone_left board now its.0 room out were its.1
still_left board now old room (Err why.InUse) new out were its = alone_left board now its.0 room out were its.1
still_left board now old room (Err why.NotAllPosts) new out were its = alone_left board now its.0 room out were its.1
still_left board now old room (Err why.Memory) new out were its = alone_left board now its.0 room out were its.1
