-- Posts that are taken out of handles one after another, and put back.
use Rattle.std.proofs.Common.{◌≡◌, ℕ, zero, suc, ◌+◌, ◌<◌, ◌≤◌, ⊎_elim, ◌⊎◌, inl, inr, List, [], ◌∷◌, ◌++◌, length, take, drop, set, map, get_or, refl, sym, ap, ◌∙◌, subst, arith}
use Rattle.std.specs.Prelude.{slice_get, Option, None, Some, true, false}
use Rattle.board_table.specs.Layout.{IsBoard}
use Rattle.board.specs.Views.{BoardView, PostView}
use Rattle.board.specs.Parked.{IsAtBoard, AreAtBoard}
use Rattle.board.specs.Meeting.{AreOfOneBoard}
use Rattle.c_board.specs.declared.chair.Chair.{Chair}
use Rattle.c_board.specs.declared.kept.Kept.{Kept}
use Rattle.c_board.specs.declared.kept.Kept.TheVariants.{Post}
use Rattle.std.proofs.lemmas.List.{map-set}
use Rattle.c_board.specs.declared.handle.Handle.{Handle}
use Rattle.c_board.specs.Opening.{AreEmpty, kept_by}
use Rattle.c_board.proofs.KeptLists.{kept_at}
use Rattle.c_board.proofs.Lists.{put_all, take_none}
use Rattle.c_board.specs.Chairs.{Fits, AreFit, seat_with, seats_with, kept_seats, posts_of, is_post, AreTaken, AreNumberedApart, HaveOneNumber, AreOfTwoBoards, AreOfOneNumber, IsOneOfAnother}
use Rattle.c_board.specs.PostStates.{PostStateView}

some_same : {X : Type 0} (x y : X) → Some x ≡ Some y → x ≡ y
some_same x y e = cc

split_last : (i n : ℕ) → i < n + 1 → (i < n) ⊎ (i ≡ n)
split_last zero zero h = inr refl
split_last zero (suc n) h = inl (omega arith)
split_last (suc i) zero h = absurd (omega (arith, h))
split_last (suc i) (suc n) h = ⊎_elim (λ (low : i < n). inl (omega (arith, low))) (λ (same : i ≡ n). inr (omega (arith, same))) (split_last i n (omega (arith, h)))

-- one more post with its seat
pub fit-push : (chairs : List Chair) (posts : List PostView) (chair : Chair) (post : PostView) → AreFit chairs posts → Fits chair post → AreFit (chairs ++ chair ∷ []) (posts ++ post ∷ [])
fit-push [] [] chair post all fits = (fits, tt)
fit-push [] (p ∷ posts) chair post all fits = absurd all
fit-push (c ∷ chairs) [] chair post all fits = absurd all
fit-push (c ∷ chairs) (p ∷ posts) chair post all fits = (all.0, fit-push chairs posts chair post all.1 fits)

-- what the handles have kept so far
pub seats_next : (chairs : List Chair) (posts : List PostView) (chair : Chair) (post : PostView) (rest : List (Option Kept)) → AreFit chairs posts
    → kept_seats (seats_with (chairs ++ chair ∷ []) (posts ++ post ∷ [])) ++ rest ≡ kept_seats (seats_with chairs posts) ++ Some (Post (seat_with chair post)) ∷ rest
seats_next [] [] chair post rest all = refl
seats_next [] (p ∷ posts) chair post rest all = absurd all
seats_next (c ∷ chairs) [] chair post rest all = absurd all
seats_next (c ∷ chairs) (p ∷ posts) chair post rest all = ap (λ (xs : List (Option Kept)). Some (Post (seat_with c p)) ∷ xs) (seats_next chairs posts chair post rest all.1)

-- the next element of a list
pub drop_at : {X : Type 0} (xs : List X) (n : ℕ) (x : X) → slice_get xs n ≡ Some x → drop n xs ≡ x ∷ drop (n + 1) xs
drop_at {X = X} xs n x there = let next : suc n ≡ n + 1 = omega arith in subst (λ (m : ℕ). drop n xs ≡ x ∷ drop m xs) next (go xs n there)
  where
    same : (a : X) → Some a ≡ Some x → a ≡ x
    same a e = cc

    never : None ≡ Some x → ⊥
    never e = cc

    go : (xs : List X) (n : ℕ) → slice_get xs n ≡ Some x → drop n xs ≡ x ∷ drop (suc n) xs
    go [] n there = absurd (never there)
    go (a ∷ xs) zero there = ap (λ (b : X). b ∷ xs) (same a there)
    go (a ∷ xs) (suc n) there = go xs n there

-- handles that keep nothing
abbrev pub nones : List (Option Kept) → List (Option Kept)
nones all = map (λ (kept : Option Kept). None) all

pub length-nones : (all : List (Option Kept)) → length (nones all) ≡ length all
length-nones [] = refl
length-nones (kept ∷ all) = ap suc (length-nones all)

pub none_at : (all : List (Option Kept)) (n : ℕ) → n < length all → slice_get (nones all) n ≡ Some None
none_at [] n less = absurd (omega (arith, less))
none_at (kept ∷ all) zero less = refl
none_at (kept ∷ all) (suc n) less = none_at all n (omega (arith, less))

pub are_empty : (all : List (Option Kept)) → AreEmpty (nones all)
are_empty [] i kept there = absurd (never there)
  where
    never : {X : Type 0} {x : X} → None ≡ Some x → ⊥
    never e = cc
are_empty (one ∷ all) zero kept there = same kept there
  where
    same : (kept : Option Kept) → Some None ≡ Some kept → kept ≡ None
    same kept e = cc
are_empty (one ∷ all) (suc i) kept there = are_empty all i kept there

-- a list with an element overwritten by itself
pub set_same : {X : Type 0} (xs : List X) (n : ℕ) (x : X) → slice_get xs n ≡ Some x → set xs n x ≡ xs
set_same {X = X} [] n x there = refl
set_same {X = X} (a ∷ xs) zero x there = ap (λ (b : X). b ∷ xs) (same a x there)
  where
    same : (a x : X) → Some a ≡ Some x → x ≡ a
    same a x e = cc
set_same (a ∷ xs) (suc n) x there = ap (λ zs. a ∷ zs) (set_same xs n x there)

pub length-seats : (chairs : List Chair) (posts : List PostView) → AreFit chairs posts → length (kept_seats (seats_with chairs posts)) ≡ length chairs
length-seats [] [] all = refl
length-seats [] (p ∷ posts) all = absurd all
length-seats (c ∷ chairs) [] all = absurd all
length-seats (c ∷ chairs) (p ∷ posts) all = ap suc (length-seats chairs posts all.1)

pub length-fit : (chairs : List Chair) (posts : List PostView) → AreFit chairs posts → length posts ≡ length chairs
length-fit [] [] all = refl
length-fit [] (p ∷ posts) all = absurd all
length-fit (c ∷ chairs) [] all = absurd all
length-fit (c ∷ chairs) (p ∷ posts) all = ap suc (length-fit chairs posts all.1)

-- the posts of seats
pub posts-same : (chairs : List Chair) (posts : List PostView) → AreFit chairs posts → posts_of (seats_with chairs posts) ≡ posts
posts-same [] [] all = refl
posts-same [] (p ∷ posts) all = absurd all
posts-same (c ∷ chairs) [] all = absurd all
posts-same (c ∷ chairs) (p ∷ posts) all = ap (λ (xs : List PostView). p ∷ xs) (posts-same chairs posts all.1)

-- one of the posts, in its seat
pub seated_at : (chairs : List Chair) (posts : List PostView) (i : ℕ) (post : PostView) → AreFit chairs posts → slice_get posts i ≡ Some post
    → (state : PostStateView) × (state.post ≡ post) × (slice_get (kept_seats (seats_with chairs posts)) i ≡ Some (Some (Post state)))
seated_at [] [] i post all there = absurd (never there)
  where
    never : {X : Type 0} {x : X} → None ≡ Some x → ⊥
    never e = cc
seated_at [] (p ∷ posts) i post all there = absurd all
seated_at (c ∷ chairs) [] i post all there = absurd all
seated_at (c ∷ chairs) (p ∷ posts) zero post all there = (seat_with c p, same p post there, refl)
  where
    same : (a x : PostView) → Some a ≡ Some x → a ≡ x
    same a x e = cc
seated_at (c ∷ chairs) (p ∷ posts) (suc i) post all there = seated_at chairs posts i post all.1 there

-- posts from handles whose boards have one number are of one board
pub one_board : (old : List (Option Kept)) (chairs : List Chair) (posts : List PostView) → AreNumberedApart old → HaveOneNumber old → old ≡ kept_seats (seats_with chairs posts) → AreFit chairs posts → AreOfOneBoard posts
one_board old chairs posts apart one same fit i j x y at_i at_j =
    let a = seated_at chairs posts i x fit at_i in
    let b = seated_at chairs posts j y fit at_j in
    let there = ap (λ (xs : List (Option Kept)). slice_get xs i) same ∙ a.2 in
    let other = ap (λ (xs : List (Option Kept)). slice_get xs j) same ∙ b.2 in
    ap (λ (p : PostView). p.board) (sym a.1) ∙ apart i j a.0 b.0 there other (one i j a.0 b.0 there other) ∙ ap (λ (p : PostView). p.board) b.1

-- a seat with its post, and the seat of a kept post
kept_in_seat : (chairs : List Chair) (posts : List PostView) (i : ℕ) (chair : Chair) → AreFit chairs posts → slice_get chairs i ≡ Some chair
    → (post : PostView) × (slice_get (kept_seats (seats_with chairs posts)) i ≡ Some (Some (Post (seat_with chair post))))
kept_in_seat [] [] i chair all there = absurd (never there)
  where
    never : {X : Type 0} {x : X} → None ≡ Some x → ⊥
    never e = cc
kept_in_seat [] (p ∷ posts) i chair all there = absurd all
kept_in_seat (c ∷ chairs) [] i chair all there = absurd all
kept_in_seat (c ∷ chairs) (p ∷ posts) zero chair all there = (p, ap (λ (it : Chair). Some (Some (Post (seat_with it p)))) (same c chair there))
  where
    same : (a x : Chair) → Some a ≡ Some x → a ≡ x
    same a x e = cc
kept_in_seat (c ∷ chairs) (p ∷ posts) (suc i) chair all there = kept_in_seat chairs posts i chair all.1 there

seat_of_kept : (chairs : List Chair) (posts : List PostView) (i : ℕ) (state : PostStateView) → AreFit chairs posts → slice_get (kept_seats (seats_with chairs posts)) i ≡ Some (Some (Post state))
    → (chair : Chair) × (slice_get chairs i ≡ Some chair) × (state.board_number ≡ chair.board_number)
seat_of_kept [] [] i state all there = absurd (never there)
  where
    never : {X : Type 0} {x : X} → None ≡ Some x → ⊥
    never e = cc
seat_of_kept [] (p ∷ posts) i state all there = absurd all
seat_of_kept (c ∷ chairs) [] i state all there = absurd all
seat_of_kept (c ∷ chairs) (p ∷ posts) zero state all there = (c, refl, ap (λ (it : PostStateView). it.board_number) (same state (seat_with c p) there))
  where
    same : (x a : PostStateView) → Some (Some (Post a)) ≡ Some (Some (Post x)) → x ≡ a
    same x a e = cc
seat_of_kept (c ∷ chairs) (p ∷ posts) (suc i) state all there = seat_of_kept chairs posts i state all.1 there

-- the posts' boards have one number if their seats say so, and otherwise two posts are of two boards
pub one_number : (old : List (Option Kept)) (chairs : List Chair) (posts : List PostView) → old ≡ kept_seats (seats_with chairs posts) → AreFit chairs posts → AreOfOneNumber chairs → HaveOneNumber old
one_number old [] [] same fit one i j x y at_i at_j = absurd (never (sym (ap (λ (xs : List (Option Kept)). slice_get xs i) same) ∙ at_i))
  where
    never : {X : Type 0} {a : X} → None ≡ Some a → ⊥
    never e = cc
one_number old [] (p ∷ posts) same fit one i j x y at_i at_j = absurd fit
one_number old (c ∷ chairs) posts same fit one i j x y at_i at_j =
    let a = seat_of_kept (c ∷ chairs) posts i x fit (sym (ap (λ (xs : List (Option Kept)). slice_get xs i) same) ∙ at_i) in
    let b = seat_of_kept (c ∷ chairs) posts j y fit (sym (ap (λ (xs : List (Option Kept)). slice_get xs j) same) ∙ at_j) in
    a.2 ∙ sym (one i c a.0 refl a.1) ∙ one j c b.0 refl b.1 ∙ sym b.2

pub two_boards : (old : List (Option Kept)) (chairs : List Chair) (posts : List PostView) → old ≡ kept_seats (seats_with chairs posts) → AreFit chairs posts → IsOneOfAnother chairs → AreOfTwoBoards old
two_boards old chairs posts same fit another =
    let a = kept_in_seat chairs posts 0 another.1 fit another.3 in
    let b = kept_in_seat chairs posts another.0 another.2 fit another.4 in
    (0, another.0, seat_with another.1 a.0, seat_with another.2 b.0, ap (λ (xs : List (Option Kept)). slice_get xs 0) same ∙ a.1, ap (λ (xs : List (Option Kept)). slice_get xs another.0) same ∙ b.1, another.5)

-- one more seat has the number
pub number_next : (chairs : List Chair) (n : ℕ) (one here : Chair) → slice_get chairs 0 ≡ Some one → slice_get chairs n ≡ Some here → one.board_number ≡ here.board_number
    → ((i : ℕ) (first chair : Chair) → i < n → slice_get chairs 0 ≡ Some first → slice_get chairs i ≡ Some chair → first.board_number ≡ chair.board_number)
    → (i : ℕ) (first chair : Chair) → i < n + 1 → slice_get chairs 0 ≡ Some first → slice_get chairs i ≡ Some chair → first.board_number ≡ chair.board_number
number_next chairs n one here at_first there same before i first chair within at_0 at_i = ⊎_elim (λ (low : i < n). before i first chair low at_0 at_i)
    (λ (last : i ≡ n). ap (λ (it : Chair). it.board_number) (some_same first one (sym at_0 ∙ at_first)) ∙ same
    ∙ ap (λ (it : Chair). it.board_number) (some_same here chair (sym there ∙ subst (λ (k : ℕ). slice_get chairs k ≡ Some chair) last at_i)))
    (split_last i n within)

-- so all of them are at the table of the first
pub at_first : (chairs : List Chair) (posts : List PostView) (chair : Chair) → slice_get chairs 0 ≡ Some chair → AreFit chairs posts → AreOfOneBoard posts
    → AreAtBoard chair.table.value.shared.key chair.table.value.shared.table_id posts
at_first [] posts chair there fit one = absurd (never there)
  where
    never : {X : Type 0} {x : X} → None ≡ Some x → ⊥
    never e = cc
at_first (c ∷ chairs) [] chair there fit one = absurd fit
at_first (c ∷ chairs) (p ∷ posts) chair there fit one = λ i post at. subst (λ (it : Chair). IsAtBoard it.table.value.shared.key it.table.value.shared.table_id post) (same c chair there)
    (moved c p post fit.0 (one 0 i p post refl at))
  where
    same : (a x : Chair) → Some a ≡ Some x → a ≡ x
    same a x e = cc

    moved : (c : Chair) (p post : PostView) → Fits c p → p.board ≡ post.board → IsAtBoard c.table.value.shared.key c.table.value.shared.table_id post
    moved c p post fits e = record {
      table_is = ap (λ (b : BoardView). b.table) (sym e) ∙ fits.at.table_is;
      board = subst (λ (b : BoardView). IsBoard b.size b.capacity c.table.value.shared.key c.table.value.shared.table_id) e fits.at.board;
    }

-- the posts after the first n, and their seats
pub fit-drop : (chairs : List Chair) (posts : List PostView) (n : ℕ) → AreFit chairs posts → AreFit (drop n chairs) (drop n posts)
fit-drop chairs posts zero all = all
fit-drop [] [] (suc n) all = tt
fit-drop [] (p ∷ posts) (suc n) all = absurd all
fit-drop (c ∷ chairs) [] (suc n) all = absurd all
fit-drop (c ∷ chairs) (p ∷ posts) (suc n) all = fit-drop chairs posts n all.1

pub seats-drop : (chairs : List Chair) (posts : List PostView) (n : ℕ) → AreFit chairs posts
    → drop n (kept_seats (seats_with chairs posts)) ≡ kept_seats (seats_with (drop n chairs) (drop n posts))
seats-drop chairs posts zero all = refl
seats-drop [] [] (suc n) all = refl
seats-drop [] (p ∷ posts) (suc n) all = absurd all
seats-drop (c ∷ chairs) [] (suc n) all = absurd all
seats-drop (c ∷ chairs) (p ∷ posts) (suc n) all = seats-drop chairs posts n all.1

-- a handle that still keeps what it kept
pub kept_same : (handles : List Handle) (n : ℕ) (d new : Handle) → n < length handles → new.slot.value ≡ (get_or handles n d).slot.value → kept_by (set handles n new) ≡ kept_by handles
kept_same handles n d new less same = map-set (λ (handle : Handle). handle.slot.value) handles n new
    ∙ ap (λ (one : Option Kept). set (kept_by handles) n one) same
    ∙ set_same (kept_by handles) n (get_or handles n d).slot.value (kept_at handles n d less)

-- one more handle keeps a post
pub post_next : (all : List (Option Kept)) (n : ℕ) (one : Option Kept) → slice_get all n ≡ Some one → is_post one ≡ true
    → ((i : ℕ) (kept : Option Kept) → i < n → slice_get all i ≡ Some kept → is_post kept ≡ true)
    → (i : ℕ) (kept : Option Kept) → i < n + 1 → slice_get all i ≡ Some kept → is_post kept ≡ true
post_next all n one there is before i kept within at = ⊎_elim (λ (low : i < n). before i kept low at)
    (λ (same : i ≡ n). subst (λ (it : Option Kept). is_post it ≡ true) (some_same one kept (sym there ∙ subst (λ (j : ℕ). slice_get all j ≡ Some kept) same at)) is)
    (split_last i n within)

pub drop_all : {X : Type 0} (xs : List X) (n : ℕ) → length xs ≤ n → drop n xs ≡ []
drop_all [] zero few = refl
drop_all [] (suc n) few = refl
drop_all (x ∷ xs) zero few = absurd (omega (arith, few))
drop_all (x ∷ xs) (suc n) few = drop_all xs n (omega (arith, few))

pub with_none : {X : Type 0} (xs : List X) → xs ++ [] ≡ xs
with_none [] = refl
with_none (x ∷ xs) = ap (λ zs. x ∷ zs) (with_none xs)

-- one more post was taken
pub seats_more : (olds : List (Option Kept)) (chairs more_chairs : List Chair) (posts more_posts : List PostView) (chair : Chair) (post : PostView) (n : ℕ) → AreFit chairs posts
    → kept_seats (seats_with chairs posts) ++ drop n olds ≡ olds → slice_get olds n ≡ Some (Some (Post (seat_with chair post)))
    → more_chairs ≡ chairs ++ chair ∷ [] → more_posts ≡ posts ++ post ∷ [] → kept_seats (seats_with more_chairs more_posts) ++ drop (n + 1) olds ≡ olds
seats_more olds chairs more_chairs posts more_posts chair post n fit so_far there are_chairs are_posts =
    ap (λ (cs : List Chair). kept_seats (seats_with cs more_posts) ++ drop (n + 1) olds) are_chairs
    ∙ ap (λ (ps : List PostView). kept_seats (seats_with (chairs ++ chair ∷ []) ps) ++ drop (n + 1) olds) are_posts
    ∙ seats_next chairs posts chair post (drop (n + 1) olds) fit
    ∙ ap (λ (xs : List (Option Kept)). kept_seats (seats_with chairs posts) ++ xs) (sym (drop_at olds n (Some (Post (seat_with chair post))) there))
    ∙ so_far

pub fit_more : (chairs more_chairs : List Chair) (posts more_posts : List PostView) (chair : Chair) (post : PostView) → AreFit chairs posts → Fits chair post
    → more_chairs ≡ chairs ++ chair ∷ [] → more_posts ≡ posts ++ post ∷ [] → AreFit more_chairs more_posts
fit_more chairs more_chairs posts more_posts chair post fit fits are_chairs are_posts =
    subst (λ (cs : List Chair). AreFit cs more_posts) (sym are_chairs) (subst (λ (ps : List PostView). AreFit (chairs ++ chair ∷ []) ps) (sym are_posts) (fit-push chairs posts chair post fit fits))

-- all posts were taken
pub all_taken : (olds new : List (Option Kept)) (chairs : List Chair) (posts : List PostView) (n : ℕ) → n ≡ length olds → AreFit chairs posts
    → kept_seats (seats_with chairs posts) ++ drop n olds ≡ olds → new ≡ take n (nones olds) ++ drop n olds → AreTaken olds chairs posts new
all_taken olds new chairs posts n many fit so_far put = record {
  seats = sym so_far ∙ ap (λ (xs : List (Option Kept)). kept_seats (seats_with chairs posts) ++ xs) (drop_all olds n (omega (arith, many))) ∙ with_none (kept_seats (seats_with chairs posts));
  fit = fit;
  empty = subst AreEmpty (sym (put ∙ put_all (nones olds) olds n (omega (arith, many)) (omega (arith, many, length-nones olds)) (inr many) ∙ take_none (nones olds) olds (length-nones olds))) (are_empty olds);
}

-- nothing isn't a post
pub never_post : (one : Option Kept) → one ≡ None → is_post one ≡ true → ⊥
never_post one none is = different (sym (ap is_post none) ∙ is)
  where
    different : false ≡ true → ⊥
    different e = cc

-- the next post fits its seat
pub fits_next : (chairs rest : List Chair) (posts more : List PostView) (chair : Chair) (post : PostView) (n : ℕ) → AreFit chairs posts
    → drop n chairs ≡ chair ∷ rest → drop n posts ≡ post ∷ more → Fits chair post
fits_next chairs rest posts more chair post n fit are_chairs are_posts =
    (subst (λ (ps : List PostView). AreFit (chair ∷ rest) ps) are_posts (subst (λ (cs : List Chair). AreFit cs (drop n posts)) are_chairs (fit-drop chairs posts n fit))).0

-- the next seat is the next to be kept
pub seats_left : (chairs rest : List Chair) (posts more : List PostView) (chair : Chair) (post : PostView) (n : ℕ) → AreFit chairs posts
    → drop n chairs ≡ chair ∷ rest → drop n posts ≡ post ∷ more → drop n (kept_seats (seats_with chairs posts)) ≡ Some (Post (seat_with chair post)) ∷ kept_seats (seats_with rest more)
seats_left chairs rest posts more chair post n fit are_chairs are_posts = seats-drop chairs posts n fit
    ∙ ap (λ (cs : List Chair). kept_seats (seats_with cs (drop n posts))) are_chairs ∙ ap (λ (ps : List PostView). kept_seats (seats_with (chair ∷ rest) ps)) are_posts

few_left : {X : Type 0} (xs : List X) (n : ℕ) → length (drop n xs) ≡ 0 → length xs ≤ n
few_left [] n none = omega arith
few_left (x ∷ xs) zero none = absurd (omega (arith, none))
few_left (x ∷ xs) (suc n) none = omega (arith, few_left xs n none)

pub take_all : {X : Type 0} (xs : List X) (n : ℕ) → length xs ≤ n → take n xs ≡ xs
take_all [] zero few = refl
take_all [] (suc n) few = refl
take_all (x ∷ xs) zero few = absurd (omega (arith, few))
take_all (x ∷ xs) (suc n) few = ap (λ zs. x ∷ zs) (take_all xs n (omega (arith, few)))

-- all posts were put back
pub all_put : {new : List (Option Kept)} (olds : List (Option Kept)) (chairs : List Chair) (posts : List PostView) (n : ℕ) → length (drop n chairs) ≡ 0 → AreFit chairs posts → length chairs ≡ length olds
    → new ≡ take n (kept_seats (seats_with chairs posts)) ++ drop n olds → new ≡ kept_seats (seats_with chairs posts)
all_put olds chairs posts n none fit many put =
    let all = kept_seats (seats_with chairs posts) in
    let few : length chairs ≤ n = few_left chairs n none in
    put ∙ ap (λ (xs : List (Option Kept)). take n all ++ xs) (drop_all olds n (omega (arith, few, many))) ∙ with_none (take n all) ∙ take_all all n (omega (arith, few, length-seats chairs posts fit))

-- there is a first seat
pub first_there : (olds : List (Option Kept)) (chairs : List Chair) (posts : List PostView) (chair : Chair) → (length olds ≡ 0 → ⊥) → olds ≡ kept_seats (seats_with chairs posts) → AreFit chairs posts
    → chair ≡ get_or chairs 0 chair → slice_get chairs 0 ≡ Some chair
first_there olds [] posts chair some seats fit is = absurd (some (ap length seats))
first_there olds (c ∷ chairs) posts chair some seats fit is = ap (λ (it : Chair). Some it) (sym is)
