-- What several handles keep, handle by handle.
use Rattle.std.proofs.Common.{◌≡◌, ℕ, zero, suc, ◌<◌, ◌+◌, List, [], ◌∷◌, ◌++◌, length, get_or, refl, sym, ap, ◌∙◌, arith, ⊎_elim, ◌⊎◌, inl, inr, subst}
use Rattle.std.specs.Prelude.{slice_get, Option, None, Some}
use Rattle.c_board.specs.declared.board_number.BoardNumber.{BoardNumber}
use Rattle.c_board.specs.declared.handle.Handle.{Handle}
use Rattle.c_board.specs.declared.kept.Kept.{Kept}
use Rattle.c_board.specs.declared.kept.Kept.TheVariants.{Post}
use Rattle.c_board.specs.Opening.{kept_by, IsOneFull, values_of, seats_of, seated, all_of, AreSeated}
use Rattle.std.specs.declared.alloc.Global.{Global}
use Rattle.std_alloc.specs.declared.boxed.Box.{Box}
use Rattle.atomic_table.specs.Seated.{TableId}
use Rattle.board.specs.Views.{BoardView, PostView}
use Rattle.chart.specs.declared.instance.EventNo.{EventNo}
use Rattle.c_board.specs.Copying.{indices}
use Rattle.board.specs.Boards.{AreNewPosts, new_post}

-- what one handle keeps
pub kept_at : (handles : List Handle) (i : ℕ) (d : Handle) → i < length handles → slice_get (kept_by handles) i ≡ Some (get_or handles i d).slot.value
kept_at [] i d less = absurd (omega (arith, less))
kept_at (handle ∷ handles) zero d less = refl
kept_at (handle ∷ handles) (suc i) d less = kept_at handles i d (omega (arith, less))

some_same : {X : Type 0} (x y : X) → Some x ≡ Some y → x ≡ y
some_same x y e = cc

-- one more handle keeps nothing
pub empty_next : (handles : List Handle) (n : ℕ) (d : Handle) → n < length handles → (get_or handles n d).slot.value ≡ None
    → ((i : ℕ) (kept : Option Kept) → i < n → slice_get (kept_by handles) i ≡ Some kept → kept ≡ None)
    → (i : ℕ) (kept : Option Kept) → i < n + 1 → slice_get (kept_by handles) i ≡ Some kept → kept ≡ None
empty_next handles n d less empty before i kept within there = ⊎_elim (λ (low : i < n). before i kept low there)
    (λ (same : i ≡ n). sym (some_same _ _ (sym (kept_at handles n d less) ∙ subst (λ (j : ℕ). slice_get (kept_by handles) j ≡ Some kept) same there)) ∙ empty)
    (split_last i n within)
  where
    split_last : (i n : ℕ) → i < n + 1 → (i < n) ⊎ (i ≡ n)
    split_last zero zero h = inr refl
    split_last zero (suc n) h = inl (omega arith)
    split_last (suc i) zero h = absurd (omega (arith, h))
    split_last (suc i) (suc n) h = ⊎_elim (λ (low : i < n). inl (omega (arith, low))) (λ (same : i ≡ n). inr (omega (arith, same))) (split_last i n (omega (arith, h)))

-- one handle keeps something
pub full_there : (handles : List Handle) (n : ℕ) (d : Handle) → n < length handles → ((get_or handles n d).slot.value ≡ None → ⊥) → IsOneFull (kept_by handles)
full_there handles n d less full = go (get_or handles n d).slot.value refl
  where
    go : (o : Option Kept) → (get_or handles n d).slot.value ≡ o → IsOneFull (kept_by handles)
    go None e = absurd (full e)
    go (Some kept) e = (n, kept, kept_at handles n d less ∙ ap (λ (o : Option Kept). Some o) e)

pub length-kept_by : (handles : List Handle) → length (kept_by handles) ≡ length handles
length-kept_by [] = refl
length-kept_by (handle ∷ handles) = ap suc (length-kept_by handles)

pub at_kept : (handles : List Handle) (i : ℕ) (kept : Option Kept) → slice_get (kept_by handles) i ≡ Some kept → i < length handles
at_kept [] i kept there = absurd (never there)
  where
    never : {X : Type 0} {x : X} → None ≡ Some x → ⊥
    never e = cc
at_kept (handle ∷ handles) zero kept there = omega arith
at_kept (handle ∷ handles) (suc i) kept there = omega (arith, at_kept handles i kept there)

-- one more box is made
pub all_next : (number : BoardNumber) (done : List (Box Kept Global)) (box : Box Kept Global) (post : PostView) (rest : List PostView) (all : List Kept)
    → values_of done ++ seats_of number (post ∷ rest) ≡ all → box.value ≡ Post (seated number post) → values_of (done ++ box ∷ []) ++ seats_of number rest ≡ all
all_next number [] box post rest all before is = ap (λ (kept : Kept). kept ∷ seats_of number rest) is ∙ before
all_next number (first ∷ done) box post rest all before is = ap (λ (xs : List Kept). first.value ∷ xs) (all_next number done box post rest _ refl is) ∙ before

-- the seated posts, one by one
seated_each : (number : BoardNumber) (posts : List PostView) (i : ℕ) (kept : Option Kept) → slice_get (all_of (seats_of number posts)) i ≡ Some kept
    → (post : PostView) × (slice_get posts i ≡ Some post) × (kept ≡ Some (Post (seated number post)))
seated_each number [] i kept there = absurd (never there)
  where
    never : {X : Type 0} {x : X} → None ≡ Some x → ⊥
    never e = cc
seated_each number (post ∷ posts) zero kept there = (post, refl, sym (some_same _ _ there))
seated_each number (post ∷ posts) (suc i) kept there = seated_each number posts i kept there

length-seated : (number : BoardNumber) (posts : List PostView) → length (all_of (seats_of number posts)) ≡ length posts
length-seated number [] = refl
length-seated number (post ∷ posts) = ap suc (length-seated number posts)

board_is : (board : BoardView) (n k : ℕ) → board.size ≡ n → board.capacity ≡ k → board ≡ record { table = board.table; size = n; capacity = k }
board_is board n k size capacity = ap (λ (m : ℕ). record { table = board.table; size = m; capacity = board.capacity }) size ∙ ap (λ (m : ℕ). record { table = board.table; size = n; capacity = m }) capacity

-- handles that keep the posts of a new board
pub are_seated : (number : BoardNumber) (handles : List Handle) (k : ℕ) (board : BoardView) (posts : List PostView) (new : List Handle) → board.size ≡ length handles → board.capacity ≡ k
    → AreNewPosts board posts → kept_by new ≡ all_of (seats_of number posts)
    → (length (kept_by new) ≡ length (kept_by handles)) × (table : TableId) × AreSeated number (record { table = table; size = length (kept_by handles); capacity = k }) (kept_by new)
are_seated number handles k board posts new size capacity its kept = (
  ap length kept ∙ length-seated number posts ∙ its.as_many ∙ size ∙ sym (length-kept_by handles),
  board.table,
  λ i one there. go i one (seated_each number posts i one (subst (λ (xs : List (Option Kept)). slice_get xs i ≡ Some one) kept there)),
)
  where
    go : (i : ℕ) (one : Option Kept) → ((post : PostView) × (slice_get posts i ≡ Some post) × (one ≡ Some (Post (seated number post))))
        → one ≡ Some (Post (seated number (new_post (record { table = board.table; size = length (kept_by handles); capacity = k }) (suc i))))
    go i one found = found.2 ∙ ap (λ (post : PostView). Some (Post (seated number post))) (its.each i found.0 found.1 ∙ ap (λ (b : BoardView). new_post b (suc i)) (board_is board (length (kept_by handles)) k (size ∙ sym (length-kept_by handles)) capacity))

pub length-values : (boxes : List (Box Kept Global)) → length (all_of (values_of boxes)) ≡ length boxes
length-values [] = refl
length-values (box ∷ boxes) = ap suc (length-values boxes)

pub length-indices : (events : List EventNo) → length (indices events) ≡ length events
length-indices [] = refl
length-indices (event ∷ events) = ap suc (length-indices events)
