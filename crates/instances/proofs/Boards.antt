-- Posts that were driven, each by the behaviour at its place.
use Rattle.std.proofs.Common.{◌≡◌, ℕ, ◌<◌, ◌≤◌, List, [], ◌∷◌, length, map, Some, refl, sym, ap, ◌∙◌, subst, arith}
use Rattle.std.specs.Prelude.{slice_get, slice_index_or}
use Rattle.std.specs.List.{zip}
use Rattle.std.proofs.lemmas.List.{get_or-map, length-map}
use Rattle.std.proofs.lemmas.Option.{slice_get-get_or, get_or_from_slice_get, slice_get_within}
use Rattle.std.proofs.lemmas.Slice.Zip.{length-zip, get_or-zip}
use Rattle.chart.proofs.HistoryLines.{length-history_lines}
use Rattle.board.specs.Gathering.{IsWhole, size_of}
use Rattle.board.specs.Meeting.{AreOfOneBoard, AreAll, AreNotAll}
use Rattle.board.specs.Views.{BoardView, PostView, IsSamePost}
use Rattle.board.specs.declared.gathering.Gathered.{Gathered}
use Rattle.instances.specs.declared.end.End.{End}
use Rattle.instances.specs.declared.turn.Turn.{Turn}

-- a post at the end, its trace and its end
abbrev pub Done : Type 0
Done = PostView × List Turn × End

-- an element, if there are some
some_of : {X : Type 0} (xs : List X) (k : ℕ) → k < length xs → X
some_of [] k within = absurd (omega (arith, within))
some_of (x ∷ xs) k within = x

length-alike : {A B : Type 0} (xs : List A) (ys : List B) → length ys ≡ length xs → length (zip xs ys) ≡ length xs
length-alike xs ys alike = omega (arith, length-zip xs ys, alike)

-- posts at the same places of one board's list, each still at its board, are of one board
pub one-board-kept : (old new : List PostView)
    → ((k : ℕ) (x : PostView) → slice_get new k ≡ Some x → (k < length old) × (x.board ≡ (slice_index_or old k x).board))
    → AreOfOneBoard old → AreOfOneBoard new
one-board-kept old new kept one i j x y is at =
    let (in_i, of_x) = kept i x is in
    let (in_j, of_y) = kept j y at in
    of_x
    ∙ one i j (slice_index_or old i x) (slice_index_or old j y) (slice_get-get_or old i x in_i) (slice_get-get_or old j y in_j)
    ∙ sym of_y

-- the same, by the elements' places
pub one-board-each : (old new : List PostView) → length new ≡ length old
    → ((k : ℕ) (p : PostView) → k < length old → (slice_index_or new k p).board ≡ (slice_index_or old k p).board)
    → AreOfOneBoard old → AreOfOneBoard new
one-board-each old new alike same = one-board-kept old new (λ k x is.
    let within : k < length old = omega (arith, slice_get_within new k x is, alike) in
    (within, subst (λ (y : PostView). y.board ≡ (slice_index_or old k x).board) (get_or_from_slice_get new k x x is) (same k x within)))

-- posts that are the same as all of a board are all of this board
all-stay : (old new : List PostView) → length new ≡ length old
    → ((k : ℕ) (x : PostView) → slice_get new k ≡ Some x → (k < length old) × IsSamePost (slice_index_or old k x) x)
    → AreAll old → AreNotAll new → ⊥
all-stay [] new alike same all not = all
all-stay (p ∷ old) [] alike same all not = absurd (omega (arith, alike))
all-stay (p ∷ old) (x ∷ new) alike same all (n, low, high, none) =
    let first : IsSamePost p x = (same 0 x refl).1 in
    let has = all n low (subst (λ (board : BoardView). n ≤ board.size) first.board high) in
    let i = has.0 in
    let within : i < length (x ∷ new) = omega (arith, slice_get_within (p ∷ old) i has.1 has.2, alike) in
    let y = slice_index_or (x ∷ new) i x in
    let is = slice_get-get_or (x ∷ new) i x within in
    let read = get_or_from_slice_get (p ∷ old) i has.1 y has.2 in
    none i y is ((same i y is).1.number ∙ ap (λ (post : PostView). post.number) read ∙ has.3)

-- their board has the same number of instances
same-size : (old new : List PostView) → length new ≡ length old
    → ((k : ℕ) (x : PostView) → slice_get new k ≡ Some x → (k < length old) × IsSamePost (slice_index_or old k x) x)
    → size_of new ≡ size_of old
same-size [] [] alike same = refl
same-size [] (x ∷ new) alike same = absurd (omega (arith, alike))
same-size (p ∷ old) [] alike same = absurd (omega (arith, alike))
same-size (p ∷ old) (x ∷ new) alike same = ap (λ (board : BoardView). board.size) (same 0 x refl).1.board

-- each pair of a post and a behaviour was driven in this way
pub record AreDone {B : Type 0} (D : B → PostView → List Turn → End → PostView → Type 0) (posts : List PostView)
    (behaviours : List B) (done : List Done) : Type 0 where
  pub alike : length behaviours ≡ length posts
  pub as_many : length done ≡ length (zip posts behaviours)
  pub each : (k : ℕ) (d : PostView × B) (e : Done) → k < length (zip posts behaviours)
      → D (slice_index_or (zip posts behaviours) k d).1 (slice_index_or (zip posts behaviours) k d).0
      (slice_index_or done k e).1 (slice_index_or done k e).2 (slice_index_or done k e).0

module _ {B : Type 0} (D : B → PostView → List Turn → End → PostView → Type 0) (posts : List PostView)
    (behaviours : List B) (done : List Done) (are : AreDone D posts behaviours done) where
  pub length-done : length done ≡ length posts
  length-done = are.as_many ∙ length-alike posts behaviours are.alike

  -- the same, with the parts in lists of their own
  pub done-each : (k : ℕ) (p : PostView) (t : List Turn) (e : End) (q : PostView) → k < length posts → (b : B)
      → D (slice_index_or behaviours k b) (slice_index_or posts k p) (slice_index_or (map (λ (it : Done). it.1) done) k t)
      (slice_index_or (map (λ (it : Done). it.2) done) k e) (slice_index_or (map (λ (it : Done). it.0) done) k q)
  done-each k p t e q within b =
      let it : Done = slice_index_or done k (q, t, e) in
      let in_done : k < length done = omega (arith, within, length-done) in
      let jobs = zip posts behaviours in
      let driven = are.each k (p, b) (q, t, e) (omega (arith, within, length-alike posts behaviours are.alike)) in
      let pair = get_or-zip posts behaviours k (p, b) within (omega (arith, within, are.alike)) in
      let paired = subst (λ (job : PostView × B). D job.1 job.0 it.1 it.2 it.0) pair driven in
      let b' = slice_index_or behaviours k b in
      let p' = slice_index_or posts k p in
      let traced = subst (λ x. D b' p' x it.2 it.0) (sym (get_or-map (λ (it : Done). it.1) done k (q, t, e) t in_done)) paired in
      let trace = slice_index_or (map (λ (it : Done). it.1) done) k t in
      let ended = subst (λ x. D b' p' trace x it.0) (sym (get_or-map (λ (it : Done). it.2) done k (q, t, e) e in_done)) traced in
      let end = slice_index_or (map (λ (it : Done). it.2) done) k e in
      subst (λ x. D b' p' trace end x) (sym (get_or-map (λ (it : Done). it.0) done k (q, t, e) q in_done)) ended

  pub done-parts : (traces : List (List Turn)) (ends : List End) → traces ≡ map (λ (it : Done). it.1) done
      → ends ≡ map (λ (it : Done). it.2) done
      → (k : ℕ) (p : PostView) (t : List Turn) (e : End) (q : PostView) → k < length posts → (b : B)
      → D (slice_index_or behaviours k b) (slice_index_or posts k p) (slice_index_or traces k t)
      (slice_index_or ends k e) (slice_index_or (map (λ (it : Done). it.0) done) k q)
  done-parts traces ends are_traces are_ends k p t e q within b =
      rw (← are_traces, ← are_ends) at done-each k p t e q within b

  -- the posts at the end are still of one board
  module _ (same : (b : B) (old : PostView) (t : List Turn) (e : End) (new : PostView) → D b old t e new → IsSamePost old new) where
    same-left : (k : ℕ) (x : PostView) → slice_get (map (λ (it : Done). it.0) done) k ≡ Some x
        → (k < length posts) × IsSamePost (slice_index_or posts k x) x
    same-left k x is =
        let in_left = slice_get_within (map (λ (it : Done). it.0) done) k x is in
        let within : k < length posts = omega (arith, in_left, length-map done (λ (it : Done). it.0), length-done) in
        let it : Done = some_of done k (omega (arith, within, length-done)) in
        let b : B = some_of behaviours k (omega (arith, within, are.alike)) in
        let read = get_or_from_slice_get (map (λ (it : Done). it.0) done) k x x is in
        (within, subst (λ y. IsSamePost (slice_index_or posts k x) y) read (same _ _ _ _ _ (done-each k x it.1 it.2 x within b)))

    pub one-board-left : AreOfOneBoard posts → AreOfOneBoard (map (λ (it : Done). it.0) done)
    one-board-left = one-board-kept posts (map (λ (it : Done). it.0) done)
        (λ k x is. let (within, same) = same-left k x is in (within, same.board))

    pub all-left : AreAll posts → AreNotAll (map (λ (it : Done). it.0) done) → ⊥
    all-left all not =
        all-stay posts (map (λ (it : Done). it.0) done) (length-map done (λ (it : Done). it.0) ∙ length-done) same-left all not

    -- the result of gathering them has a line for each instance
    pub lines-left : (it : Gathered) → IsWhole (map (λ (it : Done). it.0) done) it → length it.chart ≡ size_of posts
    lines-left it whole =
        let left = map (λ (it : Done). it.0) done in
        ap length whole.gathered.chart ∙ length-history_lines (size_of left) whole.history
        ∙ same-size posts left (length-map done (λ (it : Done). it.0) ∙ length-done) same-left
