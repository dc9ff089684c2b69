-- Posts that meet, one after another.
use Rattle.std.proofs.Common.{◌≡◌, ◌≢◌, ℕ, suc, zero, ◌+◌, ◌<◌, ◌≤◌, inl, inr, ◌⊎◌, ⊎_elim, List, [], ◌∷◌, length, set, get_or, refl, sym, ap, ◌∙◌, subst, arith, length-append}
use Rattle.std.proofs.lemmas.List.{length-set}
use Rattle.std.proofs.lemmas.Bool.Decides.{leb_tells}
use Rattle.std.proofs.lemmas.Option.{slice_get-get_or}
use Rattle.std.specs.Prelude.{slice_get, None, Some, map}
use Rattle.chart.specs.declared.history.Occurrence.{Occurrence}
use Rattle.chart.specs.Histories.{own, IsLegal, Begins}
use Rattle.chart.proofs.Histories.{begins_same, begins_onward}
use Rattle.board_table.proofs.Views.{longer_is}
use Rattle.board.specs.Views.{PostView}
use Rattle.atomic_table.specs.Seated.{TableId}
use Rattle.board_table.specs.Knowing.{Mine, longer}
use Rattle.board_table.specs.Plays.{IsNote}
use Rattle.board.specs.Meeting.{IsJoint, HaveMet, Hears, HasHeard, HaveHeard, IsNoteOf, HasPost, HasNoPost, AreAll, AreNotAll}
use Rattle.board.proofs.PostLemmas.{at_set}

none_there : {X : Type 0} (x : X) → None ≡ Some x → ⊥
none_there x never = cc

some_one : {X : Type 0} (x y : X) → Some x ≡ Some y → x ≡ y
some_one x y same = cc

-- the other elements stay
pub set_apart : {X : Type 0} (xs : List X) (j i : ℕ) (e : X) → i ≢ j → slice_get (set xs j e) i ≡ slice_get xs i
set_apart [] j i e ne = refl
set_apart (x ∷ xs) zero zero e ne = absurd (ne refl)
set_apart (x ∷ xs) zero (suc i) e ne = refl
set_apart (x ∷ xs) (suc j) zero e ne = refl
set_apart (x ∷ xs) (suc j) (suc i) e ne = set_apart xs j i e (λ same. ne (ap suc same))

-- the place of an element is less than the length
pub at_within : {X : Type 0} (xs : List X) (i : ℕ) (x : X) → slice_get xs i ≡ Some x → i < length xs
at_within [] i x at = absurd (none_there x at)
at_within (y ∷ xs) zero x at = omega arith
at_within (y ∷ xs) (suc i) x at = let its = at_within xs i x at in omega (arith, its)

-- only one post is at a place
pub one_ahead : (posts : List PostView) (i : ℕ) (x y : PostView) → slice_get posts i ≡ Some x → slice_get posts i ≡ Some y → x ≡ y
one_ahead posts i x y at there = some_one x y (sym at ∙ there)

-- the post that was read at a place is there
pub one_post : (posts : List PostView) (i : ℕ) (x y : PostView) → x ≡ get_or posts i x → slice_get posts i ≡ Some y → x ≡ y
one_post posts i x y is at = one_ahead posts i x y (slice_get-get_or posts i x (at_within posts i y at) ∙ ap (λ (post : PostView). Some post) (sym is)) at

-- lists of one length are equal if all their elements are
pub same_map : {X : Type 0} (f : X → X) (xs ys : List X) → length ys ≡ length xs → ((i : ℕ) (x : X) → slice_get xs i ≡ Some x → slice_get ys i ≡ Some (f x)) → ys ≡ map f xs
same_map f [] [] many each = refl
same_map f [] (y ∷ ys) many each = absurd (omega (arith, many))
same_map f (x ∷ xs) [] many each = absurd (omega (arith, many))
same_map f (x ∷ xs) (y ∷ ys) many each =
    ap (λ z. z ∷ ys) (some_one y (f x) (each 0 x refl)) ∙ ap (λ zs. f x ∷ zs) (same_map f xs ys (omega (arith, many)) (λ i z at. each (suc i) z at))

-- the longer of a history and its beginning is the history
pub longer_settled : (g h : List Occurrence) → Begins g h → longer g h ≡ h
longer_settled g h (more, same) = ⊎_elim (λ its. its.0) (λ its. absurd (omega (arith, its.1, ap length same, length-append more g))) (longer_is g h)

-- one more post has heard the note
pub heard_next : (i : ℕ) (old now : List PostView) (first known after : List Occurrence) (x y : PostView) → HaveHeard i old first now known → slice_get now i ≡ Some x → Hears known x y → after ≡ y.seen → HaveHeard (suc i) old first (set now i y) after
heard_next i old now first known after x y its at hears same = record {
  as_many = length-set now i y ∙ its.as_many;
  heard = λ j a b lt at_old at_new. each j a b lt at_old (at_set now i j y b at_new);
  others = λ j le. set_apart now i j y (λ e. absurd (omega (arith, e, le))) ∙ its.others j (omega (arith, le));
  settled = λ all.
      let before = its.settled all in
      let seen = now_seen all in
      (same ∙ seen, λ j b lt at_new. settle j b lt before.1 seen (at_set now i j y b at_new));
}
  where
    was : slice_get old i ≡ Some x
    was = sym (its.others i (omega arith)) ∙ at

    onward : Begins known after
    onward = subst (λ h. Begins known h) (sym same) hears.later_known

    each : (j : ℕ) (a b : PostView) → j < suc i → slice_get old j ≡ Some a → ((j ≡ i) × (y ≡ b)) ⊎ ((j ≢ i) × (slice_get now j ≡ Some b)) → HasHeard after a b
    each j a b lt at_old (inl (here, new)) =
        let one : x ≡ a = some_one x a (sym was ∙ ap (slice_get old) (sym here) ∙ at_old) in
        subst (λ z. HasHeard after z b) one (subst (λ z. HasHeard after x z) new (record {
          rest = hears.rest;
          later = hears.later;
          legal = hears.legal;
          own = hears.own;
          known = subst (λ h. Begins y.seen h) (sym same) (begins_same y.seen);
        }))
    each j a b lt at_old (inr (ne, there)) =
        let before = its.heard j a b (omega (arith, lt, ne)) at_old there in
        record {
          rest = before.rest;
          later = before.later;
          legal = before.legal;
          own = before.own;
          known = begins_onward b.seen known after before.known onward;
        }

    now_seen : ((j : ℕ) (z : PostView) → slice_get old j ≡ Some z → Begins z.seen first) → y.seen ≡ first
    now_seen all = hears.seen ∙ ap (longer x.seen) (its.settled all).0 ∙ longer_settled x.seen first (all i x was)

    settle : (j : ℕ) (b : PostView) → j < suc i → ((j : ℕ) (z : PostView) → j < i → slice_get now j ≡ Some z → z.seen ≡ first) → y.seen ≡ first → ((j ≡ i) × (y ≡ b)) ⊎ ((j ≢ i) × (slice_get now j ≡ Some b)) → b.seen ≡ first
    settle j b lt before seen (inl (here, new)) = ap (λ z. z.seen) (sym new) ∙ seen
    settle j b lt before seen (inr (ne, there)) = before j b (omega (arith, lt, ne)) there

-- before the first post has heard it
pub heard_none : (old : List PostView) (first : List Occurrence) → HaveHeard 0 old first old first
heard_none old first = record {
  as_many = refl;
  heard = λ i x y lt. absurd (omega (arith, lt));
  others = λ i le. refl;
  settled = λ all. (refl, λ i y lt. absurd (omega (arith, lt)));
}

-- after two rounds the posts have met
pub have_met : (old mid new : List PostView) (first known last : List Occurrence) → HaveHeard (length old) old first mid known → HaveHeard (length mid) mid known new last → HaveMet old new
have_met old mid new first known last one two = record {
  history = known;
  joint = joint;
  seen = same_map (λ (post : PostView). record post { seen = known }) old new (two.as_many ∙ one.as_many) each;
}
  where
    at_mid : (i : ℕ) (x : PostView) → slice_get old i ≡ Some x → slice_get mid i ≡ Some (get_or mid i x)
    at_mid i x at = let lt = at_within old i x at in slice_get-get_or mid i x (omega (arith, lt, one.as_many))

    at_new : (i : ℕ) (x : PostView) → slice_get old i ≡ Some x → slice_get new i ≡ Some (get_or new i x)
    at_new i x at = let lt = at_within old i x at in slice_get-get_or new i x (omega (arith, lt, one.as_many, two.as_many))

    all : (i : ℕ) (y : PostView) → slice_get mid i ≡ Some y → Begins y.seen known
    all i y at =
        let lt = at_within mid i y at in
        let was : slice_get old i ≡ Some (get_or old i y) = slice_get-get_or old i y (omega (arith, lt, one.as_many)) in
        (one.heard i (get_or old i y) y (omega (arith, lt, one.as_many)) was at).known

    seen : (i : ℕ) (z : PostView) → slice_get new i ≡ Some z → z.seen ≡ known
    seen i z at = let lt = at_within new i z at in (two.settled all).1 i z (omega (arith, lt, two.as_many)) at

    first_heard : (i : ℕ) (x : PostView) → slice_get old i ≡ Some x → HasHeard known x (get_or mid i x)
    first_heard i x at = one.heard i x (get_or mid i x) (at_within old i x at) at (at_mid i x at)

    then_heard : (i : ℕ) (x : PostView) → slice_get old i ≡ Some x → HasHeard last (get_or mid i x) (get_or new i x)
    then_heard i x at = let lt = at_within old i x at in two.heard i (get_or mid i x) (get_or new i x) (omega (arith, lt, one.as_many)) (at_mid i x at) (at_new i x at)

    twice : (i : ℕ) (x : PostView) → slice_get old i ≡ Some x → get_or new i x ≡ record x { seen = known }
    twice i x at = (then_heard i x at).rest ∙ ap (λ (post : PostView). record post { seen = (get_or new i x).seen }) (first_heard i x at).rest ∙ ap (λ (h : List Occurrence). record x { seen = h }) (seen i (get_or new i x) (at_new i x at))

    each : (i : ℕ) (x : PostView) → slice_get old i ≡ Some x → slice_get new i ≡ Some (record x { seen = known })
    each i x at = at_new i x at ∙ ap (λ (post : PostView). Some post) (twice i x at)

    joint : (i : ℕ) (x : PostView) → slice_get old i ≡ Some x → IsJoint known x
    joint i x at =
        let h1 = first_heard i x at in
        let h2 = then_heard i x at in
        let is : (get_or new i x).seen ≡ known = seen i (get_or new i x) (at_new i x at) in
        let mid_is = h1.rest in
        record {
          later = begins_onward x.seen (get_or mid i x).seen known h1.later h1.known;
          legal = subst (λ (h : List Occurrence). IsLegal x.board.size x.board.capacity h) is (subst (λ (post : PostView). IsLegal post.board.size post.board.capacity (get_or new i x).seen) mid_is h2.legal);
          own = subst (λ (h : List Occurrence). own h x.number ≡ x.made) is (subst (λ (post : PostView). own (get_or new i x).seen post.number ≡ post.made) mid_is h2.own);
        }

-- Notes at the posts of one board.

pub note_for : (t u : TableId) (m w : Mine) (x y : PostView) → IsNoteOf t m x → IsNoteOf t m y → IsNoteOf u w x → IsNoteOf u w y
note_for t u m w x y one two its = record {
  same = its.same ∙ sym one.same ∙ two.same;
  note = subst (λ (z : ℕ). IsNote z y.board.capacity w) (sym one.note.post.instances ∙ two.note.post.instances)
      (subst (λ (z : ℕ). IsNote x.board.size z w) (sym one.note.post.capacity ∙ two.note.post.capacity) its.note);
}

-- one round is enough if the note had all that they had seen
module _ (old new : List PostView) (first known : List Occurrence) (one : HaveHeard (length old) old first new known) (all : (i : ℕ) (x : PostView) → slice_get old i ≡ Some x → Begins x.seen first) where
  at_new : (i : ℕ) (x : PostView) → slice_get old i ≡ Some x → slice_get new i ≡ Some (get_or new i x)
  at_new i x at = let lt = at_within old i x at in slice_get-get_or new i x (omega (arith, lt, one.as_many))

  has_heard : (i : ℕ) (x : PostView) → slice_get old i ≡ Some x → HasHeard known x (get_or new i x)
  has_heard i x at = one.heard i x (get_or new i x) (at_within old i x at) at (at_new i x at)

  seen_first : (i : ℕ) (x : PostView) → slice_get old i ≡ Some x → (get_or new i x).seen ≡ first
  seen_first i x at = (one.settled all).1 i (get_or new i x) (at_within old i x at) (at_new i x at)

  pub all_seen : new ≡ map (λ (post : PostView). record post { seen = first }) old
  all_seen = same_map (λ (post : PostView). record post { seen = first }) old new one.as_many (λ i x at.
      at_new i x at ∙ ap (λ (post : PostView). Some post) ((has_heard i x at).rest ∙ ap (λ (h : List Occurrence). record x { seen = h }) (seen_first i x at)))

  pub met_once : HaveMet old new
  met_once = record {
    history = first;
    joint = λ i x at. record {
      later = all i x at;
      legal = subst (λ (h : List Occurrence). IsLegal x.board.size x.board.capacity h) (seen_first i x at) (has_heard i x at).legal;
      own = subst (λ (h : List Occurrence). own h x.number ≡ x.made) (seen_first i x at) (has_heard i x at).own;
    };
    seen = all_seen;
  }

pub still_notes : (old mid : List PostView) (first known : List Occurrence) (t : TableId) (m : Mine) → HaveHeard (length old) old first mid known → ((i : ℕ) (post : PostView) → slice_get old i ≡ Some post → IsNoteOf t m post) → (i : ℕ) (post : PostView) → slice_get mid i ≡ Some post → IsNoteOf t m post
still_notes old mid first known t m its notes i post at =
    let lt = at_within mid i post at in
    let was : slice_get old i ≡ Some (get_or old i post) = slice_get-get_or old i post (omega (arith, lt, its.as_many)) in
    let rest = (its.heard i (get_or old i post) post (omega (arith, lt, its.as_many)) was at).rest in
    let note = notes i (get_or old i post) was in
    subst (λ (z : PostView). IsNoteOf t m z) (sym rest) (record { same = note.same; note = note.note })

-- Whether all posts of the board are there.

pub are_all : (posts : List PostView) (x : PostView) → slice_get posts 0 ≡ Some x → ((p : ℕ) → 1 ≤ p → p ≤ x.board.size → HasPost posts p) → AreAll posts
are_all [] x at each = absurd (none_there x at)
are_all (y ∷ ys) x at each = λ p low high. each p low (subst (λ (z : PostView). p ≤ z.board.size) (some_one y x at) high)

pub not_all : (posts : List PostView) (x : PostView) → slice_get posts 0 ≡ Some x → (p : ℕ) → 1 ≤ p → p ≤ x.board.size → HasNoPost posts p → AreNotAll posts
not_all [] x at p low high none = tt
not_all (y ∷ ys) x at p low high none = (p, low, subst (λ (z : PostView). p ≤ z.board.size) (sym (some_one y x at)) high, none)

pub none_at_all : (posts : List PostView) → length posts ≡ 0 → AreNotAll posts
none_at_all [] none = tt
none_at_all (x ∷ xs) none = absurd (omega (arith, none))

pub has_one_more : (posts : List PostView) (i : ℕ) → ((p : ℕ) → 1 ≤ p → p ≤ i → HasPost posts p) → HasPost posts (i + 1) → (p : ℕ) → 1 ≤ p → p ≤ i + 1 → HasPost posts p
has_one_more posts i before last p low high =
    ⊎_elim (λ its. before p low its.1) (λ its. let same : i + 1 ≡ p = omega (arith, its.1, high) in subst (λ (z : ℕ). HasPost posts z) same last) (leb_tells p i)
