-- Counts of skipped constructs, one more at a time.
use Rattle.std.proofs.Common.{◌≡◌, ℕ, suc, ◌+◌, ◌-◌, ◌^◌, ◌<◌, ◌≤◌, ◌==◌, ◌&&◌, not, Bool, true, false, cond, List, [], ◌∷◌, ◌++◌, length, map, filter, min, None, Some, refl, sym, ap, ◌∙◌, subst, arith, eqb-true, lt-ltb}
use Rattle.std.specs.Prelude.{nat_lt}
use Rattle.std.specs.List.{list_any, position_or_len}
use Rattle.std.proofs.lemmas.Bool.{eqb-false, ltb-true, ltb-false}
use Rattle.diagrams.specs.Diagrams.{ArrowView, ItemView, AnArrow, ANote}
use Rattle.diagrams.specs.LeftOuts.{number_of, is_kind, one, and_one, with_one_at, with_one}
use Rattle.diagrams.specs.Losing.{with_lost, is_received_later}
use Rattle.diagrams.specs.Crossing as crossing
use Rattle.diagrams.specs.Places.{earlier}
use Rattle.diagrams.specs.declared.left_out.Kind.{Kind}
use Rattle.diagrams.specs.declared.left_out.Kind.TheVariants as kinds
use Rattle.diagrams.specs.declared.left_out.LeftOut.{LeftOut}
use Rattle.diagrams.specs.declared.place.Place.{Place}
use Rattle.diagram_laws.specs.Arrows.{arrows_of, notes_in, arrives, is_within, overtakes, is_passed, across, within, in_order, overtaking, not_passed, passed}
use Rattle.diagram_laws.specs.Counts.{count_of}
use Rattle.diagram_laws.proofs.Lists.{any_map}
use Rattle.diagram_laws.proofs.NumberedLemmas.{Numbered, arrow, noted}
use Rattle.diagram_laws.proofs.KeptLemmas.{to}

-- one more construct, found from the front
abbrev plus_one : Kind → Place → List LeftOut → List LeftOut
plus_one kind place [] = one kind place ∷ []
plus_one kind place (l ∷ ls) = cond (is_kind kind l) (and_one l place ∷ ls) (l ∷ plus_one kind place ls)

found : (kind : Kind) (place : Place) (ls : List LeftOut) → with_one ls kind place ≡ plus_one kind place ls
unfolding with_one
found kind place [] = refl
found kind place (l ∷ ls) = go (is_kind kind l) (found kind place ls)
  where
    p : ℕ
    p = position_or_len (is_kind kind) ls

    later : (i : ℕ) → i ≡ suc p → (its : Bool) → nat_lt p (length ls) ≡ its
        → with_one_at (l ∷ ls) kind place (cond (nat_lt i (suc (length ls))) (Some i) None) ≡ l ∷ with_one_at ls kind place (cond its (Some p) None)
    later i is true less = let within = ltb-true p (length ls) less in
        rw (lt-ltb i (suc (length ls)) (omega (arith, within, is))) (subst (λ k. with_one_at (l ∷ ls) kind place (Some k) ≡ l ∷ with_one_at ls kind place (Some p)) (sym is) refl)
    later i is false less = let past = ltb-false p (length ls) less in
        rw (not_less i (suc (length ls)) (omega (arith, past, is))) refl
      where
        not_less : (a b : ℕ) → b ≤ a → nat_lt a b ≡ false
        not_less a b le = by (nat_lt a b) refl
          where
            by : (c : Bool) → nat_lt a b ≡ c → c ≡ false
            by true e = let lt = ltb-true a b e in absurd (omega (arith, le, lt))
            by false e = refl

    go : (its : Bool) → with_one ls kind place ≡ plus_one kind place ls
        → with_one_at (l ∷ ls) kind place (cond (nat_lt (cond (not its) (1 + p) 0) (suc (length ls))) (Some (cond (not its) (1 + p) 0)) None) ≡ cond its (and_one l place ∷ ls) (l ∷ plus_one kind place ls)
    go true rest = rw (lt-ltb 0 (suc (length ls)) (omega arith)) refl
    go false rest = later (1 + p) (omega arith) (nat_lt p (length ls)) refl ∙ ap (λ x. l ∷ x) rest

-- the count of the kind is one more, those of the others stay
abbrev raised : Bool → ℕ → ℕ
raised its n = cond its (min (n + 1) (2 ^ 64 - 1)) n

count_plus : (k kind : Kind) (place : Place) (ls : List LeftOut) → count_of k (plus_one kind place ls) ≡ raised (number_of k == number_of kind) (count_of k ls)
unfolding count_of
count_plus k kind place [] = go (number_of k == number_of kind)
  where
    go : (its : Bool) → cond its 1 0 ≡ raised its 0
    go true = refl
    go false = refl
count_plus k kind place (l ∷ ls) = go (is_kind kind l) refl (is_kind k l) refl (number_of k == number_of kind) refl (count_plus k kind place ls)
  where
    go : (its : Bool) → is_kind kind l ≡ its → (own : Bool) → is_kind k l ≡ own → (same : Bool) → (number_of k == number_of kind) ≡ same → count_of k (plus_one kind place ls) ≡ raised same (count_of k ls)
        → count_of k (cond its (and_one l place ∷ ls) (l ∷ plus_one kind place ls)) ≡ raised same (cond own l.count (count_of k ls))
    go true e true f true g rest = rw f refl
    go true e true f false g rest = absurd (eqb-false (number_of k) (number_of kind) g (eqb-true (number_of k) (number_of l.kind) f ∙ sym (eqb-true (number_of kind) (number_of l.kind) e)))
    go true e false f true g rest = absurd (eqb-false (number_of k) (number_of l.kind) f (eqb-true (number_of k) (number_of kind) g ∙ eqb-true (number_of kind) (number_of l.kind) e))
    go true e false f false g rest = rw f refl
    go false e true f true g rest = absurd (eqb-false (number_of kind) (number_of l.kind) e (sym (eqb-true (number_of k) (number_of kind) g) ∙ eqb-true (number_of k) (number_of l.kind) f))
    go false e true f false g rest = rw f refl
    go false e false f same g rest = rw f rest

-- as many more of a kind, and no other kind has more
pub record Adds (kind : Kind) (n : ℕ) (old new : List LeftOut) : Type 0 where
  pub own : (k : Kind) → (number_of k == number_of kind) ≡ true → count_of k old + n < 2 ^ 64 → count_of k new ≡ count_of k old + n
  pub other : (k : Kind) → (number_of k == number_of kind) ≡ false → count_of k new ≡ count_of k old

pub adds_none : (kind : Kind) (ls : List LeftOut) → Adds kind 0 ls ls
adds_none kind ls = record { own = λ k e few. omega arith; other = λ k e. refl }

-- one more after these
adds_after : (kind : Kind) (n : ℕ) (place : Place) (old new : List LeftOut) → Adds kind n old new → Adds kind (suc n) old (with_one new kind place)
adds_after kind n place old new adds = record {
  own = λ k e few. ap (count_of k) (found kind place new) ∙ count_plus k kind place new ∙ ap (λ b. raised b (count_of k new)) e ∙ (let before = adds.own k e (omega (arith, few)) in omega (arith, before, few));
  other = λ k e. ap (count_of k) (found kind place new) ∙ count_plus k kind place new ∙ ap (λ b. raised b (count_of k new)) e ∙ adds.other k e;
}

-- one more before these
pub adds_before : (kind : Kind) (n : ℕ) (place : Place) (old new : List LeftOut) → Adds kind n (with_one old kind place) new → Adds kind (suc n) old new
adds_before kind n place old new adds = record {
  own = λ k e few. let first = one_more k e (omega (arith, few)) in let rest = adds.own k e (omega (arith, few, first)) in omega (arith, rest, first);
  other = λ k e. adds.other k e ∙ ap (count_of k) (found kind place old) ∙ count_plus k kind place old ∙ ap (λ b. raised b (count_of k old)) e;
}
  where
    one_more : (k : Kind) → (number_of k == number_of kind) ≡ true → count_of k old + 1 < 2 ^ 64 → count_of k (with_one old kind place) ≡ count_of k old + 1
    one_more k e few = ap (count_of k) (found kind place old) ∙ count_plus k kind place old ∙ ap (λ b. raised b (count_of k old)) e ∙ omega (arith, few)

-- notes
pub notes_added : (left_out : List LeftOut) (items : List ItemView) → Adds kinds.Note (notes_in items) left_out (noted left_out items)
unfolding notes_in
notes_added left_out [] = adds_none kinds.Note left_out
notes_added left_out (AnArrow a ∷ items) = notes_added left_out items
notes_added left_out (ANote n ∷ items) = adds_before kinds.Note (notes_in items) n.place left_out (noted left_out (ANote n ∷ items)) (notes_added (with_one left_out kinds.Note n.place) items)

-- lost arrows that a later one passes
pub lost_added : (at : ℕ → ℕ) (left_out : List LeftOut) (xs : List Numbered) → Adds kinds.LostMessage (length (passed at (map arrow xs))) left_out (with_lost left_out (map (to at) xs))
unfolding passed with_lost is_received_later
lost_added at left_out [] = adds_none kinds.LostMessage left_out
lost_added at left_out (x ∷ xs) =
    subst (λ b. Adds kinds.LostMessage (length (cond (x.1.is_lost && list_any (arrives at (at x.1.sender) (at x.1.receiver)) (map arrow xs)) (x.1 ∷ passed at (map arrow xs)) (passed at (map arrow xs)))) left_out
    (cond (x.1.is_lost && b) (with_one (with_lost left_out (map (to at) xs)) kinds.LostMessage x.1.place) (with_lost left_out (map (to at) xs))))
    (sym (any_map (to at) (crossing.is_received (at x.1.sender) (at x.1.receiver)) xs))
    (subst (λ b. Adds kinds.LostMessage (length (cond (x.1.is_lost && b) (x.1 ∷ passed at (map arrow xs)) (passed at (map arrow xs)))) left_out
    (cond (x.1.is_lost && list_any (λ y. arrives at (at x.1.sender) (at x.1.receiver) y.1) xs) (with_one (with_lost left_out (map (to at) xs)) kinds.LostMessage x.1.place) (with_lost left_out (map (to at) xs))))
    (sym (any_map arrow (arrives at (at x.1.sender) (at x.1.receiver)) xs))
    (go (x.1.is_lost && list_any (λ y. arrives at (at x.1.sender) (at x.1.receiver) y.1) xs) (lost_added at left_out xs)))
  where
    go : (its : Bool) → Adds kinds.LostMessage (length (passed at (map arrow xs))) left_out (with_lost left_out (map (to at) xs))
        → Adds kinds.LostMessage (length (cond its (x.1 ∷ passed at (map arrow xs)) (passed at (map arrow xs)))) left_out
        (cond its (with_one (with_lost left_out (map (to at) xs)) kinds.LostMessage x.1.place) (with_lost left_out (map (to at) xs)))
    go true rest = adds_after kinds.LostMessage (length (passed at (map arrow xs))) x.1.place left_out (with_lost left_out (map (to at) xs)) rest
    go false rest = rest

-- Sizes.

parted : {A : Type 0} (test : A → Bool) (xs : List A) → length (filter (λ x. not (test x)) xs) + length (filter test xs) ≡ length xs
parted test [] = refl
parted test (x ∷ xs) = go (test x) (parted test xs)
  where
    go : (its : Bool) → length (filter (λ y. not (test y)) xs) + length (filter test xs) ≡ length xs
        → length (cond (not its) (x ∷ filter (λ y. not (test y)) xs) (filter (λ y. not (test y)) xs)) + length (cond its (x ∷ filter test xs) (filter test xs)) ≡ suc (length xs)
    go true rest = omega (arith, rest)
    go false rest = omega (arith, rest)

pub items_size : (items : List ItemView) → length (arrows_of items) + notes_in items ≡ length items
unfolding arrows_of notes_in
items_size [] = refl
items_size (AnArrow a ∷ items) = let rest = items_size items in omega (arith, rest)
items_size (ANote n ∷ items) = let rest = items_size items in omega (arith, rest)

pub across_size : (at : ℕ → ℕ) (arrows : List ArrowView) → length (across at arrows) + length (within at arrows) ≡ length arrows
across_size at arrows = parted (is_within at) arrows

pub order_size : (at : ℕ → ℕ) (earlier arrows : List ArrowView) → length (in_order at earlier arrows) + length (overtaking at earlier arrows) ≡ length arrows
unfolding in_order overtaking
order_size at earlier [] = refl
order_size at earlier (a ∷ arrows) = go (list_any (overtakes at a) earlier) (order_size at (earlier ++ a ∷ []) arrows)
  where
    go : (its : Bool) → length (in_order at (earlier ++ a ∷ []) arrows) + length (overtaking at (earlier ++ a ∷ []) arrows) ≡ length arrows
        → length (cond its (in_order at (earlier ++ a ∷ []) arrows) (a ∷ in_order at (earlier ++ a ∷ []) arrows)) + length (cond its (a ∷ overtaking at (earlier ++ a ∷ []) arrows) (overtaking at (earlier ++ a ∷ []) arrows)) ≡ suc (length arrows)
    go true rest = omega (arith, rest)
    go false rest = omega (arith, rest)

pub passed_size : (at : ℕ → ℕ) (arrows : List ArrowView) → length (not_passed at arrows) + length (passed at arrows) ≡ length arrows
unfolding not_passed passed
passed_size at [] = refl
passed_size at (a ∷ arrows) = go (is_passed at a arrows) (passed_size at arrows)
  where
    go : (its : Bool) → length (not_passed at arrows) + length (passed at arrows) ≡ length arrows
        → length (cond its (not_passed at arrows) (a ∷ not_passed at arrows)) + length (cond its (a ∷ passed at arrows) (passed at arrows)) ≡ suc (length arrows)
    go true rest = omega (arith, rest)
    go false rest = omega (arith, rest)
