-- A line with one event more behind its first k: where its events are, and how many of them pass a test.
use Rattle.std.proofs.Common.{◌≡◌, ℕ, zero, suc, ◌+◌, ◌<◌, ◌≤◌, ◌⊎◌, inl, inr, Bool, false, cond, List, [], ◌∷◌, length, take, drop, Some, None, count_by, refl, sym, ap, ◌∙◌, arith, add-one, length-take}
use Rattle.std.specs.List.{insert}
use Rattle.std.proofs.lemmas.Bool.{cases_lt, le-leb}
use Rattle.std.proofs.lemmas.Bool.Decides.{leb_tells}
use Rattle.std.proofs.lemmas.List.Sums.{sum_by-cons}
use Rattle.chart.specs.declared.event.Event.{Event}
use Rattle.chart.specs.Events.{ith, tally}
use Rattle.chart.proofs.Tally.{ith-append, ith-append_next, ith-take, ith_within, tally_all}
use Rattle.repair.specs.Messages.{moved_index}

-- an event that keeps its number, and one that doesn't
pub moved_below : (k i : ℕ) → i ≤ k → moved_index k i ≡ i
moved_below k i low = ap (λ b. cond {A = ℕ} b i (i + 1)) (le-leb i k low)

pub moved_above : (k i : ℕ) → k < i → moved_index k i ≡ i + 1
moved_above k i high = elim (leb_tells i k) [
  | inl w ↦ absurd (omega (arith, w.1))
  | inr w ↦ ap (λ b. cond {A = ℕ} b i (i + 1)) w.0
]

-- which of the two it is
pub moved_cases : (k i : ℕ) → ((i ≤ k) × (moved_index k i ≡ i)) ⊎ ((k < i) × (moved_index k i ≡ i + 1))
moved_cases k i = elim (cases_lt k i) [ inl w ↦ inr (w, moved_above k i w) | inr w ↦ inl (w, moved_below k i w) ]

-- events stay in order, and none is moved to the new one's number
pub moved-lt : (k i j : ℕ) → i < j → moved_index k i < moved_index k j
moved-lt k i j less = elim (moved_cases k i) [
  | inl v ↦ elim (moved_cases k j) [ inl w ↦ omega (arith, v.1, w.1) | inr w ↦ omega (arith, v.1, w.1) ]
  | inr v ↦ elim (moved_cases k j) [ inl w ↦ omega (arith, v, w) | inr w ↦ omega (arith, v.1, w.1) ]
]

pub lt-moved : (k i j : ℕ) → moved_index k i < moved_index k j → i < j
lt-moved k i j less = elim (moved_cases k i) [
  | inl v ↦ elim (moved_cases k j) [ inl w ↦ omega (arith, v.1, w.1) | inr w ↦ omega (arith, v, w) ]
  | inr v ↦ elim (moved_cases k j) [ inl w ↦ omega (arith, v, w) | inr w ↦ omega (arith, v.1, w.1) ]
]

pub moved_same : (k i j : ℕ) → moved_index k i ≡ moved_index k j → i ≡ j
moved_same k i j same = elim (moved_cases k i) [
  | inl v ↦ elim (moved_cases k j) [ inl w ↦ omega (arith, v.1, w.1) | inr w ↦ absurd (omega (arith, v, w)) ]
  | inr v ↦ elim (moved_cases k j) [ inl w ↦ absurd (omega (arith, v, w)) | inr w ↦ omega (arith, v.1, w.1) ]
]

pub moved_other : (k i : ℕ) → moved_index k i ≡ k + 1 → ⊥
moved_other k i same = elim (moved_cases k i) [ inl v ↦ omega (arith, v.0, v.1) | inr v ↦ omega (arith, v.0, v.1) ]

pub moved_begun : (k i : ℕ) → 1 ≤ i → 1 ≤ moved_index k i
moved_begun k i low = elim (moved_cases k i) [ inl v ↦ omega (arith, v.1) | inr v ↦ omega (arith, v.1) ]

pub begun_moved : (k i : ℕ) → 1 ≤ moved_index k i → 1 ≤ i
begun_moved k i low = elim (moved_cases k i) [ inl v ↦ omega (arith, v.1) | inr v ↦ omega (arith, v.0) ]

-- the elements of a list with one more
pub ith-insert_below : {X : Type 0} (xs : List X) (k : ℕ) (y : X) (i : ℕ) → k ≤ length xs → i ≤ k → ith (insert xs k y) i ≡ ith xs i
ith-insert_below xs k y i within low =
    ith-append (take k xs) (y ∷ drop k xs) i (omega (arith, length-take k xs)) ∙ ith-take k xs i low

pub ith-insert_at : {X : Type 0} (xs : List X) (k : ℕ) (y : X) → k ≤ length xs → ith (insert xs k y) (k + 1) ≡ Some y
ith-insert_at xs k y within =
    let n : k + 1 ≡ suc (length (take k xs)) = omega (arith, length-take k xs) in
    ap (ith (insert xs k y)) n ∙ ith-append_next (take k xs) (drop k xs) y

ith-insert_later : {X : Type 0} (xs : List X) (k : ℕ) (y : X) (i : ℕ) → k ≤ length xs → k < i → ith (insert xs k y) (suc i) ≡ ith xs i
ith-insert_later xs zero y zero within high = absurd (omega arith)
ith-insert_later xs zero y (suc i) within high = refl
ith-insert_later [] (suc k) y i within high = absurd (omega arith)
ith-insert_later (x ∷ xs) (suc k) y zero within high = absurd (omega arith)
ith-insert_later (x ∷ xs) (suc k) y (suc zero) within high = absurd (omega arith)
ith-insert_later (x ∷ xs) (suc k) y (suc (suc i)) within high = ith-insert_later xs k y (suc i) (omega arith) (omega arith)

pub ith-insert_above : {X : Type 0} (xs : List X) (k : ℕ) (y : X) (i : ℕ) → k ≤ length xs → k < i → ith (insert xs k y) (i + 1) ≡ ith xs i
ith-insert_above xs k y i within high = ap (ith (insert xs k y)) (add-one i) ∙ ith-insert_later xs k y i within high

-- the first so many of them
take-insert_below : {X : Type 0} (xs : List X) (k : ℕ) (y : X) (i : ℕ) → k ≤ length xs → i ≤ k → take i (insert xs k y) ≡ take i xs
take-insert_below xs k y zero within low = refl
take-insert_below xs zero y (suc i) within low = absurd (omega arith)
take-insert_below [] (suc k) y (suc i) within low = absurd (omega arith)
take-insert_below (x ∷ xs) (suc k) y (suc i) within low = ap (λ l. x ∷ l) (take-insert_below xs k y i (omega arith) (omega arith))

pub take-insert_above : {X : Type 0} (xs : List X) (k : ℕ) (y : X) (i : ℕ) → k ≤ length xs → k ≤ i → take (suc i) (insert xs k y) ≡ insert (take i xs) k y
take-insert_above xs zero y i within high = refl
take-insert_above [] (suc k) y i within high = absurd (omega arith)
take-insert_above (x ∷ xs) (suc k) y zero within high = absurd (omega arith)
take-insert_above (x ∷ xs) (suc k) y (suc i) within high = ap (λ l. x ∷ l) (take-insert_above xs k y i (omega arith) (omega arith))

-- how many of a list with one more pass
count-insert : (test : Event → Bool) (xs : List Event) (k : ℕ) (y : Event) → k ≤ length xs → count_by test (insert xs k y) ≡ count_by test xs + cond {A = ℕ} (test y) 1 0
count-insert test xs zero y within = let e = sum_by-cons (λ z. cond {A = ℕ} (test z) 1 0) y xs in omega (arith, e)
count-insert test [] (suc k) y within = absurd (omega arith)
count-insert test (x ∷ xs) (suc k) y within =
    let e = count-insert test xs k y (omega arith) in
    let f = sum_by-cons (λ z. cond {A = ℕ} (test z) 1 0) x (insert xs k y) in
    let g = sum_by-cons (λ z. cond {A = ℕ} (test z) 1 0) x xs in
    omega (arith, e, f, g)

pub tally-insert_below : (test : Event → Bool) (xs : List Event) (k : ℕ) (y : Event) (i : ℕ) → k ≤ length xs → i ≤ k → tally test (insert xs k y) i ≡ tally test xs i
tally-insert_below test xs k y i within low = ap (count_by test) (take-insert_below xs k y i within low)

pub tally-insert_above : (test : Event → Bool) (xs : List Event) (k : ℕ) (y : Event) (i : ℕ) → k ≤ length xs → k ≤ i → tally test (insert xs k y) (i + 1) ≡ tally test xs i + cond {A = ℕ} (test y) 1 0
tally-insert_above test xs k y i within high =
    let front = take-insert_above xs k y i within high in
    let enough : k ≤ length (take i xs) = omega (arith, length-take i xs) in
    ap (tally test (insert xs k y)) (add-one i) ∙ ap (count_by test) front ∙ count-insert test (take i xs) k y enough

-- A line that has an event more behind its first k, or is as it was and has no more than k.

pub record IsGrown (old new : List Event) (k : ℕ) : Type 0 where
  pub within : k ≤ length old
  pub is : ((new ≡ old) × (k ≡ length old)) ⊎ ((y : Event) × (new ≡ insert old k y))

-- each old event is in its place
pub ith-moved : (old new : List Event) (k i : ℕ) → IsGrown old new k → ith new (moved_index k i) ≡ ith old i
ith-moved old new k i grown = by grown.is (moved_cases k i)
  where
    past : (xs : List Event) (j : ℕ) → length xs < j → ith xs j ≡ None
    past xs zero high = refl
    past [] (suc j) high = refl
    past (x ∷ xs) (suc zero) high = absurd (omega arith)
    past (x ∷ xs) (suc (suc j)) high = past xs (suc j) (omega arith)

    by : ((new ≡ old) × (k ≡ length old)) ⊎ ((y : Event) × (new ≡ insert old k y)) → ((i ≤ k) × (moved_index k i ≡ i)) ⊎ ((k < i) × (moved_index k i ≡ i + 1)) → ith new (moved_index k i) ≡ ith old i
    by (inl same) (inl low) = ap (ith new) low.1 ∙ ap (λ l. ith l i) same.0
    by (inl same) (inr high) = ap (ith new) high.1 ∙ ap (λ l. ith l (i + 1)) same.0 ∙ past old (i + 1) (omega (arith, high.0, same.1)) ∙ sym (past old i (omega (arith, high.0, same.1)))
    by (inr more) (inl low) = ap (ith new) low.1 ∙ ap (λ l. ith l i) more.1 ∙ ith-insert_below old k more.0 i grown.within low.0
    by (inr more) (inr high) = ap (ith new) high.1 ∙ ap (λ l. ith l (i + 1)) more.1 ∙ ith-insert_above old k more.0 i grown.within high.0

-- of a test that a new event wouldn't pass as many pass up to it
pub tally-moved : (test : Event → Bool) (old new : List Event) (k i : ℕ) → IsGrown old new k → ((y : Event) → new ≡ insert old k y → test y ≡ false) → tally test new (moved_index k i) ≡ tally test old i
tally-moved test old new k i grown fails = by grown.is (moved_cases k i)
  where
    by : ((new ≡ old) × (k ≡ length old)) ⊎ ((y : Event) × (new ≡ insert old k y)) → ((i ≤ k) × (moved_index k i ≡ i)) ⊎ ((k < i) × (moved_index k i ≡ i + 1)) → tally test new (moved_index k i) ≡ tally test old i
    by (inl same) (inl low) = ap (tally test new) low.1 ∙ ap (λ l. tally test l i) same.0
    by (inl same) (inr high) = ap (tally test new) high.1 ∙ ap (λ l. tally test l (i + 1)) same.0 ∙ tally_all test old (i + 1) (omega (arith, high.0, same.1)) ∙ sym (tally_all test old i (omega (arith, high.0, same.1)))
    by (inr more) (inl low) = ap (tally test new) low.1 ∙ ap (λ l. tally test l i) more.1 ∙ tally-insert_below test old k more.0 i grown.within low.0
    by (inr more) (inr high) =
        let e = rw (fails more.0 more.1) at (tally-insert_above test old k more.0 i grown.within (omega (arith, high.0))) in
        ap (tally test new) high.1 ∙ ap (λ l. tally test l (i + 1)) more.1 ∙ omega (arith, e)

-- an event of the new line is an old one, or the new one
pub from_grown : (old new : List Event) (k j : ℕ) (x : Event) → IsGrown old new k → ith new j ≡ Some x
    → ((i : ℕ) × (1 ≤ i) × (j ≡ moved_index k i) × (ith old i ≡ Some x)) ⊎ ((j ≡ k + 1) × ((y : Event) × (new ≡ insert old k y)))
from_grown old new k j x grown here = by grown.is (cases_lt k j)
  where
    low : (j ≤ k) → ith old j ≡ Some x → ((i : ℕ) × (1 ≤ i) × (j ≡ moved_index k i) × (ith old i ≡ Some x)) ⊎ ((j ≡ k + 1) × ((y : Event) × (new ≡ insert old k y)))
    low le at_j = inl (j, (ith_within old j x at_j).0, sym (moved_below k j le), at_j)

    high : (i : ℕ) → j ≡ i + 1 → k < i → (y : Event) → new ≡ insert old k y → ((i : ℕ) × (1 ≤ i) × (j ≡ moved_index k i) × (ith old i ≡ Some x)) ⊎ ((j ≡ k + 1) × ((y : Event) × (new ≡ insert old k y)))
    high i e above y its =
        let at_i : ith old i ≡ Some x = sym (ith-insert_above old k y i grown.within above) ∙ ap (λ l. ith l (i + 1)) (sym its) ∙ ap (ith new) (sym e) ∙ here in
        inl (i, omega arith, e ∙ sym (moved_above k i above), at_i)

    by : ((new ≡ old) × (k ≡ length old)) ⊎ ((y : Event) × (new ≡ insert old k y)) → (k < j) ⊎ (j ≤ k) → ((i : ℕ) × (1 ≤ i) × (j ≡ moved_index k i) × (ith old i ≡ Some x)) ⊎ ((j ≡ k + 1) × ((y : Event) × (new ≡ insert old k y)))
    by (inl same) past =
        let at_j : ith old j ≡ Some x = ap (λ l. ith l j) (sym same.0) ∙ here in
        low (omega (arith, same.1, (ith_within old j x at_j).1)) at_j
    by (inr more) (inr le) = low le (sym (ith-insert_below old k more.0 j grown.within le) ∙ ap (λ l. ith l j) (sym more.1) ∙ here)
    by (inr more) (inl past) = beyond j refl (cases_lt (k + 1) j)
      where
        beyond : (i : ℕ) → j ≡ i → (k + 1 < j) ⊎ (j ≤ k + 1) → ((i : ℕ) × (1 ≤ i) × (j ≡ moved_index k i) × (ith old i ≡ Some x)) ⊎ ((j ≡ k + 1) × ((y : Event) × (new ≡ insert old k y)))
        beyond i e (inr le) = inr (omega arith, more)
        beyond zero e (inl more_than) = absurd (omega arith)
        beyond (suc i) e (inl more_than) = high i (omega (arith, e)) (omega (arith, e)) more.0 more.1
