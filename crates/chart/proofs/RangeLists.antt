-- Lists of events and the ranges that they are kept as.
use Rattle.std.proofs.Common.{◌≡◌, ℕ, zero, suc, ◌+◌, ◌<◌, Bool, true, false, ◌&&◌, ◌==◌, List, [], ◌∷◌, ◌++◌, length, reverse, take, drop, get_or, All, refl, sym, ap, ap₂, ◌∙◌, subst, arith, append_assoc}
use Rattle.std.specs.Cmp.{first_so, second_so}
use Rattle.std.proofs.lemmas.Bool.{eq-eqb, eqb-true, false_from_ne_true}
use Rattle.std.proofs.lemmas.List.{reverse-append, length-append, take_more, flat_map_more}
use Rattle.std.proofs.lemmas.List.Elements.{All-nil, All-cons, All-head, All-tail}
use Rattle.chart.specs.declared.instance.EventNo.{EventNo}
use Rattle.chart.specs.declared.ranges.EventRange.{EventRange}
use Rattle.chart.specs.Ranges.{events_from, events_of, events_in, IsRange, IsWithinFirst, is_followed_by, both_before, range_before, ranges_of, AreRanges}

-- n events, and m after them
pub events_from-more : (p i n m : ℕ) → events_from p i (n + m) ≡ events_from p i n ++ events_from p (i + n) m
events_from-more p i zero m =
    let none : zero + m ≡ m = omega arith in
    let here : i ≡ i + zero = omega arith in
    ap (events_from p i) none ∙ ap (λ k. events_from p k m) here
events_from-more p i (suc n) m =
    let one : suc n + m ≡ suc (n + m) = omega arith in
    let next : i + 1 + n ≡ i + suc n = omega arith in
    ap (events_from p i) one ∙ ap (λ es. record { instance = p; index = i } ∷ es) (events_from-more p (i + 1) n m ∙ ap (λ k. events_from p (i + 1) n ++ events_from p k m) next)

-- what it means that one range begins where another one ends
pub followed-is : (r s : EventRange) → is_followed_by r s ≡ true → (r.first.instance ≡ s.first.instance) × (r.first.index + r.count ≡ s.first.index)
followed-is r s e =
    let a = r.first.instance == s.first.instance in
    let b = r.first.index + r.count == s.first.index in
    (eqb-true _ _ (first_so a b e), eqb-true _ _ (second_so a b e))

is-followed : (r s : EventRange) → r.first.instance ≡ s.first.instance → r.first.index + r.count ≡ s.first.index → is_followed_by r s ≡ true
is-followed r s e f = ap₂ (λ a b. a && b) (eq-eqb _ _ e) (eq-eqb _ _ f)

-- the events of a range before others
pub events_in-before : (r : EventRange) (ranges : List EventRange) → events_in (range_before r ranges) ≡ events_of r ++ events_in ranges
events_in-before r [] = refl
events_in-before r (s ∷ ranges) = by (is_followed_by r s) refl
  where
    by : (b : Bool) → is_followed_by r s ≡ b → events_in (both_before b r s ranges) ≡ events_of r ++ events_in (s ∷ ranges)
    by false e = refl
    by true e =
        let w = followed-is r s e in
        let behind : events_from r.first.instance (r.first.index + r.count) s.count ≡ events_of s = ap₂ (λ p i. events_from p i s.count) w.0 w.1 in
        ap (λ es. es ++ events_in ranges) (events_from-more r.first.instance r.first.index r.count s.count ∙ ap (λ es. events_of r ++ es) behind)
        ∙ append_assoc (events_of r) (events_of s) (events_in ranges)

-- a range of p's line
abbrev pub range_at : ℕ → ℕ → ℕ → EventRange
range_at p i n = record { first = record { instance = p; index = i }; count = n }

-- one event before a range before others
one_before : (p i n : ℕ) (ranges : List EventRange) → range_before (range_at p i 1) (range_before (range_at p (i + 1) n) ranges) ≡ range_before (range_at p i (suc n)) ranges
one_before p i n [] =
    let one : 1 + n ≡ suc n = omega arith in
    ap (λ b. both_before b (range_at p i 1) (range_at p (i + 1) n) []) (is-followed (range_at p i 1) (range_at p (i + 1) n) refl refl) ∙ ap (λ k. range_at p i k ∷ []) one
one_before p i n (s ∷ ranges) = by (is_followed_by (range_at p (i + 1) n) s) refl
  where
    same : is_followed_by (range_at p i (suc n)) s ≡ is_followed_by (range_at p (i + 1) n) s
    same = let end : i + suc n ≡ i + 1 + n = omega arith in ap (λ k. (p == s.first.instance) && (k == s.first.index)) end

    by : (b : Bool) → is_followed_by (range_at p (i + 1) n) s ≡ b → range_before (range_at p i 1) (both_before b (range_at p (i + 1) n) s ranges) ≡ both_before (is_followed_by (range_at p i (suc n)) s) (range_at p i (suc n)) s ranges
    by true was =
        let count : 1 + (n + s.count) ≡ suc n + s.count = omega arith in
        ap (λ b. both_before b (range_at p i 1) (range_at p (i + 1) (n + s.count)) ranges) (is-followed (range_at p i 1) (range_at p (i + 1) (n + s.count)) refl refl)
        ∙ ap (λ k. range_at p i k ∷ ranges) count ∙ ap (λ b. both_before b (range_at p i (suc n)) s ranges) (sym (same ∙ was))
    by false was =
        let one : 1 + n ≡ suc n = omega arith in
        ap (λ b. both_before b (range_at p i 1) (range_at p (i + 1) n) (s ∷ ranges)) (is-followed (range_at p i 1) (range_at p (i + 1) n) refl refl)
        ∙ ap (λ k. range_at p i k ∷ s ∷ ranges) one ∙ ap (λ b. both_before b (range_at p i (suc n)) s ranges) (sym (same ∙ was))

-- the fewest ranges of the events of a range and of others
ranges_of-more : (p i n : ℕ) (events : List EventNo) → ranges_of (events_from p i (suc n) ++ events) ≡ range_before (range_at p i (suc n)) (ranges_of events)
ranges_of-more p i zero events = refl
ranges_of-more p i (suc n) events = ap (range_before (range_at p i 1)) (ranges_of-more p (i + 1) n events) ∙ one_before p i (suc n) (ranges_of events)

ranges_of-range : (p i n : ℕ) (events : List EventNo) → 0 < n → ranges_of (events_from p i n ++ events) ≡ range_before (range_at p i n) (ranges_of events)
ranges_of-range p i zero events some = absurd (omega (arith, some))
ranges_of-range p i (suc n) events some = ranges_of-more p i n events

-- each element stays a range if one is put before others
IsRange-before : (r : EventRange) (ranges : List EventRange) → IsRange r → All IsRange ranges → All IsRange (range_before r ranges)
IsRange-before r [] is each = All-cons IsRange r [] is each
IsRange-before r (s ∷ ranges) is each = by (is_followed_by r s) refl
  where
    by : (b : Bool) → is_followed_by r s ≡ b → All IsRange (both_before b r s ranges)
    by false was = All-cons IsRange r (s ∷ ranges) is each
    by true was =
        let w = followed-is r s was in
        let next = All-head IsRange s ranges each in
        All-cons IsRange (record { first = r.first; count = r.count + s.count }) ranges
        (record { some = omega (arith, is.some); within = omega (arith, w.1, next.within) }) (All-tail IsRange s ranges each)

-- a range before others leaves a list of ranges
pub AreRanges-before : (r : EventRange) (ranges : List EventRange) → IsRange r → AreRanges ranges → AreRanges (range_before r ranges)
AreRanges-before r ranges is are = record {
  each = IsRange-before r ranges is are.each;
  fewest = ap ranges_of (events_in-before r ranges) ∙ ranges_of-range r.first.instance r.first.index r.count (events_in ranges) is.some ∙ ap (range_before r) are.fewest;
}

pub AreRanges-none : AreRanges []
AreRanges-none = record { each = All-nil IsRange; fewest = refl }

-- only one list of ranges has these events
pub one_list : (ranges others : List EventRange) → AreRanges ranges → AreRanges others → events_in ranges ≡ events_in others → ranges ≡ others
one_list ranges others are also same = sym are.fewest ∙ ap ranges_of same ∙ also.fewest

-- ranges have an event
pub some_event : (r : EventRange) (ranges : List EventRange) → All IsRange (r ∷ ranges) → 0 < length (events_in (r ∷ ranges))
some_event r ranges each = by r.first.instance r.first.index r.count (All-head IsRange r ranges each).some
  where
    by : (p i n : ℕ) → 0 < n → 0 < length (events_from p i n ++ events_in ranges)
    by p i zero some = absurd (omega (arith, some))
    by p i (suc n) some = omega arith

no_zero : (n : ℕ) → (suc n == 0) ≡ false
no_zero n = false_from_ne_true (suc n == 0) (λ zero_n. let same : suc n ≡ 0 = eqb-true (suc n) 0 zero_n in absurd (omega arith))

-- there are events exactly if there are ranges
pub none_of : (ranges : List EventRange) → All IsRange ranges → (length ranges == 0) ≡ (length (events_in ranges) == 0)
none_of [] each = refl
none_of (r ∷ ranges) each = by (length ranges) (length (events_in (r ∷ ranges))) (some_event r ranges each)
  where
    by : (m n : ℕ) → 0 < n → (suc m == 0) ≡ (n == 0)
    by m zero some = absurd (omega (arith, some))
    by m (suc n) some = no_zero m ∙ sym (no_zero n)

-- without events there are no ranges
pub no_range : (ranges : List EventRange) (i : ℕ) → All IsRange ranges → events_in ranges ≡ [] → i < length ranges → ⊥
no_range [] i each none within = omega (arith, within)
no_range (r ∷ ranges) i each none within = omega (arith, some_event r ranges each, ap length none)

-- one more event of a range
pub events_from-next : (p i n : ℕ) (before : List EventNo) → (before ++ events_from p i n) ++ record { instance = p; index = i + n } ∷ [] ≡ before ++ events_from p i (n + 1)
events_from-next p i n before = append_assoc before (events_from p i n) (record { instance = p; index = i + n } ∷ []) ∙ ap (λ es. before ++ es) (sym (events_from-more p i n 1))

-- Ranges in the opposite order, the last one first: a range that is put before the others is added at the end.

before_last : (x : EventRange) (front : List EventRange) → reverse (front ++ x ∷ []) ≡ x ∷ reverse front
before_last x front = reverse-append front (x ∷ [])

pub joined_last : (r s : EventRange) (old front now : List EventRange) → is_followed_by r s ≡ true → old ≡ front ++ s ∷ [] → now ≡ front ++ record { first = r.first; count = r.count + s.count } ∷ []
    → reverse now ≡ range_before r (reverse old)
joined_last r s old front now goes_on was is =
    ap reverse is ∙ before_last (record { first = r.first; count = r.count + s.count }) front ∙ ap (λ b. both_before b r s (reverse front)) (sym goes_on) ∙ ap (range_before r) (sym (before_last s front)) ∙ ap (λ xs. range_before r (reverse xs)) (sym was)

pub apart_last : (r s : EventRange) (old front now : List EventRange) → is_followed_by r s ≡ false → old ≡ front ++ s ∷ [] → now ≡ (front ++ s ∷ []) ++ r ∷ [] → reverse now ≡ range_before r (reverse old)
apart_last r s old front now apart was is =
    ap reverse is ∙ before_last r (front ++ s ∷ []) ∙ ap (λ xs. r ∷ xs) (before_last s front) ∙ ap (λ b. both_before b r s (reverse front)) (sym apart) ∙ ap (range_before r) (sym (before_last s front)) ∙ ap (λ xs. range_before r (reverse xs)) (sym was)

pub none_last : (r : EventRange) (old front now : List EventRange) → length front ≡ 0 → old ≡ front ++ [] → now ≡ front ++ r ∷ [] → reverse now ≡ range_before r (reverse old)
none_last r old [] now none was is = ap reverse is ∙ ap (λ xs. range_before r (reverse xs)) (sym was)
none_last r old (x ∷ front) now none was is = absurd (omega (arith, none))

pub AreRanges-put : (r : EventRange) (old now : List EventRange) → IsRange r → AreRanges (reverse old) → reverse now ≡ range_before r (reverse old) → AreRanges (reverse now)
AreRanges-put r old now is are put = subst AreRanges (sym put) (AreRanges-before r (reverse old) is are)

pub events_in-put : (r : EventRange) (old now : List EventRange) → reverse now ≡ range_before r (reverse old) → events_in (reverse now) ≡ events_of r ++ events_in (reverse old)
events_in-put r old now put = ap events_in put ∙ events_in-before r (reverse old)

-- Reads of a range's events.

pub events_from-length : (p i n : ℕ) → length (events_from p i n) ≡ n
events_from-length p i zero = refl
events_from-length p i (suc n) = ap suc (events_from-length p (i + 1) n)

pub event_read : (r : EventRange) (k : ℕ) (e : EventNo) → k < r.count → e ≡ record { instance = r.first.instance; index = r.first.index + k } → e ≡ get_or (events_of r) k e
event_read r k e within is = is ∙ sym (by r.first.instance r.first.index r.count k within)
  where
    by : (p i n k : ℕ) → k < n → get_or (events_from p i n) k e ≡ record { instance = p; index = i + k }
    by p i zero k within = absurd (omega (arith, within))
    by p i (suc n) zero within = let here : i ≡ i + zero = omega arith in ap (λ j. record { instance = p; index = j }) here
    by p i (suc n) (suc k) within = let next : i + 1 + k ≡ i + suc k = omega arith in by p (i + 1) n k (omega (arith, within)) ∙ ap (λ j. record { instance = p; index = j }) next

-- one more range
pub events_in-more : (ranges : List EventRange) (k : ℕ) (d : EventRange) → k < length ranges → length (events_in (take (k + 1) ranges)) ≡ length (events_in (take k ranges)) + (get_or ranges k d).count
events_in-more ranges k d within =
    let r = get_or ranges k d in
    ap length (ap events_in (take_more ranges k d within) ∙ sym (flat_map_more events_of [] (take k ranges) r)) ∙ length-append (events_in (take k ranges)) (events_of r)
    ∙ ap (λ n. length (events_in (take k ranges)) + n) (events_from-length r.first.instance r.first.index r.count)

-- The rest of ranges whose events come one by one.

-- a range that has begun has one more event
pub next_event : (r : EventRange) (ranges : List EventRange) (passed : ℕ) → passed < r.count
    → drop passed (events_in (r ∷ ranges)) ≡ record { instance = r.first.instance; index = r.first.index + passed } ∷ drop (passed + 1) (events_in (r ∷ ranges))
next_event r ranges passed within = by r.first.instance r.first.index r.count passed within
  where
    by : (p i n k : ℕ) → k < n → drop k (events_from p i n ++ events_in ranges) ≡ record { instance = p; index = i + k } ∷ drop (k + 1) (events_from p i n ++ events_in ranges)
    by p i zero k within = absurd (omega (arith, within))
    by p i (suc n) zero within = let here : i ≡ i + zero = omega arith in ap (λ j. record { instance = p; index = j } ∷ (events_from p (i + 1) n ++ events_in ranges)) here
    by p i (suc n) (suc k) within =
        let next : i + 1 + k ≡ i + suc k = omega arith in
        let one : suc (k + 1) ≡ suc k + 1 = omega arith in
        by p (i + 1) n k (omega (arith, within)) ∙ ap (λ j. record { instance = p; index = j } ∷ drop (k + 1) (events_from p (i + 1) n ++ events_in ranges)) next
        ∙ ap (λ m. record { instance = p; index = i + suc k } ∷ drop m (record { instance = p; index = i } ∷ (events_from p (i + 1) n ++ events_in ranges))) one

-- after its last event the next range begins
pub last_event : (r : EventRange) (ranges : List EventRange) (passed : ℕ) → passed + 1 ≡ r.count
    → drop passed (events_in (r ∷ ranges)) ≡ record { instance = r.first.instance; index = r.first.index + passed } ∷ events_in ranges
last_event r ranges passed last =
    next_event r ranges passed (omega (arith, last))
    ∙ ap (λ es. record { instance = r.first.instance; index = r.first.index + passed } ∷ es) (ap (λ k. drop k (events_in (r ∷ ranges))) last ∙ all r.first.instance r.first.index r.count)
  where
    all : (p i n : ℕ) → drop n (events_from p i n ++ events_in ranges) ≡ events_in ranges
    all p i zero = refl
    all p i (suc n) = all p (i + 1) n

-- ranges none of whose events came
pub none_passed : (ranges : List EventRange) → All IsRange ranges → IsWithinFirst 0 ranges
none_passed [] each = refl
none_passed (r ∷ ranges) each = (All-head IsRange r ranges each).some
