-- Ranges that grow by one event after another, while the ranges after them stay the same.
use Rattle.std.proofs.Common.{◌≡◌, ◌+◌, ◌<◌, ◌^◌, Bool, true, false, ◌&&◌, ◌==◌, List, [], ◌∷◌, length, drop, filter, cond, refl, sym, ap, ap₂, ◌∙◌, arith}
use Rattle.std.proofs.lemmas.Bool.{eq-eqb}
use Rattle.chart.specs.declared.instance.EventNo.{EventNo}
use Rattle.chart.specs.declared.ranges.EventRange.{EventRange}
use Rattle.chart.specs.Ranges.{IsRange, is_followed_by, both_before, range_before}
use Rattle.chart.proofs.RangeLists.{followed-is}

-- a range of one event
abbrev pub one : EventNo → EventRange
one e = record { first = e; count = 1 }

-- the range with one more event
abbrev pub longer : EventRange → EventRange
longer r = record { first = r.first; count = r.count + 1 }

goes_on-by : (r s : EventRange) → r.first.instance ≡ s.first.instance → r.first.index + r.count ≡ s.first.index → is_followed_by r s ≡ true
goes_on-by r s p i = ap₂ (λ a b. a && b) (eq-eqb _ _ p) (eq-eqb _ _ i)

-- an event that continues a range is joined to it, whatever follows
pub joins : (r : EventRange) (e : EventNo) (ranges : List EventRange) → is_followed_by r (one e) ≡ true → range_before r (range_before (one e) ranges) ≡ range_before (longer r) ranges
joins r e [] goes_on = ap (λ b. both_before b r (one e) []) goes_on
joins r e (s ∷ ranges) goes_on = by (is_followed_by (one e) s) refl
  where
    w : (r.first.instance ≡ e.instance) × (r.first.index + r.count ≡ e.index)
    w = followed-is r (one e) goes_on

    same : is_followed_by (longer r) s ≡ is_followed_by (one e) s
    same = let end : r.first.index + (r.count + 1) ≡ e.index + 1 = omega (arith, w.1) in ap₂ (λ p k. (p == s.first.instance) && (k == s.first.index)) w.0 end

    by : (b : Bool) → is_followed_by (one e) s ≡ b → range_before r (both_before b (one e) s ranges) ≡ both_before (is_followed_by (longer r) s) (longer r) s ranges
    by false was = ap (λ b. both_before b r (one e) (s ∷ ranges)) goes_on ∙ ap (λ b. both_before b (longer r) s ranges) (sym (same ∙ was))
    by true was =
        let count : r.count + (1 + s.count) ≡ r.count + 1 + s.count = omega arith in
        let joined : EventRange = record { first = e; count = 1 + s.count } in
        ap (λ b. both_before b r joined ranges) (goes_on-by r joined w.0 w.1)
        ∙ ap (λ k. record { first = r.first; count = k } ∷ ranges) count ∙ ap (λ b. both_before b (longer r) s ranges) (sym (same ∙ was))

-- an event that doesn't continue it begins a range of its own
pub apart : (r : EventRange) (e : EventNo) (ranges : List EventRange) → is_followed_by r (one e) ≡ false → range_before r (range_before (one e) ranges) ≡ r ∷ range_before (one e) ranges
apart r e [] apart_so = ap (λ b. both_before b r (one e) []) apart_so
apart r e (s ∷ ranges) apart_so = by (is_followed_by (one e) s) refl
  where
    by : (b : Bool) → is_followed_by (one e) s ≡ b → range_before r (both_before b (one e) s ranges) ≡ r ∷ both_before b (one e) s ranges
    by false was = ap (λ b. both_before b r (one e) (s ∷ ranges)) apart_so
    by true was = ap (λ b. both_before b r (record { first = e; count = 1 + s.count }) ranges) apart_so

-- it is still a range
pub IsRange-longer : (r : EventRange) (e : EventNo) → IsRange r → is_followed_by r (one e) ≡ true → e.index < 2 ^ 32 → IsRange (longer r)
IsRange-longer r e is goes_on within = let w = followed-is r (one e) goes_on in record { some = omega arith; within = omega (arith, w.1, within) }

-- The result of a filter, for a list whose first element is known.

pub filter-first : {X : Type 0} (test : X → Bool) (xs : List X) (x : X) → xs ≡ x ∷ drop 1 xs → test x ≡ true → filter test xs ≡ x ∷ filter test (drop 1 xs)
filter-first test xs x is passes = ap (filter test) is ∙ ap (λ b. cond b (x ∷ filter test (drop 1 xs)) (filter test (drop 1 xs))) passes

pub filter-passed : {X : Type 0} (test : X → Bool) (xs : List X) (x : X) → xs ≡ x ∷ drop 1 xs → test x ≡ false → filter test xs ≡ filter test (drop 1 xs)
filter-passed test xs x is fails = ap (filter test) is ∙ ap (λ b. cond b (x ∷ filter test (drop 1 xs)) (filter test (drop 1 xs))) fails

-- the rest after a known first element
pub first_of : {X : Type 0} (xs rest : List X) (x : X) → xs ≡ x ∷ rest → xs ≡ x ∷ drop 1 xs
first_of xs rest x is = is ∙ ap (λ l. x ∷ l) (sym (ap (drop 1) is))

-- fewer elements are left
pub fewer : {X : Type 0} (xs : List X) (x : X) → xs ≡ x ∷ drop 1 xs → length (drop 1 xs) < length xs
fewer xs x is = omega (arith, ap length is)
