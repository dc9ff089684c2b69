-- The results of looks at one lane after another, if all of them were in one history.
use Rattle.std.proofs.Common.{◌≡◌, ◌≢◌, ℕ, zero, suc, ◌+◌, ◌-◌, ◌<◌, ◌≤◌, ◌==◌, inl, inr, not, Bool, true, false, cond, List, [], ◌∷◌, ◌++◌, length, refl, sym, ap, ◌∙◌, subst, arith}
use Rattle.std.specs.Prelude.{filter, find, nat_lt, All}
use Rattle.std.specs.List.{range_with_len, list_all}
use Rattle.std.proofs.lemmas.Bool.{true≢false, cases_eq, cases_lt, and_parts, and_right, eqb-true}
use Rattle.std.proofs.lemmas.List.Elements.{All-weaker, filter-append}
use Rattle.std.proofs.lemmas.List.Sums.{list_all-from_AllPass}
use Rattle.chart.specs.declared.history.Occurrence.{Occurrence}
use Rattle.chart.specs.Histories.{waiting, is_closed, Begins}
use Rattle.chart.specs.Messages.{Content}
use Rattle.chart.specs.Scans.{scan}
use Rattle.chart.proofs.Histories.{begins_onward}
use Rattle.chart.proofs.Scans.{IsOther, scan-others}
use Rattle.board.specs.Views.{PostView}
use Rattle.mailbox.specs.TakingAny.{Look, lanes_of, NoneWaits, IsOneOpen, IsDrained, IsEnd}
use Rattle.schedule.specs.Meaning.{has_waiting}
use Rattle.chart.proofs.Alone.{no_longer, begins_longer}

-- a range without p has each other number of its bounds
range_has : (t : ℕ → Bool) (p s l : ℕ) → list_all t (filter (λ q. not (q == p)) (range_with_len s l)) ≡ true → (q : ℕ) → s ≤ q → q < s + l → q ≢ p → t q ≡ true
range_has t p s zero all q low high ne = absurd (omega (arith, low, high))
range_has t p s (suc l) all q low high ne = go (s == p) refl all (λ rest less. range_has t p (s + 1) l rest q less (omega (arith, high)) ne)
  where
    go : (its : Bool) → (s == p) ≡ its → list_all t (cond (not its) (s ∷ filter (λ x. not (x == p)) (range_with_len (s + 1) l)) (filter (λ x. not (x == p)) (range_with_len (s + 1) l))) ≡ true
        → (list_all t (filter (λ x. not (x == p)) (range_with_len (s + 1) l)) ≡ true → s + 1 ≤ q → t q ≡ true) → t q ≡ true
    go true e all rest = let past : q ≢ s = λ here. ne (here ∙ eqb-true s p e) in rest all (omega (arith, low, past))
    go false e all rest = let parts = and_parts (t s) (list_all t (filter (λ x. not (x == p)) (range_with_len (s + 1) l))) all in
        elim (cases_eq q s) [ inl here ↦ ap t here ∙ parts.0 | inr past ↦ rest parts.1 (omega (arith, low, past)) ]

all_parts : (t : ℕ → Bool) (xs ys : List ℕ) → list_all t (xs ++ ys) ≡ true → (list_all t xs ≡ true) × (list_all t ys ≡ true)
all_parts t [] ys all = (refl, all)
all_parts t (x ∷ xs) ys all =
    let one = and_parts (t x) (list_all t (xs ++ ys)) all in
    let rest = all_parts t xs ys one.1 in
    (rw (one.0, rest.0) refl, rest.1)

-- the scan has each other instance
scan_has : (t : ℕ → Bool) (n p l : ℕ) → l ≤ n → list_all t (scan n p l) ≡ true → (q : ℕ) → IsOther n p q → t q ≡ true
scan_has t n p l le all q other =
    let parts = all_parts t (filter (λ x. not (x == p)) (range_with_len (l + 1) (n - l))) (filter (λ x. not (x == p)) (range_with_len 1 l)) (ap (list_all t) (sym (filter-append (λ x. not (x == p)) (range_with_len (l + 1) (n - l)) (range_with_len 1 l))) ∙ all) in
    elim (cases_lt l q) [
      | inl past ↦ range_has t p (l + 1) (n - l) parts.0 q (omega (arith, past)) (omega (arith, other.1, le)) other.2
      | inr within ↦ range_has t p 1 l parts.1 q other.0 (omega (arith, within)) other.2
    ]

all_of : (t : ℕ → Bool) (P : ℕ → Type 0) → ((q : ℕ) → P q → t q ≡ true) → (qs : List ℕ) → All P qs → list_all t qs ≡ true
all_of t P each qs all = list_all-from_AllPass t qs (All-weaker P (λ q. t q ≡ true) each qs all)

-- a test of all instances in the scan doesn't depend on where the scan begins
pub scan_any : (t : ℕ → Bool) (n p l m : ℕ) → l ≤ n → m ≤ n → list_all t (scan n p l) ≡ list_all t (scan n p m)
scan_any t n p l m le lm = go (list_all t (scan n p l)) (list_all t (scan n p m)) refl refl
  where
    across : (a b : ℕ) → a ≤ n → b ≤ n → list_all t (scan n p a) ≡ true → list_all t (scan n p b) ≡ true
    across a b la lb all = all_of t (IsOther n p) (scan_has t n p a la all) (scan n p b) (scan-others n p b lb)

    go : (x y : Bool) → list_all t (scan n p l) ≡ x → list_all t (scan n p m) ≡ y → x ≡ y
    go true true ex ey = refl
    go false false ex ey = refl
    go true false ex ey = absurd (true≢false (sym (across l m le lm ex) ∙ ey))
    go false true ex ey = absurd (true≢false (sym (across m l lm le ey) ∙ ex))

-- looks are in histories between the first and the last
begins_through : (p : ℕ) (seen : List Occurrence) (looks : List Look) (after : List Occurrence) → NoneWaits p seen looks after → Begins seen after
begins_through p seen [] after none = none
begins_through p seen (look ∷ looks) after none = begins_onward seen look.front after none.0 (begins_through p look.front looks after none.2)

module _ (p : ℕ) (h : List Occurrence) where
  -- if the first and the last are the same, the look's history is the same
  front_is : (look : Look) (looks : List Look) → NoneWaits p h (look ∷ looks) h → look.front ≡ h
  front_is look looks none = no_longer h look.front none.0 (begins_longer look.front h (begins_through p look.front looks h none.2))

  rest_is : (look : Look) (looks : List Look) → NoneWaits p h (look ∷ looks) h → NoneWaits p h looks h
  rest_is look looks none = subst (λ f. NoneWaits p f looks h) (front_is look looks none) none.2

  -- no message waited
  none_is : (look : Look) (looks : List Look) → NoneWaits p h (look ∷ looks) h → has_waiting h look.from p ≡ false
  none_is look looks none = ap (λ (ms : List Content). nat_lt 0 (length ms)) (subst (λ f. waiting f look.from p ≡ []) (front_is look looks none) none.1)

  -- a search goes past these lanes
  pub find_past : (looks : List Look) (rest : List ℕ) → NoneWaits p h looks h → find (λ q. has_waiting h q p) (lanes_of looks ++ rest) ≡ find (λ q. has_waiting h q p) rest
  find_past [] rest none = refl
  find_past (look ∷ looks) rest none = rw (none_is look looks none, find_past looks rest (rest_is look looks none)) refl

  -- one of them was open
  one_open : (looks : List Look) → NoneWaits p h looks h → IsOneOpen p looks → list_all (λ q. is_closed h q p) (lanes_of looks) ≡ false
  one_open [] none opened = absurd opened
  one_open (look ∷ looks) none (inl here) = rw (subst (λ f. is_closed f look.from p ≡ false) (front_is look looks none) here) refl
  one_open (look ∷ looks) none (inr later) = and_right (is_closed h look.from p) (list_all (λ q. is_closed h q p) (lanes_of looks)) (one_open looks (rest_is look looks none) later)

  -- whether all of them are closed
  pub all_closed : (its_end : Bool) (looks : List Look) (new : PostView) → new.seen ≡ h → new.number ≡ p → NoneWaits p h looks h → IsEnd its_end p looks new → list_all (λ q. is_closed h q p) (lanes_of looks) ≡ its_end
  all_closed true looks new seen number none drained = all_of (λ q. is_closed h q p) (IsDrained new) (λ q its. rw (seen, number) at its.0) (lanes_of looks) drained
  all_closed false looks new seen number none opened = one_open looks none opened
