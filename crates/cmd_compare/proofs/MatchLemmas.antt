-- Counts the turns of a lane's end on two lines at once.
use Rattle.std.proofs.Common.{◌≡◌, ℕ, zero, suc, ◌+◌, ◌-◌, ◌<◌, ◌≤◌, inl, inr, Bool, true, List, length, get_or, count_by, Option, None, Some, refl, sym, ap, ◌∙◌, subst, arith, add-one, [], ◌∷◌, ◌++◌, eqb-true, eq-eqb}
use Rattle.std.proofs.lemmas.Bool.{cases_lt, false≢true}
use Rattle.std.specs.Prelude.{MatchOption}
use Rattle.std.proofs.lemmas.Option.{same_Some, slice_get_read, slice_get-get_or}
use Rattle.chart.proofs.Places.{each-push}
use Rattle.chart.specs.declared.event.Event.{Event}
use Rattle.chart.specs.declared.event.Event.TheVariants.{Send, Receive}
use Rattle.chart.specs.Events.{name_of, ith, tally}
use Rattle.chart.proofs.Tally.{ith_within, tally-le, tally-lt, same_from_tally, tally_reached, tally-le-count_by}
use Rattle.closure.proofs.LinkLemmas.{tally_pass}
use Rattle.cmd_compare.specs.declared.lane_end.LaneEnd.{LaneEnd}
use Rattle.cmd_compare.specs.declared.lane_end.LaneEnd.TheVariants.{To, From}
use Rattle.cmd_compare.specs.Ends.{end_of, is_at, end_there}
use Rattle.cmd_compare.specs.Matches.{Passes, HaveOneTurn, HaveOneName, AreOneAt, AreOne, IsMatch, IsLastBefore, IsNext, AreMatches, HasPassed, IsUnmatched}

-- an event is at only one end
pub one_end : (end : LaneEnd) (m : Event) → is_at end m ≡ true → end_of m ≡ end
one_end (To q) (Send to name) passes = ap (λ x. To x) (eqb-true to q passes)
one_end (To q) (Receive from name region) fails = absurd (false≢true fails)
one_end (From q) (Send to name) fails = absurd (false≢true fails)
one_end (From q) (Receive from name region) passes = ap (λ x. From x) (eqb-true from q passes)

-- and it is at its own end
pub at_its_end : (m : Event) → is_at (end_of m) m ≡ true
at_its_end (Send to name) = eq-eqb to to refl
at_its_end (Receive from name region) = eq-eqb from from refl

-- an event that passes, with no event that passes after it, is the last
pub IsLastBefore-at : (test : Event → Bool) (line : List Event) (n k : ℕ) (m : Event) → suc k ≤ n → k < length line → m ≡ get_or line k m → test m ≡ true → tally test line (suc k) ≡ tally test line n → IsLastBefore test line n (suc k)
IsLastBefore-at test line n k m low within is passes turn = record {
  within = low;
  passes = (m, slice_get_read line (length line) k m refl within is, passes);
  turn = turn;
}

-- the same for the next event that passes
pub IsNext-at : (test : Event → Bool) (line : List Event) (n i : ℕ) (m : Event) → i < length line → m ≡ get_or line i m → test m ≡ true → tally test line i ≡ tally test line n → IsNext test line n (i + 1)
IsNext-at test line n i m within is passes turn =
    let at_i = slice_get_read line (length line) i m refl within is in
    subst (λ j. IsNext test line n j) (sym (add-one i)) (record {
      begun = omega arith;
      within = omega arith;
      passes = (m, at_i, passes);
      turn = tally_pass test line i (m, at_i, passes) ∙ ap (λ x. x + 1) turn;
    })

module _ (f g : Event → Bool) (a b : List Event) (n : ℕ) where
  -- no event among the first n passes
  pub HasPassed-none : tally f a n ≡ 0 → HasPassed f g a b n 0
  HasPassed-none none = record {
    within = omega arith;
    turn = sym none;
    named = λ i j m o low turn at_i at_j.
        let more = tally-lt f a 0 i (let w = ith_within a i m at_i in omega (arith, w.0)) turn.here in
        let less = tally-le f a i n low in
        absurd (omega (arith, more, less, none));
  }

  -- the last event that passes has a match
  pub HasPassed-last : (k j : ℕ) → IsLastBefore f a n k → HaveOneTurn f g a b k j → HaveOneName f g a b k → HasPassed f g a b n j
  HasPassed-last k j last turn named = record {
    within = (ith_within b j turn.there.0 turn.there.1).1;
    turn = sym turn.turn ∙ last.turn;
    named = λ i l m o low one at_i at_l.
        elim (cases_lt k i) [
          | inl w ↦ let more = tally-lt f a k i w one.here in let less = tally-le f a i n low in absurd (omega (arith, more, less, last.turn))
          | inr w ↦ named i l m o w one at_i at_l
        ];
  }

  -- an event with the next turn comes after one with the turn of the last event that passes
  pub before_it : (k j : ℕ) → IsLastBefore f a n k → HaveOneTurn f g a b (suc n) j → HaveOneName f g a b (suc n) → (l : ℕ) × HaveOneTurn f g a b k l × HaveOneName f g a b k
  before_it k j last turn named =
      let next = tally_pass f a n turn.here in
      let some = tally-lt f a 0 k (let w = ith_within a k last.passes.0 last.passes.1 in omega (arith, w.0)) last.passes in
      let found = tally_reached g b (tally f a k) j (omega (arith, some)) (omega (arith, next, turn.turn, last.turn)) in (
        found.0,
        record { here = last.passes; there = found.2; turn = sym found.3 },
        λ i l m o low one at_i at_l. named i l m o (omega (arith, low, last.within)) one at_i at_l,
      )

  module _ (passed : ℕ) (has : HasPassed f g a b n passed) where
    -- no more events pass
    pub none_next : count_by g b ≡ tally g b passed → (j : ℕ) → HaveOneTurn f g a b (suc n) j → ⊥
    none_next none j turn =
        let next = tally_pass f a n turn.here in
        let all = tally-le-count_by g b j in
        omega (arith, next, all, none, turn.turn, has.turn)

    -- the next event has another name
    pub other_name : (j : ℕ) (m o : Event) → IsNext g b passed j → ith a (suc n) ≡ Some m → ith b j ≡ Some o → (name_of m ≡ name_of o → ⊥) → (k : ℕ) → HaveOneTurn f g a b (suc n) k → HaveOneName f g a b (suc n) → ⊥
    other_name j m o next at_m at_o differs k turn named =
        let more = tally_pass f a n turn.here in
        let same : tally f a (suc n) ≡ tally g b j = omega (arith, more, next.turn, has.turn) in
        differs (named (suc n) j m o (omega arith) (record { here = turn.here; there = next.passes; turn = same }) at_m at_o)

    -- the next event has the same name
    pub same_name : (j : ℕ) (m o : Event) → IsNext g b passed j → ith a (suc n) ≡ Some m → f m ≡ true → ith b j ≡ Some o → name_of m ≡ name_of o → HaveOneTurn f g a b (suc n) j × HaveOneName f g a b (suc n)
    same_name j m o next at_m passes at_o same =
        let here : Passes f a (suc n) = (m, at_m, passes) in
        let more = tally_pass f a n here in
        let turn : tally f a (suc n) ≡ tally g b j = omega (arith, more, next.turn, has.turn) in (
          record { here = here; there = next.passes; turn = turn },
          λ i l x y low one at_x at_y.
              elim (cases_lt n i) [
                | inl w ↦
                    let e : i ≡ suc n = omega (arith, w, low) in
                    let t : tally g b l ≡ tally g b j = sym one.turn ∙ ap (tally f a) e ∙ turn in
                    let d : l ≡ j = same_from_tally g b l j one.there next.passes t in
                    ap name_of (same_Some x m (sym at_x ∙ ap (ith a) e ∙ at_m)) ∙ same ∙ ap name_of (same_Some o y (sym at_o ∙ ap (ith b) (sym d) ∙ at_y))
                | inr w ↦ has.named i l x y w one at_x at_y
              ],
        )

module _ (others : List ℕ) (a b : List Event) where
  -- the match of the last event at an end
  pub passed_found : (end : LaneEnd) (found : List (Option ℕ)) (k : ℕ) → AreMatches others a b found → IsLastBefore (is_at end) a (length found) k → MatchOption (get_or found (k - 1) None) (IsUnmatched others a b end (length found)) (λ passed. HasPassed (is_at end) (is_at (end_there others end)) a b (length found) passed)
  passed_found end found zero are last = absurd (omega (arith, (ith_within a zero last.passes.0 last.passes.1).0))
  passed_found end found (suc k) are last =
      let e : suc k - 1 ≡ k = omega arith in
      subst (λ i. MatchOption (get_or found i None) (IsUnmatched others a b end (length found)) (λ passed. HasPassed (is_at end) (is_at (end_there others end)) a b (length found) passed)) (sym e)
      (by_value (get_or found k None) (are k (get_or found k None) (slice_get-get_or found k None (omega (arith, last.within)))))
    where
      by_value : (x : Option ℕ) → IsMatch others a b (suc k) x → MatchOption x (IsUnmatched others a b end (length found)) (λ passed. HasPassed (is_at end) (is_at (end_there others end)) a b (length found) passed)
      by_value None none = λ j one.
          let w = before_it (is_at end) (is_at (end_there others end)) a b (length found) (suc k) j last one.0 one.1 in
          none w.0 (last.passes.0, last.passes.1, subst (λ e. AreOneAt others a b e (suc k) w.0) (sym (one_end end last.passes.0 last.passes.2)) (w.1, w.2))
      by_value (Some j) (m, at_m, one) =
          let same : last.passes.0 ≡ m = same_Some last.passes.0 m (sym last.passes.1 ∙ at_m) in
          let its = subst (λ e. AreOneAt others a b e (suc k) j) (one_end end m (subst (λ x. is_at end x ≡ true) same last.passes.2)) one in
          HasPassed-last (is_at end) (is_at (end_there others end)) a b (length found) (suc k) j last its.0 its.1

  module _ (n : ℕ) (m : Event) (end : LaneEnd) (at_m : ith a (suc n) ≡ Some m) (its : end ≡ end_of m) where
    -- an event that has no match at its end has no match
    pub unmatched_here : IsUnmatched others a b end n → (j : ℕ) → AreOne others a b (suc n) j → ⊥
    unmatched_here none j (o, at_o, one) =
        none j (subst (λ e. AreOneAt others a b e (suc n) j) (sym (its ∙ ap end_of (same_Some m o (sym at_m ∙ at_o)))) one)

    -- an event that has a match at its end has this match
    pub matched_here : (j : ℕ) → AreOneAt others a b end (suc n) j → AreOne others a b (suc n) j
    matched_here j one = (m, at_m, subst (λ e. AreOneAt others a b e (suc n) j) its one)

    -- the event passes at its end
    pub passes_here : is_at end m ≡ true
    passes_here = subst (λ e. is_at e m ≡ true) (sym its) (at_its_end m)

  -- one more match
  pub AreMatches-push : (found : List (Option ℕ)) (x : Option ℕ) → AreMatches others a b found → IsMatch others a b (suc (length found)) x → AreMatches others a b (found ++ x ∷ [])
  AreMatches-push found x are is = each-push (λ i y. IsMatch others a b (suc i) y) found x are is
