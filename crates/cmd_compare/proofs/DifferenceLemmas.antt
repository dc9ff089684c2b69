-- The result for a line has exactly the differences of the recordings there.
use Rattle.std.proofs.Common.{◌≡◌, ℕ, zero, suc, ◌+◌, ◌<◌, ◌↔◌, List, [], ◌∷◌, ◌++◌, length, map, Option, None, Some, refl, sym, ap, ◌∙◌, subst, arith, add-one}
use Rattle.std.specs.Prelude.{Contains}
use Rattle.std.proofs.lemmas.Option.{same_Some, slice_get-get_or}
use Rattle.std.proofs.lemmas.List.{length_push}
use Rattle.chart.specs.declared.event.Event.{Event}
use Rattle.chart.specs.Charts.{Chart, at}
use Rattle.chart.proofs.Places.{each-push}
use Rattle.chart.proofs.Tally.{ith_within, same_from_tally}
use Rattle.reordering.proofs.CompletionLemmas.Possible.{IsSound}
use Rattle.cmd_compare.specs.declared.comparison.LineComparison.{LineComparison}
use Rattle.cmd_compare.specs.declared.pairs.Difference.{Difference}
use Rattle.cmd_compare.specs.declared.pairs.Pair.{Pair}
use Rattle.cmd_compare.specs.declared.verdict.Verdict.{Verdict}
use Rattle.cmd_compare.specs.Comparing.{IsDifference, AreDifferences, IsOnlyHere, AreOnlyHere, IsCompared, AreCompared}
use Rattle.cmd_compare.specs.Ends.{is_at, end_of, end_there, other_of}
use Rattle.cmd_compare.specs.Matches.{AreOneAt, AreOne, AreMatches}
use Rattle.cmd_compare.specs.Pairs.{found_at, pairs_to, judged, unmatched_to}
use Rattle.cmd_compare.specs.Verdicts.{AreFronts}
use Rattle.cmd_compare.proofs.PairLemmas.{pair_by-has, has-pair_by, pairs_to-has, has-pairs_to, unmatched_to-has, has-unmatched_to, has-map, map-has, map-rises, pairs_to-rises, unmatched_to-rises, has_none}
use Rattle.cmd_compare.proofs.VerdictLemmas.{verdict_right, one_verdict}

module _ (others : List ℕ) (a b : List Event) where
  -- an event has at most one match
  one_there : (i j k : ℕ) → AreOne others a b i j → AreOne others a b i k → j ≡ k
  one_there i j k (m, at_m, its) (n, at_n, also) =
      let e = same_Some n m (sym at_n ∙ at_m) in
      let one = subst (λ x. AreOneAt others a b (end_of x) i k) e also in
      same_from_tally (is_at (end_there others (end_of m))) b j k its.0.there one.0.there (sym its.0.turn ∙ one.0.turn)

  module _ (found : List (Option ℕ)) (are : AreMatches others a b found) (whole : length found ≡ length a) where
    -- what was found is a match
    pub found_there : (i j : ℕ) → i < length found → found_at found i ≡ Some j → AreOne others a b (i + 1) j
    found_there i j within is =
        subst (λ x. AreOne others a b x j) (sym (add-one i)) (are i (Some j) (slice_get-get_or found i None within ∙ ap (λ x. Some x) is))

    found_none : (i : ℕ) → i < length found → found_at found i ≡ None → (j : ℕ) → AreOne others a b (i + 1) j → ⊥
    found_none i within is j one =
        are i None (slice_get-get_or found i None within ∙ ap (λ x. Some x) is) j (subst (λ x. AreOne others a b x j) (add-one i) one)

    -- and each match was found
    pub there_found : (i j : ℕ) → AreOne others a b i j → (k : ℕ) × (i ≡ k + 1) × (k < length found) × (found_at found k ≡ Some j)
    there_found zero j one = absurd (let w = ith_within a zero one.0 one.1 in omega (arith, w.0))
    there_found (suc k) j one =
        let w = ith_within a (suc k) one.0 one.1 in
        let within : k < length found = omega (arith, w.1, whole) in
        (k, sym (add-one k), within, by_value (found_at found k) refl within)
      where
        by_value : (x : Option ℕ) → found_at found k ≡ x → k < length found → found_at found k ≡ Some j
        by_value None is within = absurd (found_none k within is j (subst (λ x. AreOne others a b x j) (sym (add-one k)) one))
        by_value (Some l) is within =
            is ∙ ap (λ x. Some x) (one_there (suc k) l j (subst (λ x. AreOne others a b x l) (add-one k) (found_there k l within is)) one)

    -- the events that the other line lacks are those without a match
    pub only_here : (i : ℕ) → Contains (unmatched_to found (length found)) i ↔ IsOnlyHere others a b i
    only_here i = (
      λ has.
          let w = unmatched_to-has found (length found) i has in
          subst (λ x. IsOnlyHere others a b x) (sym w.2) (record {
            begun = omega arith;
            within = omega (arith, w.1, whole);
            only = found_none w.0 w.1 w.3;
          }),
      λ is. by_place i is,
    )
      where
        none_at : (k : ℕ) → k < length found → ((j : ℕ) → AreOne others a b (k + 1) j → ⊥) → (x : Option ℕ) → found_at found k ≡ x → found_at found k ≡ None
        none_at k within only None is = is
        none_at k within only (Some j) is = absurd (only j (found_there k j within is))

        by_place : (i : ℕ) → IsOnlyHere others a b i → Contains (unmatched_to found (length found)) i
        by_place zero is = absurd (omega (arith, is.begun))
        by_place (suc k) is =
            let within : k < length found = omega (arith, is.within, whole) in
            subst (λ x. Contains (unmatched_to found (length found)) x) (add-one k)
            (has-unmatched_to found (length found) k within (none_at k within (λ j one. is.only j (subst (λ x. AreOne others a b x j) (add-one k) one)) (found_at found k) refl))

-- equal parts make the same difference
same_difference : (p : ℕ) (pair : Pair) (v w : Verdict) (x : Difference) → p ≡ x.instance → pair ≡ x.pair → v ≡ x.here → w ≡ x.there → record { instance = p; pair = pair; here = v; there = w } ≡ x
same_difference p pair v w x a b c d =
    ap (λ q. record { instance = q; pair = pair; here = v; there = w }) a
    ∙ ap (λ q. record { instance = x.instance; pair = q; here = v; there = w }) b
    ∙ ap (λ q. record { instance = x.instance; pair = x.pair; here = q; there = w }) c
    ∙ ap (λ q. record { instance = x.instance; pair = x.pair; here = x.here; there = q }) d

module _ (others : List ℕ) (c d : Chart) (p : ℕ) (found : List (Option ℕ)) (fronts fronts_there : List ℕ) (are : AreMatches others (c p) (d (other_of others p)) found) (whole : length found ≡ length (c p)) (sound_c : IsSound c) (sound_d : IsSound d)
    (here : AreFronts c p fronts) (there : AreFronts d (other_of others p) fronts_there) where
  abbrev judged_so : Pair → Difference
  judged_so = judged p (c p) fronts (d (other_of others p)) fronts_there

  sound : (pair : Pair) → Contains (pairs_to found (length found)) pair → IsDifference others c d p (judged_so pair)
  sound pair has =
      let w = pairs_to-has found (length found) pair has in
      let its = pair_by-has (w.0 + 1) (w.1 + 1) (found_at found w.0) (found_at found w.1) pair w.4 in
      let q = other_of others p in
      let k = its.0 in
      let l = its.1 in
      let first = found_there others (c p) (d q) found are whole w.0 k (omega (arith, w.2, w.3)) its.2 in
      let second = found_there others (c p) (d q) found are whole w.1 l w.3 its.3 in
      let low = ith_within (d q) l second.2.0.there.0 second.2.0.there.1 in
      let high = ith_within (d q) k first.2.0.there.0 first.2.0.there.1 in
      subst (λ (x : Pair). IsDifference others c d p (judged_so x)) its.5 (record {
        line = refl;
        less = omega (arith, w.2);
        reordered = its.4;
        earlier = first;
        later = second;
        here = verdict_right c sound_c p fronts (w.0 + 1) (w.1 + 1) here (omega arith) (omega (arith, w.2)) (omega (arith, w.3, whole));
        there = verdict_right d sound_d q fronts_there l k there low.0 its.4 high.1;
      })

  complete : (x : Difference) → IsDifference others c d p x → Contains (map judged_so (pairs_to found (length found))) x
  complete x is =
      let q = other_of others p in
      let e = there_found others (c p) (d q) found are whole x.pair.earlier x.pair.earlier_there is.earlier in
      let f = there_found others (c p) (d q) found are whole x.pair.later x.pair.later_there is.later in
      let has = has-pair_by (e.0 + 1) (f.0 + 1) x.pair.earlier_there x.pair.later_there (found_at found e.0) (found_at found f.0) e.3 f.3 is.reordered in
      let pair : Pair = record { earlier = e.0 + 1; later = f.0 + 1; earlier_there = x.pair.earlier_there; later_there = x.pair.later_there } in
      let same : pair ≡ x.pair = ap (λ i. record { earlier = i; later = f.0 + 1; earlier_there = x.pair.earlier_there; later_there = x.pair.later_there }) (sym e.1) ∙ ap (λ j. record { earlier = x.pair.earlier; later = j; earlier_there = x.pair.earlier_there; later_there = x.pair.later_there }) (sym f.1) in
      let in_list = has-pairs_to found (length found) e.0 f.0 pair (omega (arith, is.less, e.1, f.1)) f.2 has in
      let made = sound pair in_list in
      let moved = subst (λ (y : Pair). IsDifference others c d p (judged_so y)) same made in
      let mine = judged_so x.pair in
      let all : mine ≡ x = same_difference p x.pair mine.here mine.there x (sym is.line) refl
      (one_verdict c (at p x.pair.earlier) (at p x.pair.later) mine.here x.here moved.here is.here)
      (one_verdict d (at q x.pair.later_there) (at q x.pair.earlier_there) mine.there x.there moved.there is.there) in
      subst (λ (y : Difference). Contains (map judged_so (pairs_to found (length found))) y) all
      (has-map judged_so (pairs_to found (length found)) x.pair (subst (λ (y : Pair). Contains (pairs_to found (length found)) y) same in_list))

  -- the pairs that were found, with their verdicts, are the differences
  pub are_differences : AreDifferences others c d p (map judged_so (pairs_to found (length found)))
  are_differences = record {
    rising = map-rises judged_so (pairs_to found (length found)) (λ x. refl) (pairs_to-rises found (length found));
    exact = λ x. (
      λ has.
          let w = map-has judged_so (pairs_to found (length found)) x has in
          subst (λ (y : Difference). IsDifference others c d p y) w.2 (sound w.0 w.1),
      complete x,
    );
  }

-- if no pair was found, there is no difference
pub no_differences : (others : List ℕ) (c d : Chart) (p : ℕ) (found : List (Option ℕ)) → AreMatches others (c p) (d (other_of others p)) found → length found ≡ length (c p) → pairs_to found (length found) ≡ [] → AreDifferences others c d p []
no_differences others c d p found are whole none = record {
  rising = λ i j e less within. absurd (omega (arith, within));
  exact = λ x. (λ has. absurd (has_none x has), never x);
}
  where
    never : (x : Difference) → IsDifference others c d p x → Contains [] x
    never x is =
        let q = other_of others p in
        let e = there_found others (c p) (d q) found are whole x.pair.earlier x.pair.earlier_there is.earlier in
        let f = there_found others (c p) (d q) found are whole x.pair.later x.pair.later_there is.later in
        let has = has-pair_by (e.0 + 1) (f.0 + 1) x.pair.earlier_there x.pair.later_there (found_at found e.0) (found_at found f.0) e.3 f.3 is.reordered in
        let pair : Pair = record { earlier = e.0 + 1; later = f.0 + 1; earlier_there = x.pair.earlier_there; later_there = x.pair.later_there } in
        let in_list = has-pairs_to found (length found) e.0 f.0 pair (omega (arith, is.less, e.1, f.1)) f.2 has in
        absurd (has_none pair (subst (λ (l : List Pair). Contains l pair) none in_list))

-- one more line
pub AreCompared-push : (others back : List ℕ) (c d : Chart) (n : ℕ) (lines : List LineComparison) (line : LineComparison) → AreCompared others back c d n lines → IsCompared others back c d (suc n) line → AreCompared others back c d (n + 1) (lines ++ line ∷ [])
AreCompared-push others back c d n lines line old new = record {
  whole = length_push lines line ∙ ap (λ x. x + 1) old.whole;
  each = each-push (λ i x. IsCompared others back c d (suc i) x) lines line old.each (subst (λ i. IsCompared others back c d (suc i) line) (sym old.whole) new);
}

-- the differences, from a line's pairs
pub differences_so : (others : List ℕ) (c d : Chart) (p q : ℕ) (found : List (Option ℕ)) (a b : List Event) (f g : List ℕ) (pairs : List Pair) (xs : List Difference) → AreMatches others (c p) (d (other_of others p)) found → length found ≡ length (c p) → q ≡ other_of others p → a ≡ c p → b ≡ d q → IsSound c → IsSound d → AreFronts c p f → AreFronts d q g
    → pairs ≡ pairs_to found (length found) → xs ≡ map (judged p a f b g) pairs → AreDifferences others c d p xs
differences_so others c d p q found a b f g pairs xs are whole qe ae be sc sd af bf pe made =
    let is = made ∙ ap (λ (l : List Event). map (judged p l f b g) pairs) ae ∙ ap (λ (l : List Event). map (judged p (c p) f l g) pairs) (be ∙ ap d qe) ∙ ap (map (judged p (c p) f (d (other_of others p)) g)) pe in
    subst (λ (l : List Difference). AreDifferences others c d p l) (sym is) (are_differences others c d p found f g are whole sc sd af (subst (λ x. AreFronts d x g) qe bf))

-- the numbers of the events that the other line lacks
pub only_so : (others : List ℕ) (a b a1 b1 : List Event) (found f : List (Option ℕ)) (numbers : List ℕ) → AreMatches others a b found → length found ≡ length a → a ≡ a1 → b ≡ b1 → f ≡ found → numbers ≡ unmatched_to f (length f) → AreOnlyHere others a1 b1 numbers
only_so others a b a1 b1 found f numbers are whole ae be fe made =
    subst (λ (l : List Event). AreOnlyHere others l b1 numbers) ae
    (subst (λ (l : List Event). AreOnlyHere others a l numbers) be
    (subst (λ (l : List ℕ). AreOnlyHere others a b l) (sym (made ∙ ap (λ (l : List (Option ℕ)). unmatched_to l (length l)) fe)) (record {
      rising = unmatched_to-rises found (length found);
      exact = only_here others a b found are whole;
    })))
