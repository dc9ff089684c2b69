-- The remaining races if instances finish.
use Rattle.std.proofs.Common.{◌≡◌, ℕ, zero, suc, ◌<◌, ◌↔◌, ◌⊎◌, inl, inr, Bool, true, false, cond, nat_lt, List, [], ◌∷◌, Contains, refl, sym, ◌∙◌, subst, arith, lt-ltb}
use Rattle.std.specs.Prelude.{filter}
use Rattle.std.proofs.lemmas.Bool.{cases_lt, false≢true, ltb-true}
use Rattle.std.proofs.lemmas.List.Kept.{AllPairs-filter}
use Rattle.chart.specs.Charts.{Chart, Place, at}
use Rattle.chart.specs.Order.{IsReport}
use Rattle.chart.proofs.Tally.{ith_within}
use Rattle.reordering.specs.Completion.Orders.{IsFinishedUpTo, IsCompletedReport}
use Rattle.reordering.proofs.CompletionLemmas.OrderLemmas.{part, own_line}
use Rattle.reordering.proofs.CompletionLemmas.Possible.{IsSound}

pub others : (c : Chart) (r : Place) (report left : List ℕ) → IsReport c r report → IsCompletedReport c r left → (j : ℕ) → Contains left j → Contains report j
others c r report left is completed j here = let w = (completed.exact j).0 here in (is.exact j).1 (w.0, w.1, λ before. w.2 (part before))

first_or_rest : (x : ℕ) (xs : List ℕ) (j : ℕ) → Contains (x ∷ xs) j → (x ≡ j) ⊎ Contains xs j
first_or_rest x xs j (zero, within, same) = inl same
first_or_rest x xs j (suc k, within, same) = inr (k, omega arith, same)

behind_first : (x : ℕ) (xs : List ℕ) (j : ℕ) → Contains xs j → Contains (x ∷ xs) j
behind_first x xs j (k, within, same) = (suc k, omega arith, same)

-- a filtered list has exactly the elements that pass
pub filter_has : (test : ℕ → Bool) (xs : List ℕ) (j : ℕ) → Contains (filter test xs) j ↔ (Contains xs j × (test j ≡ true))
filter_has test [] j = (λ here. absurd (omega (arith, here.1)), λ w. absurd (omega (arith, w.0.1)))
filter_has test (x ∷ xs) j = go (test x) refl (filter_has test xs j)
  where
    go : (b : Bool) → test x ≡ b → Contains (filter test xs) j ↔ (Contains xs j × (test j ≡ true)) → Contains (cond b (x ∷ filter test xs) (filter test xs)) j ↔ (Contains (x ∷ xs) j × (test j ≡ true))
    go true is rest = (
      λ here. elim (first_or_rest x (filter test xs) j here) [
        | inl e ↦ ((0, omega arith, e), subst (λ y. test y ≡ true) e is)
        | inr w ↦ let v = rest.0 w in (behind_first x xs j v.0, v.1)
      ],
      λ w. elim (first_or_rest x xs j w.0) [ inl e ↦ (0, omega arith, e) | inr v ↦ behind_first x (filter test xs) j (rest.1 (v, w.1)) ],
    )
    go false is rest = (
      λ here. let v = rest.0 here in (behind_first x xs j v.0, v.1),
      λ w. elim (first_or_rest x xs j w.0) [
        | inl e ↦ absurd (false≢true (sym is ∙ subst (λ y. test y ≡ true) (sym e) w.1))
        | inr v ↦ rest.1 (v, w.1)
      ],
    )

-- the remaining races are those later than the last send that is finished before the receive
pub left_of : (c : Chart) → IsSound c → (p i k : ℕ) → (report : List ℕ) → IsReport c (at p i) report → IsFinishedUpTo c (at p i) k → IsCompletedReport c (at p i) (filter (nat_lt k) report)
left_of c sound p i k report is up_to = record {
  rising = AllPairs-filter (λ x y. x < y) (nat_lt k) report is.rising;
  exact = λ j.
      let has = filter_has (nat_lt k) report j in (
        λ here.
            let w = has.0 here in
            let v = (is.exact j).0 w.0 in
            let m = v.1 in
            (v.0, v.1, λ completed. elim ((own_line c sound p i k up_to j (ith_within (c p) j m.0 m.1).0 v.0).0 completed) [ inl before ↦ v.2 before | inr le ↦ omega (arith, ltb-true k j w.1) ]),
        λ v.
            let m = v.1 in
            let above : k < j = elim (cases_lt k j) [
              | inl w ↦ w
              | inr le ↦ absurd (v.2 ((own_line c sound p i k up_to j (ith_within (c p) j m.0 m.1).0 v.0).1 (inr le)))
            ] in
            has.1 ((is.exact j).1 (v.0, v.1, λ before. v.2 (part before)), lt-ltb k j above),
      );
}
