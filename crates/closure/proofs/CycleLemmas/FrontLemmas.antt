-- Fronts: of an equivalent kind, copied, of no event, of one event, and of two kinds of events.
use Rattle.std.proofs.Common.{◌≡◌, ℕ, suc, ◌<◌, ◌≤◌, ◌⊎◌, inl, inr, max, List, length, set, replicate, sym, ap, ◌∙◌, subst, arith}
use Rattle.std.proofs.lemmas.Bool.{cases_lt, cases_eq}
use Rattle.std.proofs.lemmas.List.{length-set, get_or-set_same, length-replicate}
use Rattle.chart.specs.Charts.{Place, at}
use Rattle.chart.proofs.Belongs.{same_place}
use Rattle.closure.specs.Cycle.Fronts.{IsFront}
use Rattle.closure.specs.Rows.{entry}
use Rattle.closure.proofs.RunLemmas.{entry-raised}
use Rattle.closure.proofs.SearchLemmas.{entry-zeros}

-- the same events, described differently
pub IsFront-same : (n : ℕ) (Has Same : Place → Type 0) (front : List ℕ) → ((e : Place) → Has e → Same e) → ((e : Place) → Same e → Has e) → IsFront n Has front → IsFront n Same front
IsFront-same n Has Same front on back is = record {
  whole = is.whole;
  sound = λ p. elim (is.sound p) [ inl none ↦ inl none | inr has ↦ inr (on (at p (entry front p)) has) ];
  most = λ e same. is.most e (back e same);
}

-- the same numbers
pub IsFront-copied : (n : ℕ) (Has : Place → Type 0) (front copy : List ℕ) → length copy ≡ length front → ((p : ℕ) → entry copy p ≡ entry front p) → IsFront n Has front → IsFront n Has copy
IsFront-copied n Has front copy whole same is = record {
  whole = whole ∙ is.whole;
  sound = λ p. elim (is.sound p) [ inl none ↦ inl (same p ∙ none) | inr has ↦ inr (subst (λ k. Has (at p k)) (sym (same p)) has) ];
  most = λ e has. let m = is.most e has in omega (arith, m, same e.instance);
}

-- if there is no such event, the front is zeros
pub IsFront-none : (n : ℕ) (Has : Place → Type 0) → ((e : Place) → Has e → ⊥) → IsFront n Has (replicate n 0)
IsFront-none n Has none = record {
  whole = length-replicate n 0;
  sound = λ p. inl (entry-zeros n p);
  most = λ e has. absurd (none e has);
}

-- the front of only one event
pub IsFront-one : (n p i : ℕ) → p < n → IsFront n (λ s. s ≡ at (suc p) i) (set (replicate n 0) p i)
IsFront-one n p i within = record {
  whole = length-set (replicate n 0) p i ∙ length-replicate n 0;
  sound = λ r. elim (cases_eq r (suc p)) [
    | inl e ↦ inr (same_place (at r (entry (set (replicate n 0) p i) r)) (at (suc p) i) e (ap (entry (set (replicate n 0) p i)) e ∙ own))
    | inr differs ↦ inl (entry-raised (replicate n 0) p i r differs ∙ entry-zeros n r)
  ];
  most = λ e is. subst (λ (x : Place). x.index ≤ entry (set (replicate n 0) p i) x.instance) (sym is) (omega (arith, own));
}
  where
    own : entry (set (replicate n 0) p i) (suc p) ≡ i
    own = get_or-set_same (replicate n 0) p i 0 (rw length-replicate within)

-- the greater numbers are the front of both kinds
pub IsFront-raised : (n : ℕ) (A B : Place → Type 0) (xs ys zs : List ℕ) → length zs ≡ length xs → ((p : ℕ) → entry zs p ≡ max (entry xs p) (entry ys p)) → IsFront n A xs → IsFront n B ys → IsFront n (λ e. A e ⊎ B e) zs
IsFront-raised n A B xs ys zs whole greater of_a of_b = record {
  whole = whole ∙ of_a.whole;
  sound = λ p. let g = greater p in elim (cases_lt (entry xs p) (entry ys p)) [
    | inl higher ↦
        let e : entry ys p ≡ entry zs p = omega (arith, g) in
        elim (of_b.sound p) [ inl none ↦ inl (sym e ∙ none) | inr has ↦ inr (inr (subst (λ k. B (at p k)) e has)) ]
    | inr enough ↦
        let e : entry xs p ≡ entry zs p = omega (arith, g) in
        elim (of_a.sound p) [ inl none ↦ inl (sym e ∙ none) | inr has ↦ inr (inl (subst (λ k. A (at p k)) e has)) ]
  ];
  most = λ e has. let g = greater e.instance in elim has [
    | inl a ↦ let m = of_a.most e a in omega (arith, m, g)
    | inr b ↦ let m = of_b.most e b in omega (arith, m, g)
  ];
}
