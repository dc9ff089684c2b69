-- The send with the fewest steps among those that were looked at, with one more.
use Rattle.std.proofs.Common.{◌≡◌, ℕ, ◌+◌, ◌<◌, ◌≤◌, inl, inr, List, Option, None, Some, sym, ap, ◌∙◌, subst, arith}
use Rattle.std.specs.Prelude.{slice_get}
use Rattle.std.proofs.lemmas.Bool.{cases_eq}
use Rattle.std.proofs.lemmas.Option.{same_Some}
use Rattle.chart.specs.Charts.{Place}
use Rattle.closure.specs.declared.chain.reaching.Reached.{Reached}
use Rattle.closure.specs.Chain.Reaching.{IsAt, IsUnder, AreSteps, IsNearest}

-- an event has only one number of steps by a send
same_steps : (x : Reached) (e : Place) (k l : ℕ) → AreSteps x e k → AreSteps x e l → k ≡ l
same_steps x e k l (inl a) (inl b) = omega (arith, a.1, b.1)
same_steps x e k l (inl a) (inr b) = absurd (omega (arith, a.0, b.0))
same_steps x e k l (inr a) (inl b) = absurd (omega (arith, a.0, b.0))
same_steps x e k l (inr a) (inr b) = omega (arith, a.1, b.1)

module _ (found : List Reached) (e : Place) (number : ℕ) (x : Reached) (here : IsAt found number x) where
  -- the send of this number is x
  it : (i : ℕ) (y : Reached) → i ≡ number → IsAt found i y → x ≡ y
  it i y same at_i = same_Some x y (sym here ∙ ap (slice_get found) (sym same) ∙ at_i)

  -- the event isn't above this send
  pub nearest-other : (best : Option (ℕ × ℕ)) → (IsUnder x e → ⊥) → IsNearest found e number best → IsNearest found e (number + 1) best
  nearest-other None none old = λ i y low at_i under. elim (cases_eq i number) [
    | inl same ↦ none (subst (λ z. IsUnder z e) (sym (it i y same at_i)) under)
    | inr differs ↦ old i y (omega arith) at_i under
  ]
  nearest-other (Some best) none old = (
    old.0,
    old.1,
    old.2,
    old.3,
    λ i y k low at_i under steps. elim (cases_eq i number) [
      | inl same ↦ absurd (none (subst (λ z. IsUnder z e) (sym (it i y same at_i)) under))
      | inr differs ↦ old.4 i y k (omega arith) at_i under steps
    ],
  )

  module _ (steps : ℕ) (under : IsUnder x e) (are : AreSteps x e steps) where
    -- the send has this number of steps
    its : (i : ℕ) (y : Reached) (k : ℕ) → i ≡ number → IsAt found i y → AreSteps y e k → steps ≡ k
    its i y k same at_i others = same_steps x e steps k are (subst (λ z. AreSteps z e k) (sym (it i y same at_i)) others)

    -- it is the first send with the event above it
    pub nearest-first : IsNearest found e number None → IsNearest found e (number + 1) (Some (number, steps))
    nearest-first old = (
      x,
      here,
      under,
      are,
      λ i y k low at_i above others. elim (cases_eq i number) [
        | inl same ↦ let e' = its i y k same at_i others in omega arith
        | inr differs ↦ absurd (old i y (omega arith) at_i above)
      ],
    )

    -- it has fewer steps than the best
    pub nearest-fewer : (first least : ℕ) → steps < least → IsNearest found e number (Some (first, least)) → IsNearest found e (number + 1) (Some (number, steps))
    nearest-fewer first least fewer old = (
      x,
      here,
      under,
      are,
      λ i y k low at_i above others. elim (cases_eq i number) [
        | inl same ↦ let e' = its i y k same at_i others in omega arith
        | inr differs ↦ let most = old.4 i y k (omega arith) at_i above others in omega arith
      ],
    )

    -- it has no fewer steps than the best
    pub nearest-as_before : (first least : ℕ) → least ≤ steps → IsNearest found e number (Some (first, least)) → IsNearest found e (number + 1) (Some (first, least))
    nearest-as_before first least more old = (
      old.0,
      old.1,
      old.2,
      old.3,
      λ i y k low at_i above others. elim (cases_eq i number) [
        | inl same ↦ let e' = its i y k same at_i others in omega arith
        | inr differs ↦ old.4 i y k (omega arith) at_i above others
      ],
    )
