-- A refused chart is not possible.
use Rattle.std.proofs.Common.{◌≡◌, ℕ, ◌⊎◌, inl, inr, refl, sym, subst}
use Rattle.std.proofs.Math.Path.{fun_ext}
use Rattle.chart.specs.Charts.{Chart, Place, HasNoSend, HasOtherName, IsPossible}
use Rattle.chart.specs.Order.{IsCyclic}
use Rattle.chart.proofs.Sends.{none_without_send, none_of_other_name}
use Rattle.chart.proofs.Cycles.{acyclic}
use Rattle.closure.specs.declared.error.ChartError.{ChartError}
use Rattle.closure.specs.declared.error.ChartError.TheVariants.{ReceiveWithoutSend, NameMismatch, Cyclic, Memory}
use Rattle.closure.specs.Faults.{Refuses}

module _ (n : ℕ) (c : Chart) (possible : IsPossible n c) where
  pub no_cycle : IsCyclic c → ⊥
  no_cycle cyclic = acyclic n possible.1 possible.0 possible.2 (subst IsCyclic (sym (fun_ext possible.3)) cyclic)

  has_sends : (r : Place) → HasNoSend c r → ⊥
  has_sends r none = none_without_send n possible.1 possible.0 possible.2 r (subst (λ d. HasNoSend d r) (sym (fun_ext possible.3)) none)

  has_names : (r : Place) → HasOtherName c r → ⊥
  has_names r other = none_of_other_name n possible.1 possible.0 possible.2 r (subst (λ d. HasOtherName d r) (sym (fun_ext possible.3)) other)

-- any refusal except that of memory states that the chart is not possible
pub impossible : (n : ℕ) (c : Chart) (e : ChartError) → Refuses c e → (e ≡ Memory) ⊎ (IsPossible n c → ⊥)
impossible n c (ReceiveWithoutSend r) (none, first) = inr (λ possible. has_sends n c possible _ none)
impossible n c (NameMismatch r) (other, first) = inr (λ possible. has_names n c possible _ other)
impossible n c Cyclic (cyclic, good) = inr (λ possible. no_cycle n c possible cyclic)
impossible n c Memory h = inl refl
