-- Steps that are picked by their numbers, with one more step.
use Rattle.std.proofs.Common.{◌≡◌, ℕ, ◌+◌, ◌++◌, true, false, Bool, cond, List, [], ◌∷◌, take, Some, sym, ap, ◌∙◌, add-one}
use Rattle.std.specs.Prelude.{map, slice_get, option_to_list}
use Rattle.reordering.specs.OtherRuns.Walks.{Wanted}
use Rattle.chart.specs.declared.run_steps.step.Step.{Step}
use Rattle.reordering.specs.Witness.Orders.{picked}
use Rattle.reordering.specs.Witness.Steps.{is_within, comes, comes_so}
use Rattle.chart.specs.RunSteps.Steps.{history_of, turn_of, outside_regions}

-- the next step is picked
pub picked-taken : (passes : ℕ → Bool) (steps run : List Step) (n : ℕ) (x y : Step) → slice_get steps n ≡ Some x → y ≡ outside_regions x → passes n ≡ true → run ≡ picked passes steps n → run ++ y ∷ [] ≡ picked passes steps (n + 1)
picked-taken passes steps run n x y is outside taken made =
    ap (λ r. r ++ y ∷ []) made
    ∙ ap (λ z. picked passes steps n ++ z ∷ []) outside
    ∙ sym (ap (picked passes steps) (add-one n) ∙ ap (λ b. cond b (picked passes steps n ++ map outside_regions (option_to_list (slice_get steps n))) (picked passes steps n)) taken
    ∙ ap (λ o. picked passes steps n ++ map outside_regions (option_to_list o)) is)

-- the next step isn't picked
pub picked-left : (passes : ℕ → Bool) (steps run : List Step) (n : ℕ) → passes n ≡ false → run ≡ picked passes steps n → run ≡ picked passes steps (n + 1)
picked-left passes steps run n out made =
    made ∙ sym (ap (picked passes steps) (add-one n) ∙ ap (λ b. cond b (picked passes steps n ++ map outside_regions (option_to_list (slice_get steps n))) (picked passes steps n)) out)

-- whether a step is among the wanted ones, from its turn
pub comes-is : (w : Wanted) (steps : List Step) (i : ℕ) (x : Step) (t : ℕ) → slice_get steps i ≡ Some x → t ≡ turn_of (history_of (take i steps)) x → (has : Bool) → has ≡ is_within w x t → comes w steps i ≡ has
comes-is w steps i x t is turn has answer = ap (comes_so w steps i) is ∙ ap (is_within w x) (sym turn) ∙ sym answer
