-- How one more step changes the history.
use Rattle.std.proofs.Common.{◌≡◌, ℕ, ◌+◌, List, [], ◌∷◌, ◌++◌, length, take, Some, refl, ap, ◌∙◌, arith}
use Rattle.std.proofs.lemmas.List.{take_more}
use Rattle.std.proofs.lemmas.Option.{slice_get_within, get_or_from_slice_get}
use Rattle.std.specs.Prelude.{slice_get}
use Rattle.chart.specs.declared.history.Occurrence.{Occurrence}
use Rattle.chart.specs.declared.run_steps.step.Step.{Step}
use Rattle.chart.specs.declared.run_steps.step.Step.TheVariants.{Send, Receive}
use Rattle.chart.specs.RunSteps.Steps.{occurrence_of, after, history_of, outside_regions, IsOutside}

-- the first elements, and one more
pub front_next : {X : Type 0} → (xs : List X) (k : ℕ) (x : X) → slice_get xs k ≡ Some x → take (k + 1) xs ≡ take k xs ++ x ∷ []
front_next xs k x is = take_more xs k x (slice_get_within xs k x is) ∙ ap (λ y. take k xs ++ y ∷ []) (get_or_from_slice_get xs k x x is)

-- steps after steps
pub after-append : (h : List Occurrence) (xs ys : List Step) → after h (xs ++ ys) ≡ after (after h xs) ys
after-append h [] ys = refl
after-append h (x ∷ xs) ys = after-append (occurrence_of x ∷ h) xs ys

-- one more step
pub history-next : (steps : List Step) (i : ℕ) (x : Step) → slice_get steps i ≡ Some x → history_of (take (i + 1) steps) ≡ occurrence_of x ∷ history_of (take i steps)
history-next steps i x is = ap history_of (front_next steps i x is) ∙ after-append [] (take i steps) (x ∷ [])

-- a step that was put outside of coregions is outside of them
pub outside_regions-outside : (x : Step) → IsOutside (outside_regions x)
outside_regions-outside (Send a b name) = refl
outside_regions-outside (Receive a b region) = refl

-- each step adds one occurrence
pub after-length : (h : List Occurrence) (xs : List Step) → length (after h xs) ≡ length h + length xs
after-length h [] = omega arith
after-length h (x ∷ xs) = omega (arith, after-length (occurrence_of x ∷ h) xs)

-- steps after a history
pub after-onto : (h : List Occurrence) (xs : List Step) → after h xs ≡ history_of xs ++ h
after-onto h xs = go [] xs
  where
    go : (f : List Occurrence) (ys : List Step) → after (f ++ h) ys ≡ after f ys ++ h
    go f [] = refl
    go f (y ∷ ys) = go (occurrence_of y ∷ f) ys
