-- How one more step changes the lanes' counts.
use Rattle.std.proofs.Common.{◌≡◌, ℕ, ◌+◌, ◌==◌, max, Bool, true, false, cond, List, [], ◌∷◌, ◌++◌, length, take, Some, refl, sym, ap, ◌∙◌, subst, arith, eqb-true}
use Rattle.std.proofs.lemmas.Bool.{and_parts}
use Rattle.std.proofs.lemmas.List.{length_push}
use Rattle.std.proofs.lemmas.Option.{slice_get_within}
use Rattle.std.specs.Prelude.{slice_get}
use Rattle.chart.specs.declared.history.Occurrence.{Occurrence}
use Rattle.chart.specs.declared.history.Occurrence.TheVariants as occurrences
use Rattle.chart.specs.Messages.{Content}
use Rattle.chart.specs.Histories.{is_lane, sent, received}
use Rattle.reordering.specs.OtherRuns.Walks.{sends_in, raise}
use Rattle.chart.specs.declared.run_steps.step.Step.{Step}
use Rattle.chart.specs.declared.run_steps.step.Step.TheVariants.{Send, Receive}
use Rattle.reordering.specs.declared.witness.numbered.NumberedStep.{NumberedStep}
use Rattle.reordering.specs.Witness.Steps.{AreNumbered}
use Rattle.chart.specs.RunSteps.Steps.{history_of, turn_of}
use Rattle.chart.proofs.Places.{each-push}

-- a send raises the number of its lane
pub sends-raised : (h : List Occurrence) (a b : ℕ) (m : Content) (q p : ℕ) → raise (sends_in h) a b (length (sent h a b) + 1) q p ≡ length (sent (occurrences.Send a b m ∷ h) q p)
sends-raised h a b m q p = go (is_lane a b q p) refl
  where
    go : (its : Bool) → is_lane a b q p ≡ its → cond its (max (length (sent h q p)) (length (sent h a b) + 1)) (length (sent h q p)) ≡ length (cond its (sent h q p ++ m ∷ []) (sent h q p))
    go true lane =
        let ends = and_parts (a == q) (b == p) lane in
        let same : length (sent h a b) ≡ length (sent h q p) = ap (λ x. length (sent h x b)) (eqb-true a q ends.0) ∙ ap (λ y. length (sent h q y)) (eqb-true b p ends.1) in
        omega (arith, same, length_push (sent h q p) m)
    go false lane = refl

-- a receive raises the number of its lane
pub receives-raised : (h : List Occurrence) (a b c : ℕ) (q p : ℕ) → raise (received h) b a (received h b a + 1) q p ≡ received (occurrences.Receive a b c ∷ h) q p
receives-raised h a b c q p = go (is_lane b a q p) refl
  where
    go : (its : Bool) → is_lane b a q p ≡ its → cond its (max (received h q p) (received h b a + 1)) (received h q p) ≡ cond its (received h q p + 1) (received h q p)
    go true lane =
        let ends = and_parts (b == q) (a == p) lane in
        let same : received h b a ≡ received h q p = ap (λ x. received h x a) (eqb-true b q ends.0) ∙ ap (λ y. received h q y) (eqb-true a p ends.1) in
        omega (arith, same)
    go false lane = refl

-- no step has a turn at first
pub numbered-none : (steps : List Step) → AreNumbered steps 0 []
numbered-none steps = record { whole = refl; each = λ i t is. absurd (omega (arith, slice_get_within [] i t is)) }

-- one more step, with its turn
pub numbered-push : (steps : List Step) (many : ℕ) (numbered : List NumberedStep) (t : NumberedStep) → AreNumbered steps many numbered → slice_get steps many ≡ Some t.step → t.turn ≡ turn_of (history_of (take many steps)) t.step → AreNumbered steps (many + 1) (numbered ++ t ∷ [])
numbered-push steps many numbered t are is turn = record {
  whole = length_push numbered t ∙ ap (λ x. x + 1) are.whole;
  each = each-push (λ i (x : NumberedStep). (slice_get steps i ≡ Some x.step) × (x.turn ≡ turn_of (history_of (take i steps)) x.step)) numbered t are.each (subst (λ i. (slice_get steps i ≡ Some t.step) × (t.turn ≡ turn_of (history_of (take i steps)) t.step)) (sym are.whole) (is, turn));
}
