-- Each line goes on as long as it can, and then the first line that can.
use Rattle.std.proofs.Common.{◌≡◌, ℕ, suc, ◌<◌, inl, inr, List, Some, refl, sym, ap, subst}
use Rattle.std.specs.Prelude.{slice_get}
use Rattle.chart.specs.declared.history.Occurrence.{Occurrence}
use Rattle.chart.specs.Charts.{Chart}
use Rattle.chart.specs.Histories.{by}
use Rattle.chart.specs.declared.run_steps.step.Step.{Step}
use Rattle.chart.specs.declared.run_steps.step.Step.TheVariants.{Send, Receive}
use Rattle.chart.specs.RunSteps.Steps.{occurrence_of, maker_of}
use Rattle.schedule_replay.specs.ReorderedRuns.Runs.{IsNext, IsStopped, GoesOnFirst, ComesNext, CannotGoOn, GoesOn, last_line}
use Rattle.schedule_replay.proofs.ReorderedRunsLemmas.GoingOn.{IsGoing}

-- some line goes on
pub some_goes_on : (c : Chart) (n k : ℕ) (h : List Occurrence) (made : List ℕ) (p : ℕ) (x : Step) → p < n → GoesOnFirst c n k h made p x → (q : ℕ) × (q < n) × IsNext c k h made q x
some_goes_on c n k h made p x inside (inl next) = (p, inside, next)
some_goes_on c n k h made p x inside (inr (stopped, (q, less, before, next))) = (q, less, next)

pub maker-by : (x : Step) → by (occurrence_of x) ≡ maker_of x
maker-by (Send a b name) = refl
maker-by (Receive a b region) = refl

module _ (n k : ℕ) (c : Chart) (h : List Occurrence) (made : List ℕ) (going : IsGoing n k c h made) where
  comes-from : (p : ℕ) (x : Step) → IsNext c k h made p x → ComesNext c k h p (occurrence_of x)
  comes-from p x (m, is, its, may) = (m, subst (λ j. slice_get (c (suc p)) j ≡ Some m) (sym (going.many (suc p))) is, ap occurrence_of its, may)

  stops-from : (p : ℕ) → IsStopped c k h made p → CannotGoOn c k h p
  stops-from p stopped = λ m is. stopped m (subst (λ j. slice_get (c (suc p)) j ≡ Some m) (going.many (suc p)) is)

  -- in terms of the made numbers, and in terms of the history
  pub goes-from : (p : ℕ) (x : Step) → p ≡ last_line h → GoesOnFirst c n k h made p x → GoesOn c n k h (occurrence_of x)
  goes-from p x last (inl next) = inl (subst (λ l. ComesNext c k h l (occurrence_of x)) last (comes-from p x next))
  goes-from p x last (inr (stopped, (q, less, before, next))) =
      inr (subst (λ l. CannotGoOn c k h l) last (stops-from p stopped), (q, less, λ l low. stops-from l (before l low), comes-from q x next))
