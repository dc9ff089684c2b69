-- What is found for runs: the turns of their steps, and what is wanted with a step (this project's profile).
use Rattle.std.specs.Prelude.{◌≡◌, ℕ, ◌+◌, ◌-◌, ◌<◌, ◌^◌, ◌⊎◌, ◌||◌, ◌==◌, nat_le, Bool, false, Option, None, List, length, take, slice_get, Some}
use Rattle.chart.specs.Words.{Counts}
use Rattle.chart.specs.declared.history.Occurrence.{Occurrence}
use Rattle.chart.specs.Histories.{sent, received, chart_of}
use Rattle.chart.specs.Charts.{Place}
use Rattle.chart.specs.declared.run_steps.step.Step.{Step}
use Rattle.chart.specs.declared.run_steps.step.Step.TheVariants.{Send, Receive}
use Rattle.chart.specs.RunSteps.Steps.{history_of, maker_of, turn_of}
use Rattle.reordering.specs.declared.witness.numbered.NumberedStep.{NumberedStep}
use Rattle.reordering.specs.Witness.Tables.{AreCounts, AreFlags}
use Rattle.reordering.specs.OtherRuns.Walks.{Wanted, raise}
use Rattle.reordering.specs.OtherRuns.OtherRuns.{IsRunWithin, IsOvertaken, BeforeWithin}

-- each of the first steps has its turn
pub record AreNumbered (steps : List Step) (many : ℕ) (numbered : List NumberedStep) : Type 0 where
  pub whole : length numbered ≡ many
  pub each : (i : ℕ) (t : NumberedStep) → slice_get numbered i ≡ Some t
      → (slice_get steps i ≡ Some t.step) × (t.turn ≡ turn_of (history_of (take i steps)) t.step)

-- the tables have the numbers of sends and receives of each lane
pub record HavePassed (sends receives : Counts) (h : List Occurrence) : Type 0 where
  pub sent : AreCounts sends (λ q p. length (sent h q p))
  pub received : AreCounts receives (received h)

-- each lane's next turn is within 64 bits
abbrev pub HasTurns : List Occurrence → Type 0
HasTurns h = (q p : ℕ) → (length (sent h q p) + 1 < 2 ^ 64) × (received h q p + 1 < 2 ^ 64)

-- the tables have what was passed, and each lane's next turn is within 64 bits
abbrev pub HavePassedSome : Counts → Counts → Type 0
HavePassedSome sends receives = (h : List Occurrence) × HavePassed sends receives h × HasTurns h

-- a step with this turn is among the wanted ones of its lane
abbrev pub is_within : Wanted → Step → ℕ → Bool
is_within w (Send a b name) t = nat_le t (w.sends a b)
is_within w (Receive a b region) t = nat_le t (w.receives b a)

-- it is wanted, for itself or with all of its line
abbrev pub is_wanted : Wanted → Step → ℕ → Bool
is_wanted w x t = w.all (maker_of x) || is_within w x t

-- what is wanted with it
abbrev pub with_step : ℕ → Wanted → Step → ℕ → Wanted
with_step k w (Send a b name) t = record {
  sends = raise w.sends a b t;
  receives = raise w.receives a b (t - k);
  all = λ p. (a == p) || w.all p;
}
with_step k w (Receive a b region) t = record {
  sends = raise w.sends b a t;
  receives = raise w.receives b a t;
  all = w.all;
}

-- nothing is wanted
abbrev pub nothing : Wanted
nothing = record { sends = λ q p. 0; receives = λ q p. 0; all = λ p. false }

-- the tables and flags have what is wanted
pub record StandFor (sends receives : Counts) (lines : List Bool) (w : Wanted) : Type 0 where
  pub sent : AreCounts sends w.sends
  pub received : AreCounts receives w.receives
  pub all : AreFlags lines w.all

-- what is found for two steps: the first is the second or before it, or a run in which the second overtakes it
abbrev pub IsFound : ℕ → ℕ → List Occurrence → Place → Place → Option (List Step) → Type 0
IsFound n k h e r None = (e ≡ r) ⊎ BeforeWithin k (chart_of h) e r
IsFound n k h e r (Some run) = IsRunWithin n k (chart_of h) (history_of run)
    × IsOvertaken (chart_of h) (history_of run) e r

-- the step of this number is wanted
abbrev pub comes_so : Wanted → List Step → ℕ → Option Step → Bool
comes_so w steps i None = false
comes_so w steps i (Some x) = is_within w x (turn_of (history_of (take i steps)) x)

abbrev pub comes : Wanted → List Step → ℕ → Bool
comes w steps i = comes_so w steps i (slice_get steps i)
