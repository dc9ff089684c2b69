-- Runs of neighbouring events of a line that pass one test (this project's profile).
use Rattle.std.specs.Prelude.{◌≡◌, ℕ, ◌<◌, ◌≤◌, Bool, true, false, List, length, Some}
use Rattle.chart.specs.declared.event.Event.{Event}
use Rattle.chart.specs.Events.{ith}

-- each event after the first `start` ones, up to the last, passes, and the one at `start` doesn't, if there is one
pub record IsRun (test : Event → Bool) (line : List Event) (start last : ℕ) : Type 0 where
  pub begun : start < last
  pub passes : (i : ℕ) (m : Event) → start < i → i ≤ last → ith line i ≡ Some m → test m ≡ true
  pub whole : (m : Event) → ith line start ≡ Some m → test m ≡ false

-- each event after the first `start` ones passes, and the one at `start` doesn't, if there is one; there may be no
-- event after them
pub record EndsWithRun (test : Event → Bool) (line : List Event) (start : ℕ) : Type 0 where
  pub within : start ≤ length line
  pub passes : (i : ℕ) (m : Event) → start < i → ith line i ≡ Some m → test m ≡ true
  pub whole : (m : Event) → ith line start ≡ Some m → test m ≡ false

-- `start` is the number of events of the line before the run that ends with the event at `index`: a run of receives
-- from its sender if the test is is_receive_from, or a run in its coregion if the test is is_in
pub record IsStartOfRun (test : ℕ → Event → Bool) (line : List Event) (index start : ℕ) : Type 0 where
  pub less : start < index
  pub run : (x : ℕ) (m : Event) → ith line index ≡ Some m → test x m ≡ true → IsRun (test x) line start index
