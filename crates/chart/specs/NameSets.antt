-- What holds of a list of the instances' names: no name occurs twice (ITU-T Z.120), and their number is within the
-- limit of this project's profile.
use Rattle.std.specs.Prelude.{◌≡◌, ℕ, ◌≤◌, List, length, slice_get, Some}
use Rattle.chart.specs.Words.{Name}
use Rattle.chart.specs.declared.instance.TheConstants.{MAX_INSTANCES}

-- at most as many names as there may be instances, none twice
pub record AreNames (names : List Name) : Type 0 where
  pub limit : length names ≤ MAX_INSTANCES
  pub distinct : (i j : ℕ) (w : Name) → slice_get names i ≡ Some w → slice_get names j ≡ Some w → i ≡ j
