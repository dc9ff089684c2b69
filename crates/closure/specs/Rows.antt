-- Tables with a value for each event of each line (this project's own).
use Rattle.std.specs.Prelude.{◌≡◌, ℕ, zero, suc, ◌<◌, List, [], length, Option, Some, slice_get, slice_index, slice_index_or}
use Rattle.chart.specs.Words.{Counts}
use Rattle.chart.specs.Charts.{Chart, Place, at}

-- the number that a list has for an instance, 0 if it has none
abbrev pub entry : Counts → ℕ → ℕ
entry xs zero = 0
entry xs (suc p) = slice_index xs p

-- the value that rows have for the event at k of the line at p, both from 0
abbrev pub value_at : {X : Type 0} → List (List X) → ℕ → ℕ → Option X
value_at rows p k = slice_get (slice_index_or rows p []) k

-- for each of the first m events of p's line the value is right
pub record IsRow {X : Type 0} (IsRight : Place → X → Type 0) (p m : ℕ) (row : List X) : Type 0 where
  pub whole : length row ≡ m
  pub right : (k : ℕ) (x : X) → slice_get row k ≡ Some x → IsRight (at p (suc k)) x

-- for each event of the first n lines the value is right
pub record AreRows {X : Type 0} (IsRight : Place → X → Type 0) (c : Chart) (n : ℕ) (rows : List (List X)) : Type 0 where
  pub whole : length rows ≡ n
  pub each : (p : ℕ) → p < n → IsRow IsRight (suc p) (length (c (suc p))) (slice_index_or rows p [])
