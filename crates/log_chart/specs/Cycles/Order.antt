-- What comes before what in a log (Lamport 1978): a line of a host before its later lines, and a send before the
-- receive that takes it.
use Rattle.std.specs.Prelude.{◌≡◌, ℕ, ◌<◌, List, Some, Contains}
use Rattle.log_chart.specs.declared.matching.LogLine.{LogLine}

-- directly, by the numbers of the lines
pub data Follows (lines : List LogLine) (a b : ℕ) : Type 0 where
  host : (x y : LogLine) → Contains lines x → Contains lines y → x.number ≡ a → y.number ≡ b → x.entry.host ≡ y.entry.host → a < b → Follows lines a b
  message : (y : LogLine) → Contains lines y → y.number ≡ b → y.send ≡ Some a → Follows lines a b

-- the least transitive relation that has all direct pairs
pub data Comes (lines : List LogLine) : ℕ → ℕ → Type 0 where
  direct : {a b : ℕ} → Follows lines a b → Comes lines a b
  through : {a d b : ℕ} → Comes lines a d → Comes lines d b → Comes lines a b
