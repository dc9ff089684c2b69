-- The order of the whole log, with the messages that its chart omits (after the order of Lamport 1978; which pairs of
-- one host are in order is this project's profile). It may have cycles.
use Rattle.std.specs.Prelude.{◌≡◌, ℕ, ◌<◌, true, false, List, Some, Contains}
use Rattle.log_chart.specs.Entries.{is_send}
use Rattle.log_chart.specs.declared.matching.LogLine.{LogLine}

-- x is an earlier line of y's host
pub record IsAbove (lines : List LogLine) (x y : LogLine) : Type 0 where
  pub among : Contains lines x
  pub among_too : Contains lines y
  pub host : x.entry.host ≡ y.entry.host
  pub less : x.number < y.number

-- a comes directly before b, both given by their numbers: a line before a later send of its host; a receive before a
-- later one of its host from the same sender; or a send before the line that takes it
pub data IsDirectlyAhead (lines : List LogLine) (a b : ℕ) : Type 0 where
  to_send : (x y : LogLine) → IsAbove lines x y → is_send y.entry.kind ≡ true → x.number ≡ a → y.number ≡ b
      → IsDirectlyAhead lines a b
  same_sender : (x y : LogLine) → IsAbove lines x y → is_send x.entry.kind ≡ false → is_send y.entry.kind ≡ false
      → x.entry.peer ≡ y.entry.peer → x.number ≡ a → y.number ≡ b → IsDirectlyAhead lines a b
  message : (y : LogLine) → Contains lines y → y.send ≡ Some a → y.number ≡ b → IsDirectlyAhead lines a b

-- the least transitive relation that includes all direct pairs
pub data IsAhead (lines : List LogLine) : ℕ → ℕ → Type 0 where
  direct : {a b : ℕ} → IsDirectlyAhead lines a b → IsAhead lines a b
  through : {a d b : ℕ} → IsAhead lines a d → IsAhead lines d b → IsAhead lines a b
