-- The order in which an instance looks at its incoming lanes when it receives from any instance (this project's
-- profile).
use Rattle.std.specs.Prelude.{ℕ, ◌+◌, ◌-◌, not, ◌==◌, List, ◌++◌, filter}
use Rattle.std.specs.List.{range_with_len}
use Rattle.chart.specs.Words.{Instance}

-- the other instances in cyclic order, beginning after the instance l, or with 1 if l is 0
abbrev pub scan : ℕ → Instance → Instance → List Instance
scan n p l = filter (λ q. not (q == p)) (range_with_len (l + 1) (n - l) ++ range_with_len 1 l)
