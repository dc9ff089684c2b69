-- The word of a handle.
use Rattle.std.specs.Prelude.{ℕ, Option, None, Some}

-- 1 if the handle keeps something, and otherwise 0
abbrev pub word_of : {X : Type 0} → Option X → ℕ
word_of None = 0
word_of (Some x) = 1
