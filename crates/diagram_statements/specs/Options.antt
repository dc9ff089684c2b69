-- Steps, each of which may have no result.
use Rattle.std.specs.Prelude.{Option, None, Some}

infixl 10 ◌>>=◌
-- the next step, if there is a result
abbrev pub ◌>>=◌ : {A B : Type 0} → Option A → (A → Option B) → Option B
None >>= f = None
(Some x) >>= f = f x
