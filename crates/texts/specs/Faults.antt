-- The answers of a reader of a text, and the order of its checks.
use Rattle.std.specs.Prelude.{◌≡◌, ℕ, Result, Ok, Err}
use Rattle.texts.specs.declared.fault.Cause.{Cause}
use Rattle.texts.specs.declared.fault.Fault.{Fault}
use Rattle.texts.specs.declared.fault.Fault.TheVariants.{Line}
use Rattle.texts.specs.declared.fault.TextError.{TextError}
use Rattle.texts.specs.declared.fault.TextError.TheVariants as errors

infixl 10 ◌>>=◌
-- the next step, unless there is a fault already
abbrev pub ◌>>=◌ : {A B E : Type 0} → Result A E → (A → Result B E) → Result B E
(Ok x) >>= f = f x
(Err e) >>= f = Err e

-- the result of reading a line, with the line's number added to a fault
abbrev pub in_line : {A : Type 0} → ℕ → Result A Cause → Result A Fault
in_line n (Ok x) = Ok x
in_line n (Err cause) = Err (Line n cause)

-- a reader's error is the fault of reading, unless memory ran out
abbrev pub Fails : {Y : Type 0} → TextError → Result Y Fault → Type 0
Fails errors.Memory read = Unit {0}
Fails (errors.Fault fault) read = read ≡ Err fault

-- a reader's answer, seen by view, is the result of reading, unless memory ran out
abbrev pub Gives : {X Y : Type 0} → (X → Y) → Result X TextError → Result Y Fault → Type 0
Gives view (Ok x) read = read ≡ Ok (view x)
Gives view (Err e) read = Fails e read
