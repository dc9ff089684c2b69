-- Why a text isn't imported.
use Rattle.std.specs.Prelude.{◌≡◌, ℕ, List, Result, Ok, Err}
use Rattle.diagrams.specs.declared.place.Place.{Place}
use Rattle.diagram_join.specs.declared.error.JoinError.{JoinError}
use Rattle.diagram_import.specs.declared.error.ImportError.{ImportError}
use Rattle.diagram_import.specs.declared.error.ImportError.TheVariants as errors

-- a line to skip doesn't exist; the words at a place can't be read, or may not be skipped; the text ends too early; an
-- arc names an unknown entity; there is no chart
pub data Refusal : Type 0 where
  Usage : Refusal
  NotRead : Place → List ℕ → Refusal
  Unfinished : Refusal
  UnknownInstance : ℕ → Refusal
  NoChart : JoinError → Refusal

-- an error is this refusal, unless memory ran out
abbrev pub IsOf : ImportError → Refusal → Type 0
IsOf errors.Memory refusal = Unit {0}
IsOf errors.Usage refusal = refusal ≡ Usage
IsOf (errors.NotRead place words) refusal = refusal ≡ NotRead place words.items
IsOf errors.Unfinished refusal = refusal ≡ Unfinished
IsOf (errors.UnknownInstance line) refusal = refusal ≡ UnknownInstance line
IsOf (errors.NoChart error) refusal = refusal ≡ NoChart error

-- an error is the refusal, unless memory ran out
abbrev pub Fails : {Y : Type 0} → ImportError → Result Y Refusal → Type 0
Fails errors.Memory read = Unit {0}
Fails errors.Usage read = read ≡ Err Usage
Fails (errors.NotRead place words) read = read ≡ Err (NotRead place words.items)
Fails errors.Unfinished read = read ≡ Err Unfinished
Fails (errors.UnknownInstance line) read = read ≡ Err (UnknownInstance line)
Fails (errors.NoChart error) read = read ≡ Err (NoChart error)

-- the result, seen through view, is the defined one, unless memory ran out
abbrev pub Gives : {X Y : Type 0} → (X → Y) → Result X ImportError → Result Y Refusal → Type 0
Gives view (Ok x) read = read ≡ Ok (view x)
Gives view (Err e) read = Fails e read
