-- Both looks at a line of a chart's text, taken at once.
use Rattle.std.specs.Prelude.{◌≡◌, ◌⊎◌, ℕ, List, Result, Ok, Err}
use Rattle.chart.specs.Charts.{LineView}
use Rattle.texts.specs.Faults.{◌>>=◌, in_line}
use Rattle.texts.specs.declared.fault.Fault.{Fault}
use Rattle.texts.specs.declared.fault.TextError.{TextError}
use Rattle.texts.specs.declared.fault.TextError.TheVariants as errors
use Rattle.msc_text.specs.Reader.Builders.{BuilderView, built, IsRight}
use Rattle.msc_text.specs.Reader.Reading.{names_after, names_in, lines_in}
use Rattle.msc_text.specs.Reader.Steps.{Step, step_of}
use Rattle.msc_text.specs.declared.reader.state.State.{State}

-- the names, the builder and the state after one more line
unfoldable pub line_read : List (List ℕ) → List (List ℕ) → BuilderView → State → ℕ → List ℕ
    → Result (List (List ℕ) × BuilderView × State) Fault
line_read known names d state n line = do
  step ← in_line n (step_of state line)
  more ← in_line n (names_after names step.0)
  next ← in_line n (built known d step.0)
  Ok (more, next, step.1)

-- the line's only fault may be one that it has by itself, or an unknown instance
abbrev pub MayBeBuilt : List (List ℕ) → List (List ℕ) → BuilderView → State → List ℕ → Type 0
MayBeBuilt known names d state line = (step : Step) (more : List (List ℕ)) → step_of state line ≡ Ok step
    → names_after names step.0 ≡ Ok more → IsRight (built known d step.0)

-- the error is a fault that one of the two looks finds, or memory ran out
abbrev pub OneFails : List (List ℕ) → List ℕ → TextError → Type 0
OneFails known bytes errors.Memory = Unit {0}
OneFails known bytes (errors.Fault fault) = (names_in bytes ≡ Err fault) ⊎ (lines_in known bytes ≡ Err fault)

-- the result, seen by view, is what both looks read, or one of the looks fails with this error
abbrev pub Looks : {X : Type 0} → List (List ℕ) → List ℕ → (X → List (List ℕ) × List LineView) → Result X TextError → Type 0
Looks known bytes view (Ok x) = (names_in bytes ≡ Ok (view x).0) × (lines_in known bytes ≡ Ok (view x).1)
Looks known bytes view (Err error) = OneFails known bytes error
