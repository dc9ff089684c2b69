-- The two looks at a text's lines, as the loops do them.
use Rattle.std.proofs.Common.{◌≡◌, ℕ, ◌+◌, List, [], ◌∷◌, Result, Ok, Err, refl, sym, ◌∙◌}
use Rattle.texts.specs.Faults.{in_line, Fails, Gives}
use Rattle.texts.specs.declared.fault.Fault.{Fault}
use Rattle.texts.specs.declared.fault.TextError.{TextError}
use Rattle.texts.specs.declared.fault.TextError.TheVariants as errors
use Rattle.texts.proofs.Results.{bind_at, fails_then}
use Rattle.msc_text.specs.Reader.Builders.{BuilderView, built}
use Rattle.msc_text.specs.Reader.Reading.{finished, names_after, look_from, build_from}
use Rattle.msc_text.specs.Reader.Steps.{Step, step_of}
use Rattle.msc_text.specs.declared.reader.state.State.{State}

-- of two equal readings, one fails as the other does
pub fails_so : {A : Type 0} (error : TextError) (r s : Result A Fault) → r ≡ s → Fails error r → Fails error s
fails_so errors.Memory r s e h = tt
fails_so (errors.Fault fault) r s e h = sym e ∙ h

-- of two equal readings, one gives what the other does
pub gives_so : {A : Type 0} (result : Result A TextError) (r s : Result A Fault) → r ≡ s → Gives (λ x. x) result r → Gives (λ x. x) result s
gives_so (Ok x) r s e h = sym e ∙ h
gives_so (Err error) r s e h = fails_so error r s e h

-- ---- the first look

-- the line isn't read
pub look_stops : (error : TextError) (names : List (List ℕ)) (state : State) (n : ℕ) (line : List ℕ) (lines : List (List ℕ)) (rest : List ℕ) → Fails error (in_line n (step_of state line)) → Fails error (look_from names state n (line ∷ lines) rest)
unfolding look_from
look_stops error names state n line lines rest h = fails_then error _ _ h

-- what the line means doesn't fit the names
pub look_stops_at : (error : TextError) (names : List (List ℕ)) (state : State) (n : ℕ) (line : List ℕ) (lines : List (List ℕ)) (rest : List ℕ) (step : Step) → in_line n (step_of state line) ≡ Ok step → Fails error (in_line n (names_after names step.0))
    → Fails error (look_from names state n (line ∷ lines) rest)
unfolding look_from
look_stops_at error names state n line lines rest step e h = fails_so error _ _ (sym (bind_at _ _ step e)) (fails_then error _ _ h)

-- the line is read
pub look_goes_on : (names more : List (List ℕ)) (state : State) (n : ℕ) (line : List ℕ) (lines : List (List ℕ)) (rest : List ℕ) (step : Step) → in_line n (step_of state line) ≡ Ok step → in_line n (names_after names step.0) ≡ Ok more
    → look_from names state n (line ∷ lines) rest ≡ look_from more step.1 (n + 1) lines rest
unfolding look_from
look_goes_on names more state n line lines rest step e f = bind_at _ _ step e ∙ bind_at _ _ more f

-- no line remains
pub look_ends : (names : List (List ℕ)) (state : State) (n : ℕ) (rest : List ℕ) → look_from names state n [] rest ≡ finished names state n rest
unfolding look_from
look_ends names state n rest = refl

-- ---- the second look

pub build_goes_on : (names : List (List ℕ)) (state : State) (d more : BuilderView) (n : ℕ) (line : List ℕ) (lines : List (List ℕ)) (step : Step) → in_line n (step_of state line) ≡ Ok step → in_line n (built names d step.0) ≡ Ok more
    → build_from names state d n (line ∷ lines) ≡ build_from names step.1 more (n + 1) lines
unfolding build_from
build_goes_on names state d more n line lines step e f = bind_at _ _ step e ∙ bind_at _ _ more f

pub build_ends : (names : List (List ℕ)) (state : State) (d : BuilderView) (n : ℕ) → build_from names state d n [] ≡ Ok d.lines
unfolding build_from
build_ends names state d n = refl
