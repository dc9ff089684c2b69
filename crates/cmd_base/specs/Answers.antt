-- The diagnostics of a result: the exit status, and a text on standard error.
use Rattle.std.specs.Prelude.{◌≡◌, ℕ, List, Option, None, Some, Result, Ok, Err}
use Rattle.texts.specs.Outs.{Sink}
use Rattle.cmd_base.specs.declared.error.ProgramError.{ProgramError}
use Rattle.cmd_base.specs.Refusals.{refusal_text, Tried}

-- the exit status, and the text, if there is one
pub record Exit : Type 0 where
  pub status : ℕ
  pub diagnostics : Option (List ℕ)

-- the exit status and text of a refusal with this line
abbrev pub refusal : List ℕ → Exit
refusal line = record { status = 2; diagnostics = Some line }

-- the exit status and text of a refusal that all programs have
abbrev pub program_exit : ProgramError → Exit
program_exit error = refusal (refusal_text error)

-- the exit status and text of a result, by those of its value and of its error
abbrev pub exit_of : {T E : Type 0} → (T → Exit) → (E → Exit) → Result T E → Exit
exit_of done refused (Ok x) = done x
exit_of done refused (Err e) = refused e

-- the text was written, or a beginning of it if a put failed; without a text nothing happened
abbrev pub Prints : {V : Type 0} → (V → Sink) → V → V → Option (List ℕ) → Type 0
Prints sink old new None = new ≡ old
Prints sink old new (Some text) = Tried sink old new text

-- something was done or refused, and the result was reported
pub record Answers {R V : Type 0} (Does : R → Type 0) (exit : R → Exit) (sink : V → Sink) (old new : V) (status : ℕ)
    : Type 0 where
  pub result : R
  pub done : Does result
  pub exits : status ≡ (exit result).status
  pub prints : Prints sink old new (exit result).diagnostics
