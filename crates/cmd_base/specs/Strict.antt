-- What `--strict` refuses of a file (this project's own): a schedule with a command that did nothing, by the line of
-- the first.
use Rattle.std.specs.Prelude.{◌≡◌, ℕ, Bool, true, false, List, codes, Option, None, Some, Result, Ok, Err}
use Rattle.texts.specs.Outs.{Sink}
use Rattle.cmd_base.specs.Contents.{is_schedule}
use Rattle.cmd_base.specs.NotDone.{not_done_of}
use Rattle.cmd_base.specs.Refusals.{refusal_text, labelled_text, Tried}
use Rattle.cmd_base.specs.Texts.{OfFile}
use Rattle.cmd_base.specs.declared.error.ProgramError.{ProgramError}
use Rattle.cmd_base.specs.declared.not_done.NotDone.{NotDone}

-- the commands of the file that did nothing, if the file is a schedule (`true`); or memory ran out, or the schedule has
-- a fault
abbrev pub FindsBy : Bool → List ℕ → Result (Option NotDone) ProgramError → Type 0
FindsBy true bytes found = OfFile (λ error. error) (λ source done. done ≡ Ok (not_done_of source)) (tt {0}) (tt {0}) bytes found
FindsBy false bytes found = found ≡ Ok None

abbrev pub Finds : List ℕ → Result (Option NotDone) ProgramError → Type 0
Finds bytes found = FindsBy (is_schedule bytes) bytes found

-- the line of the refusal, with the line number of the first command that did nothing
unfoldable pub strict_text : ℕ → List ℕ
strict_text line = labelled_text (codes "F53 NotDone") (Some line)

-- by what was found: nothing is refused, or the refusal is printed, with status 2
abbrev pub RefusesFound : {V : Type 0} → Result (Option NotDone) ProgramError → (V → Sink) → V → V → Option ℕ → Type 0
RefusesFound (Ok None) sink old new refused = (refused ≡ None) × (new ≡ old)
RefusesFound (Ok (Some them)) sink old new refused = (refused ≡ Some 2) × Tried sink old new (strict_text them.line)
RefusesFound (Err error) sink old new refused = (refused ≡ Some 2) × Tried sink old new (refusal_text error)

-- with `--strict` a file was refused with this status, or wasn't refused; without `--strict` nothing is refused
abbrev pub Refuses : {V : Type 0} → Bool → List ℕ → (V → Sink) → V → V → Option ℕ → Type 0
Refuses false bytes sink old new refused = (refused ≡ None) × (new ≡ old)
Refuses true bytes sink old new refused =
    (found : Result (Option NotDone) ProgramError) × Finds bytes found × RefusesFound found sink old new refused
