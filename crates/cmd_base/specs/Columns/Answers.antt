-- The text on standard error.
use Rattle.std.specs.Prelude.{ℕ, List, None, codes}
use Rattle.cmd_base.specs.Answers.{Exit, refusal}
use Rattle.cmd_base.specs.Refusals as refusals
use Rattle.cmd_base.specs.declared.columns.error.ColumnError.{ColumnError}
use Rattle.cmd_base.specs.declared.columns.error.ColumnError.TheVariants.{Program, NoSuchName}

-- the line of a refusal
abbrev pub refusal_text : ColumnError → List ℕ
refusal_text (Program cause) = refusals.refusal_text cause
refusal_text NoSuchName = refusals.labelled_text (codes "F34 NoSuchName") None

-- the exit status and text of a refusal
abbrev pub error_exit : ColumnError → Exit
error_exit error = refusal (refusal_text error)
