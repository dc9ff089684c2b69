-- The exit status, which depends on whether some race is shown, and the text on standard error.
use Rattle.std.specs.Prelude.{Result}
use Rattle.cmd_base.specs.Answers.{Exit, exit_of}
use Rattle.cmd_base.specs.NotDone.{not_done_diagnostic}
use Rattle.cmd_base.specs.Statuses.{code_of}
use Rattle.cmd_base.specs.Columns.Answers.{error_exit}
use Rattle.cmd_base.specs.declared.columns.error.ColumnError.{ColumnError}
use Rattle.cmd_races.specs.declared.shown_file.ShownFile.{ShownFile}

-- the answer after races were written, with the commands of a schedule that did nothing
abbrev pub noted_exit : ShownFile → Exit
noted_exit shown = record { status = code_of shown.status; diagnostics = not_done_diagnostic shown.not_done }

-- the answer after races were written or refused
abbrev pub shown_exit : Result ShownFile ColumnError → Exit
shown_exit = exit_of noted_exit error_exit
