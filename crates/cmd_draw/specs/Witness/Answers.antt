-- The status and the lines for a witness's picture.
use Rattle.std.specs.Prelude.{Result}
use Rattle.cmd_base.specs.Answers.{Exit, exit_of}
use Rattle.cmd_base.specs.Columns.Answers as columns
use Rattle.cmd_explain_race.specs.Answers.{witnessed_exit}
use Rattle.cmd_base.specs.Pairs.Answers as pairs
use Rattle.cmd_explain_race.specs.declared.verdict.Witnessed.{Witnessed}
use Rattle.cmd_draw.specs.declared.witness.error.PictureError.{PictureError}
use Rattle.cmd_draw.specs.declared.witness.error.PictureError.TheVariants.{Columns, Pair}

-- for a refusal
abbrev pub picture_error_exit : PictureError → Exit
picture_error_exit (Columns error) = columns.error_exit error
picture_error_exit (Pair error) = pairs.error_exit error

-- for a pair whose witness was drawn, or searched for: those of `mscview witness`
abbrev pub picture_exit : Result Witnessed PictureError → Exit
picture_exit = exit_of witnessed_exit picture_error_exit
