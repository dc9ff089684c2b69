-- The lines that `mscview draw` prints on standard error.
use Rattle.std.specs.Prelude.{ℕ, List, Option, Result}
use Rattle.cmd_base.specs.Answers.{Exit, refusal, exit_of}
use Rattle.cmd_base.specs.NotDone.{not_done_exit}
use Rattle.cmd_base.specs.Refusals as refusals
use Rattle.cmd_base.specs.declared.not_done.NotDone.{NotDone}
use Rattle.cmd_base.specs.Named.NamedRefusals.{missing_text}
use Rattle.cmd_base.specs.Columns.Answers.{refusal_text}
use Rattle.cmd_draw.specs.declared.error.DrawError.{DrawError}
use Rattle.cmd_draw.specs.declared.error.DrawError.TheVariants.{Columns, NoSuchEvent}

-- the line of a picture's refusal
abbrev pub picture_refusal_text : DrawError → List ℕ
picture_refusal_text (Columns error) = refusal_text error
picture_refusal_text (NoSuchEvent missing) = missing_text missing

abbrev pub draw_error_exit : DrawError → Exit
draw_error_exit error = refusal (picture_refusal_text error)

-- the status and the lines for a picture: for a schedule, the commands that did nothing
abbrev pub draw_exit : Result (Option NotDone) DrawError → Exit
draw_exit = exit_of not_done_exit draw_error_exit
