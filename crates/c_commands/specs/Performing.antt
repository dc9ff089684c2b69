-- What the program does with the bytes of a file, if its texts go into a caller's buffers (this project's profile): as
-- much of each as there is room for.
use Rattle.std.specs.Prelude.{◌≡◌, ℕ, ◌==◌, List, [], length, Option, None, Some, Result, Ok, Err, if◌then◌else◌}
use Rattle.cmd_base.specs.Answers.{Answers}
use Rattle.c_board.specs.Copying.{put_over}
use Rattle.c_board.specs.declared.misuse.Misuse.{Misuse}
use Rattle.c_board.specs.declared.misuse.Misuse.TheVariants.{WrongNumber}
use Rattle.texts.specs.Outs.{Sink, Stored}
use Rattle.cmd_run.specs.Tasks.{Does, task_exit}
use Rattle.cmd_run.specs.declared.task.Task.{Task}
use Rattle.cmd_run.specs.declared.task.Task.TheVariants.{Replay, Random, Check}
use Rattle.c_commands.specs.declared.performing.Performed.{Performed}

-- the task with a number
abbrev pub task_in : ℕ → ℕ → Option Task
task_in number seed =
    if number == 0 then Some Replay
    else (if number == 1 then Some (Random seed) else (if number == 2 then Some Check else None))

-- a text in memory as a sink
abbrev pub in_memory : Stored → Sink
in_memory s = record { contents = Some s.bytes; failures = s.failures }

abbrev pub nothing : Stored
nothing = record { bytes = []; failures = 0 }

-- the program writes these texts from an empty start, and exits with the status. The buffers have as much of them as
-- there is room for, and the result has their whole lengths
pub record IsDone (task : Task) (bytes room_out room_err : List ℕ) (performed : Performed)
    (out err : List ℕ) : Type 0 where
  pub written : Stored
  pub diagnostics : Stored
  pub answers : Answers (Does in_memory nothing written task bytes) task_exit in_memory nothing diagnostics performed.status
  pub out_is : out ≡ put_over written.bytes room_out
  pub err_is : err ≡ put_over diagnostics.bytes room_err
  pub out_length : performed.out ≡ length written.bytes
  pub err_length : performed.err ≡ length diagnostics.bytes

-- the task is done, or there is none and the buffers stay as they were
abbrev pub Performs : Option Task → List ℕ → List ℕ → List ℕ → Result Performed Misuse → List ℕ → List ℕ → Type 0
Performs None bytes room_out room_err result out err = (result ≡ Err WrongNumber) × (out ≡ room_out) × (err ≡ room_err)
Performs (Some task) bytes room_out room_err (Ok performed) out err =
    IsDone task bytes room_out room_err performed out err
Performs (Some task) bytes room_out room_err (Err refusal) out err = ⊥
