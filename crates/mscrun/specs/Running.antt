-- What `mscrun` does with the words of a command line (docs/mscrun.1).
use Rattle.std.specs.Prelude.{◌≡◌, ◌⊎◌, ℕ, List, Result, Ok, Err}
use Rattle.std.specs.Global.{Vec}
use Rattle.cmd_base.specs.Answers.{Answers}
use Rattle.cmd_base.specs.Refusals.{refusal_text, Tried}
use Rattle.cmd_base.specs.declared.error.ProgramError.{ProgramError}
use Rattle.cmd_run.specs.Showing.{DoesOnThreads}
use Rattle.cmd_run.specs.Tasks as tasks
use Rattle.cmd_run.specs.Tasks.{task_exit}
use Rattle.texts.specs.Outs.{Sink}
use Rattle.mscrun.specs.Asking.{AreAsking, RefusesWords}
use Rattle.mscrun.specs.declared.asking.Asked.{Asked}
use Rattle.mscrun.specs.declared.asking.Asked.TheVariants.{Task, Threads}

-- the bytes of a file, or the cause of the refusal
abbrev pub given_in : Result (Vec ℕ) ProgramError → Result (List ℕ) ProgramError
given_in (Ok bytes) = Ok bytes.items
given_in (Err error) = Err error

-- standard output is known by `sink` before (`old`) and after (`new`), and standard error by `diagnostics`
module _ {S V : Type 0} (sink : S → Sink) (old new : S) (diagnostics : V → Sink) (before after : V) (status : ℕ) where
  -- what is asked for was done with these bytes, or it was refused, and the refusal is printed
  abbrev pub Performs : Asked → List ℕ → Type 0
  Performs (Task task) bytes = Answers (tasks.Does sink old new task bytes) task_exit diagnostics before after status
  Performs (Threads turns) bytes = Answers (DoesOnThreads sink old new turns bytes) task_exit diagnostics before after status

  -- a refusal's line was written, or a beginning of it if that failed, and nothing else
  abbrev pub Refuses : ProgramError → Type 0
  Refuses error = (status ≡ 2) × (new ≡ old) × Tried diagnostics before after (refusal_text error)

  -- the same for what was given for the file: its bytes, or the cause of the refusal
  abbrev pub DoesWith : Asked → Result (List ℕ) ProgramError → Type 0
  DoesWith asked (Ok bytes) = Performs asked bytes
  DoesWith asked (Err error) = Refuses error

  -- what is asked for was done with what may be given for the file
  abbrev pub Does : (List ℕ → Result (List ℕ) ProgramError → Type 0) → Asked → List ℕ → Type 0
  Does gives asked file = (given : Result (List ℕ) ProgramError) × gives file given × DoesWith asked given

  -- what the words ask for was done, with the file that they name; or the words are refused
  abbrev pub Runs : (List ℕ → Result (List ℕ) ProgramError → Type 0) → List (List ℕ) → Type 0
  Runs gives words = ((asked : Asked) × (file : List ℕ) × AreAsking words asked file × Does gives asked file)
      ⊎ ((error : ProgramError) × RefusesWords words error × Refuses error)
