-- What the words of a command line ask for, with their numbers (docs/mscrun.1).
use Rattle.std.specs.Prelude.{◌≡◌, ℕ, List, Option, None, Some, Result, Ok, Err, ⊤}
use Rattle.std.specs.Borrow.{Bor}
use Rattle.cli.specs.Requests.{Wish, replay, random, check, threads, request_of}
use Rattle.cli.specs.declared.error.CommandLineError.{CommandLineError}
use Rattle.cli.specs.declared.error.CommandLineError.TheVariants as lines
use Rattle.cmd_base.specs.Numbers.{IsNumber, number_of}
use Rattle.cmd_base.specs.declared.error.ProgramError.{ProgramError}
use Rattle.cmd_base.specs.declared.error.ProgramError.TheVariants.{Usage, Memory}
use Rattle.cmd_run.specs.Turns.{AreTurns}
use Rattle.cmd_run.specs.declared.task.Task.TheVariants.{Replay, Random, Check}
use Rattle.mscrun.specs.declared.asking.Asked.{Asked}
use Rattle.mscrun.specs.declared.asking.Asked.TheVariants.{Task, Threads}

-- G1, or F6 if memory ran out
abbrev pub refusal_of : CommandLineError → ProgramError
refusal_of lines.Usage = Usage
refusal_of lines.Memory = Memory

-- a command asks for this, of this file: a seed is any number, and turns are those that a run may have
abbrev pub IsAskedBy : Wish → Asked → List ℕ → Type 0
IsAskedBy (replay path) (Task Replay) file = file ≡ path
IsAskedBy (check path) (Task Check) file = file ≡ path
IsAskedBy (random path seed) (Task (Random n)) file = (file ≡ path) × IsNumber seed × (n ≡ number_of seed)
IsAskedBy (threads path turns) (Threads n) file = (file ≡ path) × AreTurns turns × (n ≡ number_of turns)
IsAskedBy wish asked file = ⊥

-- its number isn't valid
abbrev pub IsMistaken : Wish → Type 0
IsMistaken (random path seed) = IsNumber seed → ⊥
IsMistaken (threads path turns) = AreTurns turns → ⊥
IsMistaken wish = ⊥

-- what a command asks for, and its file; or G1, if its number isn't valid
abbrev pub Asks : Wish → Result (Asked × Bor (List ℕ)) ProgramError → Type 0
Asks wish (Ok asked) = IsAskedBy wish asked.0 asked.1.now
Asks wish (Err error) = (error ≡ Usage) × IsMistaken wish

-- the words ask for this, of this file
abbrev pub AreAsking : List (List ℕ) → Asked → List ℕ → Type 0
AreAsking words asked file = (wish : Wish) × (request_of words ≡ Some wish) × IsAskedBy wish asked file

-- the words ask for nothing: they are no command line, or its number isn't valid
abbrev pub IsNothing : Option Wish → Type 0
IsNothing None = ⊤
IsNothing (Some wish) = IsMistaken wish

-- these words are refused: by G1 if they ask for nothing, and by F6 if memory ran out
abbrev pub RefusesWords : List (List ℕ) → ProgramError → Type 0
RefusesWords words Usage = IsNothing (request_of words)
RefusesWords words Memory = ⊤
RefusesWords words error = ⊥

-- what the words ask for, and the file; or the refusal of the words
abbrev pub IsAsked : List (List ℕ) → Result (Asked × Bor (List ℕ)) ProgramError → Type 0
IsAsked words (Ok asked) = AreAsking words asked.0 asked.1.now
IsAsked words (Err error) = RefusesWords words error
