-- What `clap` reads of the words of a command line, and which words it refuses.
use Rattle.std.specs.Prelude.{◌≡◌, ◌++◌, false, List, Option, None, Result, Ok, Err, if◌then◌else◌, ⊤}
use Rattle.clap.specs.Simple.{on_top}
use Rattle.clap.specs.Walk.{is_empty}
use Rattle.clap.specs.Words.{App, Row, Rule, Text, app_of, fault_of, kind_of, subcommand_of, subcommand_rows_of}
use Rattle.clap.specs.declared.builder.command.Command.{Command}
use Rattle.clap.specs.declared.builder.command.Command.TheViews.{out-Command as fields_of}
use Rattle.clap.specs.declared.error.Error.{Error}
use Rattle.clap.specs.declared.error.kind.ErrorKind.TheVariants as kinds
use Rattle.clap.specs.declared.parser.matches.ArgMatches.{ArgMatches}
use Rattle.cli.specs.declared.error.CommandLineError.{CommandLineError}
use Rattle.cli.specs.declared.error.CommandLineError.TheVariants.{Usage, Memory}

-- the command that the words name, with what is found for each of its words; none if `clap` finds a fault
unfoldable pub command_in : App → List Text → Option (Text × List Row)
command_in program words = if is_empty (fault_of program words) then subcommand_of program words else None

-- `clap` made this program, in which no argument is for all commands
pub record IsProgram (made : Command) (program : App) : Type 0 where
  pub app : app_of made ≡ program
  pub local : (fields_of made).has_globals ≡ false

-- the program with these rules at the end
abbrev pub with_rules : App → List Rule → App
with_rules program rules = on_top (λ shape. record shape { rules = shape.rules ++ rules }) program

-- the command is the old one with these rules at the end
abbrev pub AddsRules : Command → List Rule → Command → Type 0
AddsRules old rules new = (program : App) → IsProgram old program → IsProgram new (with_rules program rules)

-- an error of `clap` is F6 if memory ran out, and otherwise G1
abbrev pub IsFault : Error → CommandLineError → Type 0
IsFault error Memory = kind_of error ≡ kinds.OutOfMemory
IsFault error Usage = kind_of error ≡ kinds.OutOfMemory → ⊥

-- these words were read, or are refused: G1 if and only if `clap` finds a fault, and F6 only if memory ran out
abbrev pub ReadsWords : App → List Text → Result ArgMatches CommandLineError → Type 0
ReadsWords program words (Ok matches) = subcommand_rows_of matches ≡ command_in program words
ReadsWords program words (Err Usage) = command_in program words ≡ None
ReadsWords program words (Err Memory) = ⊤
