-- The refusals of a command line.
use Rattle.std.specs.Prelude.{◌≡◌, ◌⊎◌}
use Rattle.cli.specs.declared.error.CommandLineError.{CommandLineError}
use Rattle.cli.specs.declared.error.CommandLineError.TheVariants as lines
use Rattle.cmd_base.specs.declared.error.ProgramError.{ProgramError}
use Rattle.cmd_base.specs.declared.error.ProgramError.TheVariants.{Usage, Memory}

-- the refusal of a command line, as one of the program
abbrev pub refusal_of : CommandLineError → ProgramError
refusal_of lines.Usage = Usage
refusal_of lines.Memory = Memory

-- the refusal of words that form no request: G1, or F6 if memory ran out
abbrev pub RefusesWords : ProgramError → Type 0
RefusesWords error = (error ≡ Usage) ⊎ (error ≡ Memory)
