-- Texts in memory that stand for the files of a command line (this project's profile).
use Rattle.std.specs.Prelude.{ℕ, List, Option, None, Some, Result, Ok, Err}
use Rattle.cmd_base.specs.declared.error.ProgramError.{ProgramError}
use Rattle.cmd_base.specs.declared.error.ProgramError.TheVariants as errors
use Rattle.c_commands.specs.declared.given.Bytes.{Bytes}

-- the content for a file with a text, or without one: then the file can't be read
abbrev pub given_at : Option Bytes → Result (List ℕ) ProgramError
given_at None = Err errors.File
given_at (Some text) = Ok text.bytes.now
