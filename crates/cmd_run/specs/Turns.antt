-- Numbers of turns in words of a command line (this project's profile).
use Rattle.std.specs.Prelude.{ℕ, ◌≤◌, List}
use Rattle.cmd_base.specs.Numbers.{IsNumber, number_of}
use Rattle.instances.specs.declared.threads.TheConstants.{MAX_TURNS}

-- a number of turns that a run may have
abbrev pub AreTurns : List ℕ → Type 0
AreTurns word = IsNumber word × (1 ≤ number_of word) × (number_of word ≤ MAX_TURNS)
