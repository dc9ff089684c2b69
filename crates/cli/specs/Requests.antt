-- What the words of a command line of `mscrun` ask for (docs/mscrun.1, "SYNOPSIS").
use Rattle.std.specs.Prelude.{◌≡◌, List, [], ◌∷◌, Option, None, Some, option_and_then, option_map, Result, Ok, Err, if◌then◌else◌, codes, ⊤}
use Rattle.std.specs.Str.{bytes_eq}
use Rattle.clap.specs.Words.{App, Row, Text, first_of}
use Rattle.cli.specs.Tables.{command, needed, needed_option, program}
use Rattle.cli.specs.Reading.{command_in}
use Rattle.cli.specs.declared.error.CommandLineError.{CommandLineError}
use Rattle.cli.specs.declared.error.CommandLineError.TheVariants.{Usage, Memory}
use Rattle.cli.specs.declared.request.Request.{Request}
use Rattle.cli.specs.declared.request.Request.TheVariants as requests

-- The program and its commands, each with its words. By the rules of `clap`, options may come before FILE or after it,
-- `--seed=N` is `--seed N`, and after `--` each word is a file.
abbrev pub mscrun : App
mscrun = program (codes "mscrun")
    (command (codes "replay") (needed (codes "FILE") ∷ [])
    ∷ command (codes "random") (needed (codes "FILE") ∷ needed_option (codes "seed") ∷ [])
    ∷ command (codes "check") (needed (codes "FILE") ∷ [])
    ∷ command (codes "threads") (needed (codes "FILE") ∷ needed_option (codes "turns") ∷ [])
    ∷ [])

-- what a command line asks for; the numbers are still words
pub data Wish : Type 0 where
  replay : Text → Wish
  random : Text → Text → Wish
  check : Text → Wish
  threads : Text → Text → Wish

-- what a command with this file asks for, by what is found for its words
abbrev pub wish_for : Text → List Row → Text → Option Wish
wish_for name found file =
    if bytes_eq name (codes "replay") then Some (replay file)
    else if bytes_eq name (codes "check") then Some (check file)
    else if bytes_eq name (codes "random") then option_map (random file) (first_of (codes "seed") found)
    else if bytes_eq name (codes "threads") then option_map (threads file) (first_of (codes "turns") found)
    else None

abbrev pub wish_by : Text × List Row → Option Wish
wish_by named = option_and_then (wish_for named.0 named.1) (first_of (codes "FILE") named.1)

-- what these words ask for, of which the first is the program's name; none if they are no command line
unfoldable pub request_of : List Text → Option Wish
request_of words = option_and_then wish_by (command_in mscrun words)

-- a request of the program, with the texts of its words
abbrev pub wish : Request → Wish
wish (requests.Replay file) = replay file.now
wish (requests.Random file seed) = random file.now seed.now
wish (requests.Check file) = check file.now
wish (requests.Threads file turns) = threads file.now turns.now

-- the words' request; or G1, if and only if they are no command line; or F6, if memory ran out
abbrev pub IsRequested : List Text → Result Request CommandLineError → Type 0
IsRequested words (Ok request) = request_of words ≡ Some (wish request)
IsRequested words (Err Usage) = request_of words ≡ None
IsRequested words (Err Memory) = ⊤
