-- The request of what the words name.
use Rattle.std.proofs.Common.{◌≡◌, ◌∙◌, List, Option, Err, ap, sym, option_and_then}
use Rattle.clap.specs.Words.{Row, Text}
use Rattle.cli.specs.Reading.{ReadsWords, command_in}
use Rattle.cli.specs.Requests.{IsRequested, Wish, mscrun, request_of, wish_by}
use Rattle.cli.specs.declared.error.CommandLineError.{CommandLineError}
use Rattle.cli.specs.declared.error.CommandLineError.TheVariants.{Usage, Memory}

pub requests : (words : List Text) (found : Option (Text × List Row)) (request : Option Wish) → found ≡ command_in mscrun words → request ≡ option_and_then wish_by found
    → request_of words ≡ request
unfolding request_of
requests words found request named is = ap (option_and_then wish_by) (sym named) ∙ sym is

pub refused : (words : List Text) (error : CommandLineError) → ReadsWords mscrun words (Err error) → IsRequested words (Err error)
unfolding request_of
refused words Usage none = ap (option_and_then wish_by) none
refused words Memory memory = tt
