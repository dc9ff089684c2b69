-- What words ask for, by the request that they make.
use Rattle.std.proofs.Common.{◌≡◌, ℕ, List, Some, Result, Ok, Err, sym, subst}
use Rattle.std.specs.Borrow.{Bor}
use Rattle.cli.specs.Requests.{IsRequested, Wish, request_of}
use Rattle.cli.specs.declared.error.CommandLineError.{CommandLineError}
use Rattle.cli.specs.declared.error.CommandLineError.TheVariants as lines
use Rattle.cmd_base.specs.declared.error.ProgramError.{ProgramError}
use Rattle.mscrun.specs.Asking.{Asks, IsAsked, IsNothing, RefusesWords, refusal_of}
use Rattle.mscrun.specs.declared.asking.Asked.{Asked}

pub asked_so : (words : List (List ℕ)) (wish : Wish) (result : Result (Asked × Bor (List ℕ)) ProgramError) → request_of words ≡ Some wish → Asks wish result → IsAsked words result
asked_so words wish (Ok asked) is asks = (wish, is, asks)
asked_so words wish (Err error) is asks = subst (RefusesWords words) (sym asks.0) (subst IsNothing (sym is) asks.1)

pub refused_so : (words : List (List ℕ)) (error : CommandLineError) → IsRequested words (Err error) → RefusesWords words (refusal_of error)
refused_so words lines.Usage none = subst IsNothing (sym none) tt
refused_so words lines.Memory memory = tt
