use Rattle.std.proofs.Common.{◌≡◌, ℕ, ◌<◌, ◌^◌, true, List, length, Result, Ok, Err, sym, ◌∙◌}
use Rattle.std.specs.Char.{is_ascii_digit}
use Rattle.std.specs.List.{list_all}
use Rattle.std.specs.Option.{SomeIff}
use Rattle.std.specs.Result.{OkIff, result_ok}
use Rattle.std.proofs.lemmas.Str.Parse.{parse_digits}
use Rattle.cmd_base.specs.Numbers.{IsNumber, number_of}
use Rattle.cmd_base.proofs.Numerals.{numerals}
use Rattle.cmd_base.proofs.number.number_in.Goals as goal

-- the number that is parsed from digits is their number
parsed : {E : Type 0} (word : List ℕ) (r : Result ℕ E) → list_all is_ascii_digit word ≡ true → OkIff r ((0 < length word) × (number_of word < 2 ^ 64)) (number_of word) → SomeIff (result_ok r) (IsNumber word) (number_of word)
parsed word (Ok n) digits read = ((read.0.0, digits, read.0.1), read.1)
parsed word (Err e) digits read = λ number. read (number.0, number.2)

pub returns : goal.returns
returns c =
    let word = c.args.word.now in
    let digits : list_all is_ascii_digit word ≡ true = sym c.are_digits.ensures ∙ c.if-not-are_digits.false in
    rw c.ok.ensures.value (parsed word c.parse.result digits (parse_digits numerals 64 word c.parse.result c.parse.ensures.value.0 digits))
