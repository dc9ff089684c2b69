-- The forms of command lines of `mscrun`, for any words (docs/mscrun.1, "SYNOPSIS").
use Rattle.std.specs.Prelude.{◌≡◌, ◌++◌, [], ◌∷◌, Some, None, codes}
use Rattle.clap.specs.Words.{Text}
use Rattle.cli.specs.Requests.{check, random, replay, request_of, threads}

-- an option `--seed` or `--turns` with its word behind `=`
abbrev pub seed_is : Text → Text
seed_is word = codes "--seed=" ++ word

abbrev pub turns_are : Text → Text
turns_are word = codes "--turns=" ++ word

-- after `--` the word is the file, whatever it begins with, and after `=` the word is the option's
abbrev pub FormLaw : Type 0
FormLaw = (name file word : Text)
    → (request_of (name ∷ codes "replay" ∷ codes "--" ∷ file ∷ []) ≡ Some (replay file))
    × (request_of (name ∷ codes "check" ∷ codes "--" ∷ file ∷ []) ≡ Some (check file))
    × (request_of (name ∷ codes "random" ∷ seed_is word ∷ codes "--" ∷ file ∷ []) ≡ Some (random file word))
    × (request_of (name ∷ codes "threads" ∷ turns_are word ∷ codes "--" ∷ file ∷ []) ≡ Some (threads file word))

-- no command, no file, a second file, no seed, a second seed, and an option of another command
abbrev pub MistakeLaw : Type 0
MistakeLaw = (name file word second : Text)
    → (request_of (name ∷ []) ≡ None)
    × (request_of (name ∷ codes "replay" ∷ []) ≡ None)
    × (request_of (name ∷ codes "replay" ∷ codes "--" ∷ file ∷ second ∷ []) ≡ None)
    × (request_of (name ∷ codes "random" ∷ codes "--" ∷ file ∷ []) ≡ None)
    × (request_of (name ∷ codes "random" ∷ codes "--" ∷ file ∷ seed_is word ∷ []) ≡ None)
    × (request_of (name ∷ codes "random" ∷ seed_is word ∷ seed_is second ∷ codes "--" ∷ file ∷ []) ≡ None)
    × (request_of (name ∷ codes "check" ∷ seed_is word ∷ codes "--" ∷ file ∷ []) ≡ None)
