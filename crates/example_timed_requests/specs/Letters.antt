-- The act of a behaviour that sends the letters that it has written.
use Rattle.std.specs.Prelude.{ℕ, List, [], ◌∷◌}
use Rattle.behaviour.specs.declared.act.Act.{Act}
use Rattle.behaviour.specs.declared.act.Act.TheVariants.{Send, Close}
use Rattle.example_timed_requests.specs.declared.letters.Letter.{Letter}

-- the first letter is sent, or, if there is none, the lane to this instance is closed
abbrev pub act_of_first : List Letter → ℕ → Act
act_of_first [] else_close = Close else_close
act_of_first (letter ∷ letters) else_close = Send letter.to letter.message
