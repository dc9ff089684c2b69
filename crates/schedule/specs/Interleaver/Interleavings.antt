-- Drawn interleavings: each instance makes its commands in order, and the words of a generator draw whose turn it is
-- (this project's profile; the generator is of M. O'Neill, PCG, 2014).
use Rattle.std.specs.Prelude.{ℕ, ◌%◌, ◌==◌, Bool, true, false, List, [], ◌∷◌, ◌++◌, length, filter, take, slice_index, if◌then◌else◌}
use Rattle.std.specs.List.{range_with_len}
use Rattle.rand_core.specs.Pcg32Seed.{pcg32_seed}
use Rattle.rand_core.specs.Steps.{first_words}
use Rattle.rand_pcg.specs.Lcg.{Lcg}
use Rattle.rand_pcg.specs.Pcg.{pcg32, pcg32_of_seed}
use Rattle.schedule.specs.Plans.{Plan}
use Rattle.schedule.specs.declared.command.Command.{Command}

-- the commands of the instance p, in order
abbrev pub own : List Command → ℕ → List Command
own commands p = filter (λ c. c.actor == p) commands

-- there is at least one command
abbrev pub are_some : List Command → Bool
are_some [] = false
are_some (c ∷ cs) = true

-- those of n instances that have some of these commands, in rising order
abbrev pub with_some : ℕ → List Command → List ℕ
with_some n commands = filter (λ p. are_some (own commands p)) (range_with_len 1 n)

-- the instance whose turn the word w draws: of the m instances that have commands left, the one with number w mod m
-- among them, from 0
abbrev pub turn : ℕ → List Command → ℕ → ℕ
turn n left w = slice_index (with_some n left) (w % length (with_some n left))

-- the commands that are left after p has made the first of its own
abbrev pub without_next : List Command → ℕ → List Command
without_next [] p = []
without_next (c ∷ cs) p = if c.actor == p then cs else c ∷ without_next cs p

-- the commands in the order that these words draw: each time one instance makes the first of its remaining commands
unfoldable pub interleaved : ℕ → List ℕ → List Command → List Command
interleaved n [] left = []
interleaved n (w ∷ words) left = take 1 (own left (turn n left w)) ++ interleaved n words
    (without_next left (turn n left w))

-- the generator of a seed
abbrev pub generator : ℕ → Lcg
generator seed = pcg32_of_seed (pcg32_seed 16 seed)

-- the plan with its commands in the order that the seed draws, with a word for each command
abbrev pub drawn_of : Plan → ℕ → Plan
drawn_of plan seed = record {
  names = plan.names;
  capacity = plan.capacity;
  commands = interleaved (length plan.names) (first_words pcg32 (length plan.commands) (generator seed)) plan.commands;
}
