-- Draws as the code makes them, from a queue for each instance (this project's profile).
use Rattle.std.specs.Prelude.{◌≡◌, ℕ, ◌≤◌, List, [], ◌∷◌, map, take, All, Option, None, Some}
use Rattle.rand_pcg.specs.Lcg.{Lcg}
use Rattle.rand_pcg.specs.Pcg.{pcg32}
use Rattle.schedule.specs.declared.command.Command.{Command}
use Rattle.schedule.specs.Interleaver.Interleavings.{own, with_some, turn, without_next}

-- the command's actor is one of the instances 1 to n
abbrev pub IsOf : ℕ → Command → Type 0
IsOf n command = (1 ≤ command.actor) × (command.actor ≤ n)

-- each command's actor is
abbrev pub AreOf : ℕ → List Command → Type 0
AreOf n commands = All (IsOf n) commands

-- for each of n instances that has commands, its commands, in rising order of the instances
abbrev pub queues_of : ℕ → List Command → List (List Command)
queues_of n commands = map (own commands) (with_some n commands)

-- a draw when these commands are left: nothing if there are none; otherwise the first command of the instance whose
-- turn the generator's next word draws, and the queues and the generator after it
abbrev pub Draws : ℕ → List Command → Lcg → Option Command → List (List Command) → Lcg → Type 0
Draws n left g None queues next = left ≡ []
Draws n left g (Some c) queues next =
    (take 1 (own left (turn n left (pcg32 g).0)) ≡ c ∷ [])
    × (queues ≡ queues_of n (without_next left (turn n left (pcg32 g).0)))
    × (next ≡ (pcg32 g).1)
