use Rattle.std.proofs.Common.{◌≡◌, ℕ, List, ◌++◌, length}
use Rattle.texts.specs.Writing.{Puts}
use Rattle.texts.proofs.text_buffer.put_all.Given as goal

-- the bytes that are no longer in the rest were put
abbrev pub invariant-loop-rest : goal.invariant-loop-rest
invariant-loop-rest g l = (done : List ℕ) × (l.bytes ≡ done ++ l.rest) × Puts g.W.Out.sink l.initial.out l.out done

abbrev pub decreases-loop-rest : goal.decreases-loop-rest
decreases-loop-rest g l = length l.rest
