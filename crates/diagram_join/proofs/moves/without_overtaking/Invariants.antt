use Rattle.std.proofs.Common.{◌≡◌, ◌++◌, [], take, drop}
use Rattle.diagram_join.specs.Moves.{staying_from, overtaking_from}
use Rattle.diagrams.specs.Ends.{AreFurthest}
use Rattle.diagram_join.proofs.moves.without_overtaking.Given as goal

abbrev pub invariant-loop-place : goal.invariant-loop-place
invariant-loop-place l = AreFurthest l.furthest (take l.place l.messages)
    × (l.stays.items ++ staying_from (take l.place l.messages) (drop l.place l.messages) ≡ staying_from [] l.messages)
    × (l.overtakings.items ++ overtaking_from (take l.place l.messages) (drop l.place l.messages) ≡ overtaking_from [] l.messages)
