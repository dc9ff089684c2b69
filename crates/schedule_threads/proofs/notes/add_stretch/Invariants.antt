use Rattle.std.proofs.Common.{replicate}
use Rattle.schedule_threads.specs.Passing.{Passes}
use Rattle.schedule_threads.proofs.notes.add_stretch.Given as goal

-- this many of the turns were passed over
abbrev pub invariant-loop : goal.invariant-loop
invariant-loop l =
    Passes l.lines l.fn.notes.items l.fn.place (replicate l.counter l.stretch.turn) l.notes.items l.next
