use Rattle.std.proofs.Common.{take}
use Rattle.instances.specs.Traces.{turns_of}
use Rattle.schedule_threads.specs.Passing.{Passes}
use Rattle.schedule_threads.proofs.notes.add_trace.Given as goal

-- the turns of the stretches so far were passed over
abbrev pub invariant-loop-stretch : goal.invariant-loop-stretch
invariant-loop-stretch l =
    Passes l.lines l.fn.notes.items 0 (turns_of (take l.stretch-index l.stretches)) l.notes.items l.next
