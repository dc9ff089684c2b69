use Rattle.std.proofs.Common.{◌≡◌, ◌++◌, length}
use Rattle.std.specs.Vec.Iter.{into_iter_items, into_iter_len}
use Rattle.schedule_threads.proofs.Boxes.{AreHeld}
use Rattle.schedule_threads.proofs.own_scripts.run_own_scripts.Given as goal

-- the scripts so far were put into boxes, in order
abbrev pub invariant-loop-script : goal.invariant-loop-script
invariant-loop-script g l =
    record {
      all : l.yielded ++ into_iter_items l.script-iterator ≡ into_iter_items l.initial.script-iterator;
      left : into_iter_len l.script-iterator ≡ length (into_iter_items l.script-iterator);
      held : AreHeld l.behaviours.items l.yielded;
    }
