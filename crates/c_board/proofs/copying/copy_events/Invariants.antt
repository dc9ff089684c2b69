use Rattle.std.proofs.Common.{◌≡◌, ◌≤◌, ◌++◌, length, take, drop}
use Rattle.c_board.specs.Copying.{indices}
use Rattle.c_board.proofs.copying.copy_events.Given as goal

abbrev pub invariant-loop-event : goal.invariant-loop-event
invariant-loop-event l = record {
  within : l.place ≤ length l.initial.out;
  few : l.place ≤ length l.initial.event-iterator;
  put : l.out ≡ take l.place (indices l.initial.event-iterator) ++ drop l.place l.initial.out;
  left : l.event-iterator ≡ drop l.place l.initial.event-iterator;
}
