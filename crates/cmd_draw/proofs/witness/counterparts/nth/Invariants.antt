use Rattle.std.proofs.Common.{◌≡◌, ◌+◌, drop}
use Rattle.cmd_draw.specs.Witness.Counterparts.{nth}
use Rattle.cmd_draw.proofs.witness.counterparts.nth.Given as goal

-- the search in the rest of the line, for the turns that are left, finds the same event
abbrev pub invariant-loop-other : goal.invariant-loop-other
invariant-loop-other l = record {
  index : l.index ≡ l.other-index + 1;
  rest : nth l.event l.left l.index (drop l.other-index l.line) ≡ nth l.event l.turn 1 l.line;
}
