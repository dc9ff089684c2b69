use Rattle.std.proofs.Common.{map, take}
use Rattle.cmd_mend.specs.Brief.{shown_as, Shows}
use Rattle.cmd_mend.proofs.brief.add_ranges.Given as goal

-- the first ranges were added
abbrev pub invariant-loop-range : goal.invariant-loop-range
invariant-loop-range l = Shows l.initial.shown.items l.shown.items (map (shown_as l.fate l.receive) (take l.range-index l.ranges))
