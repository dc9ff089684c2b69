use Rattle.std.proofs.Common.{◌≡◌, ◌++◌, All, Some, length}
use Rattle.races_text.specs.declared.judged.part.Part.{Part}
use Rattle.races_text.specs.Named.Stretches.{IsShort}
use Rattle.races_text.specs.Judged.Parts.{IsPart, events_in}
use Rattle.races_text.specs.Judged.PartsLeft.{later_events, events_left}
use Rattle.races_text.proofs.judged.parts.next_part.Given as goal

-- the part has the events that were passed over
abbrev pub invariant-pieces : goal.invariant-pieces
invariant-pieces g l = record {
  short : IsShort l.left.rest;
  races : All (g.V.Verdicts.is_race l.verdicts l.receive) (later_events l.left);
  is : IsPart (g.V.Verdicts.is_verdict l.verdicts l.receive) l.part;
  events : events_left l.fn.left ≡ events_in l.part ++ later_events l.left;
  begun : (p : Part) × (l.fn.left.next ≡ Some p) × (l.part.range.first ≡ p.range.first) × (l.part.verdict ≡ p.verdict);
}

abbrev pub decreases-pieces : goal.decreases-pieces
decreases-pieces g l = length (later_events l.left)
