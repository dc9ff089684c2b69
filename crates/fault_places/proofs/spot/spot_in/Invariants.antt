use Rattle.std.proofs.Common.{◌≡◌, ◌+◌, ◌≤◌, length}
use Rattle.fault_places.specs.Spots.{spot_from}
use Rattle.fault_places.proofs.spot.spot_in.Given as goal
use Rattle.texts.specs.Lines.{words_of}

abbrev pub invariant-words : goal.invariant-words
invariant-words l = record {
  spot : spot_from l.cause (words_of l.known) (words_of l.line) l.want l.index l.place (words_of l.rest)
      ≡ spot_from l.cause (words_of l.known) (words_of l.line) l.fn.begin 0 0 (words_of l.line);
  within : l.place + length l.rest ≡ length l.line;
  index : l.index ≤ l.place;
}

abbrev pub decreases-words : goal.decreases-words
decreases-words l = length l.rest
