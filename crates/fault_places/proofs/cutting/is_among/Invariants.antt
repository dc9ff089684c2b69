use Rattle.std.proofs.Common.{◌≡◌}
use Rattle.fault_places.specs.Spots.{is_among}
use Rattle.fault_places.proofs.cutting.is_among.Given as goal
use Rattle.texts.specs.Lines.{words_of}

abbrev pub invariant-words : goal.invariant-words
invariant-words l = is_among l.word l.left (words_of l.rest) ≡ is_among l.word l.count (words_of l.words)

abbrev pub decreases-words : goal.decreases-words
decreases-words l = l.left
