use Rattle.std.proofs.Common.{map, take}
use Rattle.mscview_requests.specs.Words.Words.{AreRead}
use Rattle.mscview_requests.specs.Wanted.{IsSkip}
use Rattle.mscview_requests.proofs.importing.skips_by.Given as goal

abbrev pub invariant-loop-word : goal.invariant-loop-word
invariant-loop-word l = AreRead IsSkip (map (λ w. w.now) (take l.word-index l.words)) l.skips.items
