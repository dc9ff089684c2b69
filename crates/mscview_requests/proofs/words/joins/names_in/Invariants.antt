use Rattle.std.proofs.Common.{map, take}
use Rattle.mscview_requests.specs.Words.Joins.{IsName}
use Rattle.mscview_requests.specs.Words.Words.{AreRead}
use Rattle.mscview_requests.proofs.words.joins.names_in.Given as goal

abbrev pub invariant-loop-word : goal.invariant-loop-word
invariant-loop-word l = AreRead IsName (map (λ w. w.now) (take l.word-index l.words)) l.names.items
