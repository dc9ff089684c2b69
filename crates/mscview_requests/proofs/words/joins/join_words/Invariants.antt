use Rattle.std.proofs.Common.{map, take}
use Rattle.mscview_requests.specs.Words.Joins.{IsJoin, join_word_view}
use Rattle.mscview_requests.specs.Words.Words.{AreRead}
use Rattle.mscview_requests.proofs.words.joins.join_words.Given as goal

abbrev pub invariant-loop-word : goal.invariant-loop-word
invariant-loop-word l = AreRead IsJoin (map (λ w. w.now) (take l.word-index l.words)) (map join_word_view l.joins.items)
