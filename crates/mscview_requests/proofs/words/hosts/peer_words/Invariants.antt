use Rattle.std.proofs.Common.{map, take}
use Rattle.mscview_requests.specs.Words.Hosts.{IsPeer, peer_word_view}
use Rattle.mscview_requests.specs.Words.Words.{AreRead}
use Rattle.mscview_requests.proofs.words.hosts.peer_words.Given as goal

abbrev pub invariant-loop-word : goal.invariant-loop-word
invariant-loop-word l = AreRead IsPeer (map (λ w. w.now) (take l.word-index l.words)) (map peer_word_view l.peers.items)
