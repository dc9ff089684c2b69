use Rattle.std.proofs.Common.{◌≡◌, map, drop}
use Rattle.std.specs.List.{list_any}
use Rattle.mscview_requests.specs.Words.Hosts.{is_empty}
use Rattle.mscview_requests.proofs.words.hosts.has_empty.Given as goal

abbrev pub invariant-loop-word : goal.invariant-loop-word
invariant-loop-word l = list_any is_empty (map (λ w. w.now) (drop l.word-index l.words)) ≡ list_any is_empty (map (λ w. w.now) l.words)
