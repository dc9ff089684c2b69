use Rattle.std.proofs.Common.{◌≡◌, ◌++◌, length}
use Rattle.std.specs.List.{zip}
use Rattle.std.specs.Vec.Iter.{into_iter_items, into_iter_len}
use Rattle.std.specs.Iterator.Adapters.{zip_first, zip_second}
use Rattle.instances.proofs.threads.pairs.Given as goal

-- the pairs so far and the remaining ones are all pairs
abbrev pub invariant-loop-pair : goal.invariant-loop-pair
invariant-loop-pair g l =
    let now = l.pair-iterator in
    let first = l.initial.pair-iterator in
    record {
      all : l.both.items ++ zip (into_iter_items (zip_first now)) (into_iter_items (zip_second now))
          ≡ zip (into_iter_items (zip_first first)) (into_iter_items (zip_second first));
      alike : length (into_iter_items (zip_second now)) ≡ length (into_iter_items (zip_first now));
      firsts : into_iter_len (zip_first now) ≡ length (into_iter_items (zip_first now));
      seconds : into_iter_len (zip_second now) ≡ length (into_iter_items (zip_second now));
    }
