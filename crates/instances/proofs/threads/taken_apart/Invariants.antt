use Rattle.std.proofs.Common.{◌≡◌, ◌++◌, length, map}
use Rattle.std.specs.Vec.Iter.{into_iter_items, into_iter_len}
use Rattle.instances.proofs.threads.taken_apart.Given as goal

-- the parts of the runs so far were taken
abbrev pub invariant-loop-post : goal.invariant-loop-post
invariant-loop-post g l = record {
  all : l.yielded ++ into_iter_items l.post-iterator ≡ into_iter_items l.initial.post-iterator;
  rest : into_iter_len l.post-iterator ≡ length (into_iter_items l.post-iterator);
  posts : l.posts.items ≡ map (λ run. run.0) l.yielded;
  traces : l.traces.items ≡ map (λ run. run.1) l.yielded;
  ends : l.ends.items ≡ map (λ run. run.2) l.yielded;
}
