use Rattle.test_runtime.proofs.LongRunsLemmas.BoardLemmas.{one_at, whole_left}
use Rattle.test_runtime.proofs.long_runs.boards.gathered.Goals as goal

pub gather-requires : goal.gather-requires
gather-requires g c = record { board = one_at c.requires.0 c.args.posts.items c.requires.1 }

pub returns : goal.returns
returns g c = λ board at. whole_left board c.args.posts.items c.in-Ok.field-0 at c.in-Ok.ensures
