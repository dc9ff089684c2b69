use Rattle.test_runtime.proofs.LongRunsLemmas.BoardLemmas.{one_at, at_new, carried_at}
use Rattle.board.proofs.LongRunsLemmas.CarriedOver.{new_posts_may}
use Rattle.test_runtime.proofs.long_runs.boards.carried.Goals as goal

pub carry_over-requires-clause-board : goal.carry_over-requires-clause-board
carry_over-requires-clause-board g c = one_at c.requires.0 c.args.posts.now (at_new c.requires.0 c.args.posts.now c.requires.1)

pub carry_over-requires-clause-may : goal.carry_over-requires-clause-may
carry_over-requires-clause-may g c = new_posts_may c.requires.0 c.args.posts.now _ _ c.requires.1 c.requires.2

pub returns : goal.returns
returns g c = λ board fresh. carried_at board _ _ c.args.posts.now c.carry_over.new.posts fresh c.in-Ok.ensures.carries.carried
