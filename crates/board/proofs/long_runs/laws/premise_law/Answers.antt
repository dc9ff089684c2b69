use Rattle.board.proofs.LongRunsLemmas.CarriedOver.{first_left, gathered_left, new_posts_may, may_again}
use Rattle.board.proofs.long_runs.laws.premise_law.Goals as goal

pub returns-clause-first : goal.returns-clause-first
returns-clause-first c = first_left

pub returns-clause-gathered : goal.returns-clause-gathered
returns-clause-gathered c = gathered_left

pub returns-clause-new_posts : goal.returns-clause-new_posts
returns-clause-new_posts c = new_posts_may

pub returns-clause-again : goal.returns-clause-again
returns-clause-again c = may_again
