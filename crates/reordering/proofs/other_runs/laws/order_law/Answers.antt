use Rattle.reordering.proofs.OtherRunsLemmas.Causes.{order_kept}
use Rattle.reordering.proofs.other_runs.laws.order_law.Goals as goal

pub returns : goal.returns
returns c = λ n d g run e r before h begins come. order_kept g h run.1.causes begins before come
