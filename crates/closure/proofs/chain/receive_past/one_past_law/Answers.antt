use Rattle.closure.proofs.ChainLemmas.PastLemmas.{one_past}
use Rattle.closure.proofs.chain.receive_past.one_past_law.Goals as goal

pub returns : goal.returns
returns c = one_past
