use Rattle.std.proofs.lemmas.Bool.{false≢true}
use Rattle.closure.proofs.chain.chaining.is_earlier_receive.Goals as goal

pub returns-in-None : goal.returns-in-None
returns-in-None c = (λ never. absurd (false≢true never), λ above. absurd (c.in-None.ensures c.args.sender above.1))
