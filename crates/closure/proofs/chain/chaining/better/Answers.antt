use Rattle.std.proofs.Common.{subst}
use Rattle.closure.specs.Chain.Reaching.{GivesSteps, IsNearest}
use Rattle.closure.proofs.ChainLemmas.Nearest.{nearest-other, nearest-fewer, nearest-as_before}
use Rattle.closure.proofs.chain.chaining.better.Goals as goal

pub returns-in-None : goal.returns-in-None
returns-in-None c = λ found x e here gives old. nearest-other found e c.args.number x here c.args.best (subst (GivesSteps x e) c.in-None.is gives) old

pub returns-then-steps-least : goal.returns-then-steps-least
returns-then-steps-least c = λ found x e here gives old.
    let its = subst (GivesSteps x e) c.in-Some.is gives in
    nearest-fewer found e c.args.number x here c.in-Some.steps its.0 its.1 c.in-Some-best.first c.in-Some-best.least c.if-steps-least.true (subst (IsNearest found e c.args.number) c.in-Some-best.is old)

pub returns-else-steps-least : goal.returns-else-steps-least
returns-else-steps-least c = λ found x e here gives old.
    let its = subst (GivesSteps x e) c.in-Some.is gives in
    nearest-as_before found e c.args.number x here c.in-Some.steps its.0 its.1 c.in-Some-best.first c.in-Some-best.least c.if-steps-least.false (subst (IsNearest found e c.args.number) c.in-Some-best.is old)
