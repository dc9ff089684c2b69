use Rattle.diagrams.specs.Later.{mark}
use Rattle.diagrams.specs.Losing.{is_received_later}
use Rattle.diagrams.proofs.LosingLemmas.{lost_marks, received_marks}
use Rattle.diagrams.proofs.LaneTables.{numbers-same}
use Rattle.diagrams.proofs.losing.pass.Goals as goal

pub returns-then-message-clause-marked : goal.returns-then-message-clause-marked
returns-then-message-clause-marked c = λ later are. numbers-same _ _ _ (lost_marks c.args.message.now later c.if-message.true) are

pub returns-clause-marked : goal.returns-clause-marked
returns-clause-marked c = λ later are.
    numbers-same _ _ _ (received_marks c.args.message.now later c.if-message.false) (c.set.ensures (λ q p. mark (is_received_later later q p)) are)
