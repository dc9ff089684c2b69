use Rattle.std.proofs.Common.{◌∷◌}
use Rattle.diagrams.specs.Full.{load}
use Rattle.diagrams.specs.Loads.{raised}
use Rattle.diagrams.proofs.FullLemmas.{loads_next, sender_full, receiver_full}
use Rattle.diagrams.proofs.full.add.Goals as goal

pub returns-then-most-at-clause-loads : goal.returns-then-most-at-clause-loads
returns-then-most-at-clause-loads c = λ earlier are.
    let m = c.args.message.now in
    loads_next _ m earlier _ c.receives.ensures (c.in_ok-raise-2.ensures (raised (load earlier) m.sender 1) (c.in_ok-raise.ensures (load earlier) are))

pub returns-else-most-at-clause-loads : goal.returns-else-most-at-clause-loads
returns-else-most-at-clause-loads c = λ earlier are.
    let m = c.args.message.now in
    loads_next _ m earlier _ c.receives.ensures (c.in_ok-raise-2.ensures (raised (load earlier) m.sender 1) (c.in_ok-raise.ensures (load earlier) are))

pub returns-then-most-at-clause-full : goal.returns-then-most-at-clause-full
returns-then-most-at-clause-full c = λ earlier are.
    let m = c.args.message.now in
    let loads = loads_next c.raise-2.new.self m earlier _ c.receives.ensures (c.in_ok-raise-2.ensures (raised (load earlier) m.sender 1) (c.in_ok-raise.ensures (load earlier) are)) in
    sender_full m (m ∷ earlier) _ (c.at.ensures (load (m ∷ earlier)) loads) c.if-most-at.true

pub returns-else-most-at-clause-full : goal.returns-else-most-at-clause-full
returns-else-most-at-clause-full c = λ earlier are.
    let m = c.args.message.now in
    let loads = loads_next c.raise-2.new.self m earlier _ c.receives.ensures (c.in_ok-raise-2.ensures (raised (load earlier) m.sender 1) (c.in_ok-raise.ensures (load earlier) are)) in
    receiver_full m (m ∷ earlier) _ _ (c.at.ensures (load (m ∷ earlier)) loads) c.if-most-at.false (c.at-else-most-at.ensures (load (m ∷ earlier)) loads)
