use Rattle.std.proofs.Common.{◌≡◌, max, sym, ap, ◌∙◌}
use Rattle.std.specs.Prelude.{nat_lt}
use Rattle.diagrams.specs.Ends.{furthest}
use Rattle.diagrams.specs.Lanes.{changed}
use Rattle.diagrams.proofs.CrossingLemmas.{lost_same, received_next, crosses_by, crosses_none, furthest_next}
use Rattle.diagrams.proofs.LaneTables.{numbers-same}
use Rattle.diagrams.proofs.crossing.crosses.Goals as goal

pub returns-then-message-clause-value : goal.returns-then-message-clause-value
returns-then-message-clause-value c = λ earlier are. sym (crosses_none earlier c.args.message.now c.if-message.true)

pub returns-then-message-clause-furthest : goal.returns-then-message-clause-furthest
returns-then-message-clause-furthest c = λ earlier are.
    furthest_next _ c.args.message.now earlier (numbers-same _ _ _ (lost_same c.args.message.now earlier c.if-message.true) are)

pub returns-clause-value : goal.returns-clause-value
returns-clause-value c = λ earlier are.
    let m = c.args.message.now in
    ap (nat_lt m.ends) (c.at-row.ensures (furthest earlier) are) ∙ sym (crosses_by earlier m c.if-message.false)

pub returns-clause-furthest : goal.returns-clause-furthest
returns-clause-furthest c = λ earlier are.
    let m = c.args.message.now in
    let row : c.max.result ≡ max m.ends (furthest earlier m.sender m.receiver) = c.max.ensures ∙ ap (max m.ends) (c.at-row.ensures (furthest earlier) are) in
    furthest_next _ m earlier (numbers-same _ _ _ (λ q p. ap (λ n. changed (furthest earlier) m.sender m.receiver n q p) row ∙ received_next m earlier c.if-message.false q p)
    (c.set.ensures (furthest earlier) are))
