use Rattle.repair.proofs.Moving.{turn_of, kept, was_kept, before_moved, race_was}
use Rattle.repair.proofs.laws.message_law.Goals as goal

pub returns-clause-kept : goal.returns-clause-kept
returns-clause-kept _ = λ m c d added new s r.
    let turn = turn_of m c d added new in
    (kept m c d added turn s r, was_kept m c d added turn s r)

pub returns-clause-order : goal.returns-clause-order
returns-clause-order _ = λ m c d added new e f before. before_moved m c d added (turn_of m c d added new) before

pub returns-clause-races : goal.returns-clause-races
returns-clause-races _ = λ m c d added new e r race. race_was m c d added (turn_of m c d added new) e r race
