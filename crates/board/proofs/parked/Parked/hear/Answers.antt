use Rattle.board.proofs.NoteLemmas.{post_met, post_hears}
use Rattle.board.proofs.parked.Parked.hear.Goals as goal

pub invariant_of-self : goal.invariant_of-self
invariant_of-self c =
    let its = c.meet_note.ensures in
    post_met c.self.inside.seat.me c.meet_note.new.seat.me _ _ _ _ _ _ _ c.self.invariant _ its.post its.meets its.slots

pub returns-clause-hears : goal.returns-clause-hears
returns-clause-hears c =
    let its = c.meet_note.ensures in
    rw (← c.self.view_is, c.meet_note.ensures.table.0) (post_hears c.self.inside.seat.me c.meet_note.new.seat.me _ _ _ _ _ _ _ c.self.invariant _ its.post its.meets c.self.inside.seat.table_id)
