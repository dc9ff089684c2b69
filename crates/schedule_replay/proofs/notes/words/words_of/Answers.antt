use Rattle.std.proofs.Common.{sym, subst}
use Rattle.std.proofs.lemmas.Result.{IfOk-weaker}
use Rattle.schedule_replay.specs.Agreement.{AreFresh}
use Rattle.schedule_replay.proofs.notes.words.words_of.Goals as goal

pub perform_all-requires-clause-new : goal.perform_all-requires-clause-new
perform_all-requires-clause-new c =
    let board = c.in_ok-board.board.board in
    let its = c.in_ok-board.ensures in
    (board, subst (AreFresh board) (sym c.deref_mut.ensures.value) (record { sized = rw (its.size, its.capacity) its.sized; new = c.in_ok-posts.ensures }))

pub returns : goal.returns
returns c =
    let board = c.in_ok-board.board.board in
    let its = c.in_ok-board.ensures in
    IfOk-weaker c.perform_all.result _ _ (λ words left.
    rw (its.size, its.capacity, c.commands.ensures.value) at (left board (subst (AreFresh board) (sym c.deref_mut.ensures.value) (record { sized = rw (its.size, its.capacity) its.sized; new = c.in_ok-posts.ensures })))) c.perform_all.ensures
