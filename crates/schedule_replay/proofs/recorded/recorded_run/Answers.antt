use Rattle.std.proofs.Common.{Vec, Global, drop, length, sym, ◌∙◌, subst}
use Rattle.std.proofs.lemmas.List.{take_at}
use Rattle.std.proofs.lemmas.Result.{IfOk-weaker}
use Rattle.schedule.specs.Meaning.{start}
use Rattle.chart.specs.declared.run_steps.step.Step.{Step}
use Rattle.schedule_replay.specs.Agreement.{Agrees, AreFresh}
use Rattle.schedule_replay.specs.Recorded.{HaveRecorded}
use Rattle.schedule_replay.proofs.Recordings.{recorded-is}
use Rattle.schedule_replay.proofs.recorded.recorded_run.Goals as goal

pub record-requires-clause-fresh : goal.record-requires-clause-fresh
record-requires-clause-fresh c =
    let board = c.in_ok-board.board.board in
    let its = c.in_ok-board.ensures in
    let fresh : AreFresh board c.in_ok-posts.posts.items = record { sized = rw (its.size, its.capacity) its.sized; new = c.in_ok-posts.ensures } in
    let begun = c.in_ok-last.ensures board (subst (AreFresh board) (sym c.deref_mut.ensures.value) fresh) in
    let whole = take_at c.begin.new.posts (drop (length c.begin.new.posts) c.in_ok-posts.posts.items) c.in_ok-posts.posts.len (c.begin.auto.posts ∙ c.deref_mut.ensures.len) in
    (board, rw (c.deref_mut-2.ensures.value, whole, c.deref_mut-3.ensures.value) begun)

pub returns : goal.returns
returns c =
    let board = c.in_ok-board.board.board in
    let its = c.in_ok-board.ensures in
    let fresh : AreFresh board c.in_ok-posts.posts.items = record { sized = rw (its.size, its.capacity) its.sized; new = c.in_ok-posts.ensures } in
    let begun = c.in_ok-last.ensures board (subst (AreFresh board) (sym c.deref_mut.ensures.value) fresh) in
    let whole = take_at c.begin.new.posts (drop (length c.begin.new.posts) c.in_ok-posts.posts.items) c.in_ok-posts.posts.len (c.begin.auto.posts ∙ c.deref_mut.ensures.len) in
    let far : Agrees board start.run c.deref_mut-2.result.now c.deref_mut-3.result.now = rw (c.deref_mut-2.ensures.value, whole, c.deref_mut-3.ensures.value) begun in
    IfOk-weaker c.record.result _ _
    (λ (steps : Vec Step Global) recorded. recorded-is c.args.schedule.now board c.record.new.posts c.record.new.last steps.items its.size its.capacity (subst (λ commands. HaveRecorded board commands c.record.new.posts c.record.new.last steps.items) c.commands.ensures.value (recorded board far)))
    c.record.ensures
