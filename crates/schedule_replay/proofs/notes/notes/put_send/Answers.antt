use Rattle.std.proofs.Common.{◌≡◌, ℕ, ◌==◌, ◌&&◌, cond, None, Some, sym, subst}
use Rattle.std.specs.Prelude.{slice_index_or}
use Rattle.schedule.specs.declared.command.Action.{Action}
use Rattle.schedule_replay.specs.Notes.Lanes.{slot_of, IsInstance}
use Rattle.schedule_replay.specs.Notes.Notes.{is_send_to, later_send}
use Rattle.schedule_replay.proofs.notes.notes.put_send.Goals as goal

pub returns-in-Send : goal.returns-in-Send
returns-in-Send c commands left are =
    let command = c.args.command.now in
    subst (λ (a : Action). (q p : ℕ) → IsInstance q → IsInstance p
    → slice_index_or c.set.new.self (slot_of q p) None ≡ cond (is_send_to p a && (command.actor == q)) (Some command.line) (later_send q p commands left))
    (sym c.in-Send.is) (c.set.ensures (λ q p. later_send q p commands left) are)
