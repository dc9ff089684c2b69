use Rattle.std.proofs.Common.{◌≡◌, take, subst, arith}
use Rattle.std.proofs.lemmas.List.{take_all}
use Rattle.schedule.specs.Meaning.{acts, after}
use Rattle.schedule.proofs.Along.{after_more}
use Rattle.schedule.proofs.OutcomesLemmas.Performed.{noted_next, silent_next}
use Rattle.schedule_replay.specs.Agreement.{Agrees, HavePerformed}
use Rattle.schedule_replay.proofs.commands.perform.Goals as goal
use Rattle.schedule_replay.proofs.commands.perform.Goals.{in-Some+in_ok-push, in_default}

pub loop-command-preserved : goal.loop-command-preserved
loop-command-preserved c board fresh =
    let i = c.loop-command.command-index in
    let command = c.command-item.result in
    let inv = c.loop-command.invariant board fresh in
    let s = after board.size board.capacity (take i c.args.commands.now) in
    let more = after_more board.size board.capacity c.args.commands.now i command (omega arith) c.command-item.is in
    let acted = c.in_ok-word.ensures board s.run inv.agrees in
    elim c.match-branch-2.branch [
      | in-Some+in_ok-push w ↦
          let next = noted_next (λ x. Agrees board x c.perform_one.new.posts c.perform_one.new.last) s command.line w.in-Some.word c.in_ok-word.field-0 (acts board.size board.capacity s.run command.actor command.action) c.loop-command.notes.items acted w.in-Some.is inv.noted in
          let pushed = w.in_ok-push.ensures.items in
          record { agrees = rw more next.far; noted = rw (more, w.notes-is, pushed) next.same }
      | in_default w ↦
          let next = silent_next (λ x. Agrees board x c.perform_one.new.posts c.perform_one.new.last) s command.line c.in_ok-word.field-0 (acts board.size board.capacity s.run command.actor command.action) c.loop-command.notes.items acted w.in_default.is inv.noted in
          record { agrees = rw more next.far; noted = rw (more, w.notes-is) next.same }
    ]

pub returns : goal.returns
returns c board fresh =
    let whole : take c.loop-command.command-index c.args.commands.now ≡ c.args.commands.now = take_all c.loop-command.command-index c.args.commands.now (omega arith) in
    subst (λ commands. HavePerformed board commands c.loop-command.posts c.loop-command.last c.loop-command.notes.items) whole (c.loop-command.invariant board fresh)
