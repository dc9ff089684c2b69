use Rattle.std.proofs.Common.{◌≡◌, ◌++◌, take, sym, ap, ◌∙◌, subst, arith, append-nil}
use Rattle.std.proofs.lemmas.List.{take_all}
use Rattle.std.specs.Option.{option_to_list}
use Rattle.schedule.specs.Meaning.{step, after}
use Rattle.schedule.proofs.Along.{after_more}
use Rattle.chart.specs.RunSteps.Steps.{history_of}
use Rattle.schedule_replay.specs.Recorded.{without_closes, HaveRecorded}
use Rattle.schedule_replay.proofs.Recordings.{led, recorded-on}
use Rattle.schedule_replay.proofs.recorded.record.Goals as goal
use Rattle.schedule_replay.proofs.recorded.record.Goals.{in-Some+in_ok-push, in_default}

pub loop-command-preserved : goal.loop-command-preserved
loop-command-preserved c board fresh =
    let i = c.loop-command.command-index in
    let command = c.command-item.result in
    let steps = c.loop-command.steps.items in
    let s = after board.size board.capacity (take i c.args.commands.now) in
    let t = step board.size board.capacity s command in
    let inv = c.loop-command.invariant board fresh in
    let more = after_more board.size board.capacity c.args.commands.now i command (omega arith) c.command-item.is in
    let went = led board s command c.in_ok-perform_one.field-0 c.perform_one.new.posts c.perform_one.new.last (c.in_ok-perform_one.ensures board s.run inv.agrees) in
    let place = c.made_by-made.ensures.place in
    let on : history_of (steps ++ option_to_list c.step_after.result) ≡ without_closes t.run.history =
    recorded-on board s.run t.run command.actor c.loop-command.posts c.loop-command.last c.perform_one.new.posts c.perform_one.new.last inv.agrees went place.0 steps c.made_by-made.result c.step_after.result place.1 place.2 inv.history c.made_by-made.ensures.events c.step_after.ensures in
    record {
      agrees = rw more went.agrees;
      history = elim c.match-step_after.branch [
        | in-Some+in_ok-push w ↦ rw (more, w.steps-is, w.in_ok-push.ensures.items) (rw w.in-Some.is at on)
        | in_default w ↦ rw (more, w.steps-is) (ap history_of (sym (append-nil steps)) ∙ (rw w.in_default.is at on))
      ];
    }

pub returns : goal.returns
returns c board fresh =
    let whole : take c.loop-command.command-index c.args.commands.now ≡ c.args.commands.now = take_all c.loop-command.command-index c.args.commands.now (omega arith) in
    subst (λ commands. HaveRecorded board commands c.loop-command.posts c.loop-command.last c.loop-command.steps.items) whole (c.loop-command.invariant board fresh)
