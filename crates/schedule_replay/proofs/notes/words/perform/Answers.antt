use Rattle.std.proofs.Common.{◌≡◌, ◌+◌, List, [], ◌∷◌, ◌++◌, take, sym, ap, ◌∙◌, subst, arith}
use Rattle.std.proofs.lemmas.List.{take_all, take_more}
use Rattle.schedule.specs.Meaning.{acts, after, start}
use Rattle.schedule.specs.declared.command.Command.{Command}
use Rattle.schedule.proofs.Along.{after_more}
use Rattle.schedule_replay.specs.Agreement.{Agrees}
use Rattle.schedule_replay.specs.Notes.Notes.{words_from}
use Rattle.schedule_replay.proofs.NoteLemmas.{words_from-push, left_by}
use Rattle.schedule_replay.proofs.notes.words.perform.Goals as goal

pub loop-command-preserved : goal.loop-command-preserved
loop-command-preserved c board fresh =
    let i = c.loop-command.command-index in
    let commands = c.args.commands.now in
    let command = c.command-item.result in
    let inv = c.loop-command.invariant board fresh in
    let s = after board.size board.capacity (take i commands) in
    let more = after_more board.size board.capacity commands i command (omega arith) c.command-item.is in
    let left = left_by (λ x. Agrees board x c.perform_one.new.posts c.perform_one.new.last) s command.line c.in_ok-perform_one.field-0 (acts board.size board.capacity s.run command.actor command.action) (c.in_ok-perform_one.ensures board s.run inv.0) in
    let one : take (i + 1) commands ≡ take i commands ++ command ∷ [] = take_more commands i command (omega arith) ∙ ap (λ x. take i commands ++ x ∷ []) (sym c.command-item.is) in (
      rw more left.1,
      rw (c.in_ok-push.ensures.items, one, inv.1, left.0) (sym (words_from-push board.size board.capacity start (take i commands) command)),
    )

pub returns : goal.returns
returns c board fresh =
    let commands = c.args.commands.now in
    let whole : take c.loop-command.command-index commands ≡ commands = take_all c.loop-command.command-index commands (omega arith) in
    subst (λ (l : List Command). c.loop-command.words.items ≡ words_from board.size board.capacity start l) whole (c.loop-command.invariant board fresh).1
