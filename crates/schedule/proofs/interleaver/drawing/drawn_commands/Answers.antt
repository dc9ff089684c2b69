use Rattle.std.proofs.Common.{◌<◌, ◌-◌, length, ap, ◌∙◌, arith}
use Rattle.std.proofs.lemmas.List.{length_push}
use Rattle.rand_core.specs.Steps.{first_words}
use Rattle.rand_pcg.specs.Pcg.{pcg32}
use Rattle.schedule.specs.Interleaver.Interleavings.{interleaved}
use Rattle.schedule.proofs.InterleaverLemmas.Progress.{HasCome-start, HasCome-more, HasCome-fewer, HasCome-end}
use Rattle.schedule.proofs.interleaver.drawing.drawn_commands.Goals as goal

pub loop-command-init : goal.loop-command-init
loop-command-init c = HasCome-start c.args.instances c.args.commands.now c.in_ok-drawn.drawn.items c.in_ok-queues.queues.items c.seed_from_u64-generator.result c.in_ok-drawn.ensures.items c.in_ok-queues.ensures.numbers c.in_ok-queues.ensures.queues

pub loop-command-preserved : goal.loop-command-preserved
loop-command-preserved c =
    let came = c.loop-command.invariant in
    let draw = c.in-Some.ensures c.args.instances came.left came.are_of came.queued in
    rw c.in_ok-push.ensures.items (HasCome-more c.args.instances _ _ c.loop-command.drawn.items c.loop-command.queues.items _ c.loop-command.generator _ c.in-Some.command came draw)

pub loop-command-smaller : goal.loop-command-smaller
loop-command-smaller c =
    let came = c.loop-command.invariant in
    let draw = c.in-Some.ensures c.args.instances came.left came.are_of came.queued in
    let before : length c.loop-command.drawn.items < length c.args.commands.now = HasCome-fewer c.args.instances _ _ c.loop-command.drawn.items c.loop-command.queues.items _ c.loop-command.generator _ c.in-Some.command came draw in
    let size = ap length c.in_ok-push.ensures.items in
    let less : length c.args.commands.now - length c.push.new.self.items < length c.args.commands.now - length c.loop-command.drawn.items = omega (arith, size, before, length_push c.loop-command.drawn.items c.in-Some.command) in
    less

pub returns-clause-order : goal.returns-clause-order
returns-clause-order c =
    let came = c.loop-command.invariant in
    let none = c.in_default.ensures c.args.instances came.left came.are_of came.queued in
    HasCome-end c.args.instances _ _ c.loop-command.drawn.items c.loop-command.queues.items c.loop-command.generator came none
    ∙ ap (λ g. interleaved c.args.instances (first_words pcg32 (length c.args.commands.now) g) c.args.commands.now) c.seed_from_u64-generator.ensures
