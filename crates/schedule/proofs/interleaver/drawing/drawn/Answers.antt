use Rattle.std.proofs.Common.{List, length, ap, ◌∙◌}
use Rattle.rand_core.specs.Steps.{first_words}
use Rattle.rand_pcg.specs.Pcg.{pcg32}
use Rattle.schedule.specs.Plans.{Plan, IsAmong}
use Rattle.schedule.specs.declared.command.Command.{Command}
use Rattle.schedule.specs.Interleaver.Interleavings.{own, generator}
use Rattle.schedule.proofs.InterleaverLemmas.Progress.{All-interleaved, own-interleaved, length-first_words}
use Rattle.schedule.proofs.interleaver.drawing.drawn.Goals as goal

pub new-requires : goal.new-requires
new-requires c =
    let plan = c.names-names.ensures.plan in
    let names = c.in_ok-copied.ensures ∙ c.names-names.ensures.value in
    let drawn = c.in_ok-commands.ensures.order in
    let among = All-interleaved (IsAmong (length c.args.schedule.now.names)) c.len.result (first_words pcg32 (length c.commands.result.now) (generator c.args.seed)) c.commands.result.now (rw c.commands.ensures.value plan.commands) in
    record {
      several = rw names plan.several;
      names = rw names plan.names;
      commands = rw (names, drawn) among;
    }

pub returns-clause-own : goal.returns-clause-own
returns-clause-own c p =
    let commands = c.commands.result.now in
    let words = first_words pcg32 (length commands) (generator c.args.seed) in
    ap (λ (plan : Plan). own plan.commands p) c.new.ensures ∙ ap (λ (xs : List Command). own xs p) c.in_ok-commands.ensures.order
    ∙ own-interleaved c.len.result words commands p (length-first_words (length commands) (generator c.args.seed)) c.in_ok-commands.ensures.numbers
    ∙ ap (λ (xs : List Command). own xs p) c.commands.ensures.value
