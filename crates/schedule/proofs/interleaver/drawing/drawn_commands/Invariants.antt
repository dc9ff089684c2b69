use Rattle.std.proofs.Common.{◌-◌, length}
use Rattle.rand_core.specs.Steps.{first_words}
use Rattle.rand_pcg.specs.Pcg.{pcg32}
use Rattle.schedule.specs.Interleaver.Interleavings.{interleaved}
use Rattle.schedule.proofs.InterleaverLemmas.Progress.{HasCome}
use Rattle.schedule.proofs.interleaver.drawing.drawn_commands.Given as goal

abbrev pub invariant-loop-command : goal.invariant-loop-command
invariant-loop-command l = HasCome l.instances (length l.commands) (interleaved l.instances (first_words pcg32 (length l.commands) l.initial.generator) l.commands) l.drawn.items l.queues.items l.generator

abbrev pub decreases-loop-command : goal.decreases-loop-command
decreases-loop-command l = length l.commands - length l.drawn.items
