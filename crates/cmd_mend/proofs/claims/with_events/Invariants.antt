use Rattle.std.proofs.Common.{take}
use Rattle.races_text.specs.Judged.LogVerdicts.{verdict_in}
use Rattle.cmd_mend.specs.Claims.{Sums}
use Rattle.cmd_mend.proofs.claims.with_events.Given as goal

abbrev pub invariant-loop-event : goal.invariant-loop-event
invariant-loop-event l = Sums (verdict_in l.judge.lines l.judge.recording l.receive) l.fn.summary (take l.event-index l.events) l.sum
