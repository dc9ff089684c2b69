use Rattle.std.proofs.Common.{take}
use Rattle.races_text.specs.Judged.LogVerdicts.{verdict_in}
use Rattle.cmd_mend.specs.Luck.{AreLucky}
use Rattle.cmd_mend.proofs.logs.lucky_events.Given as goal

abbrev pub invariant-loop-event : goal.invariant-loop-event
invariant-loop-event l = AreLucky (verdict_in l.judge.lines l.judge.recording l.receive) (take l.event-index l.events) l.lucky.items
