use Rattle.std.proofs.Common.{take}
use Rattle.board.specs.Views.{BoardView}
use Rattle.schedule.specs.Meaning.{start}
use Rattle.schedule_replay.specs.Agreement.{Agrees}
use Rattle.schedule_replay.specs.Recorded.{HaveRecorded}
use Rattle.schedule_replay.proofs.recorded.record.Given as goal

-- the commands so far were recorded
abbrev pub invariant-loop-command : goal.invariant-loop-command
invariant-loop-command l =
    (board : BoardView) → Agrees board start.run l.fn.posts l.fn.last → HaveRecorded board (take l.command-index l.commands) l.posts l.last l.steps.items
