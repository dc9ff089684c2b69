use Rattle.std.proofs.Common.{take}
use Rattle.board.specs.Views.{BoardView}
use Rattle.schedule.specs.Meaning.{start}
use Rattle.schedule_replay.specs.Agreement.{Agrees, HavePerformed}
use Rattle.schedule_replay.proofs.commands.perform.Given as goal

abbrev pub invariant-loop-command : goal.invariant-loop-command
invariant-loop-command l =
    (board : BoardView) → Agrees board start.run l.fn.posts l.fn.last → HavePerformed board (take l.command-index l.commands) l.posts l.last l.notes.items
