use Rattle.std.proofs.Common.{◌≡◌, take}
use Rattle.board.specs.Views.{BoardView}
use Rattle.schedule.specs.Meaning.{start, after}
use Rattle.schedule_replay.specs.Agreement.{Agrees}
use Rattle.schedule_replay.specs.Notes.Notes.{words_from}
use Rattle.schedule_replay.proofs.notes.words.perform.Given as goal

-- the posts are as far as the commands so far lead, and these are the words that the commands left
abbrev pub invariant-loop-command : goal.invariant-loop-command
invariant-loop-command l =
    (board : BoardView) → Agrees board start.run l.fn.posts l.fn.last → Agrees board (after board.size board.capacity (take l.command-index l.commands)).run l.posts l.last × (l.words.items ≡ words_from board.size board.capacity start (take l.command-index l.commands))
