-- The number of each refusal (`docs/reference/refusals.md`).
use Rattle.std.specs.Prelude.{ℕ}
use Rattle.chart.specs.declared.name.NameError.{NameError}
use Rattle.chart.specs.declared.name.NameError.TheVariants as naming
use Rattle.board.specs.declared.error.BoardError.{BoardError}
use Rattle.board.specs.declared.error.BoardError.TheVariants as opening
use Rattle.board.specs.declared.error.SendError.{SendError}
use Rattle.board.specs.declared.error.SendError.TheVariants as sending
use Rattle.board.specs.declared.error.TakeError.{TakeError}
use Rattle.board.specs.declared.error.TakeError.TheVariants as taking
use Rattle.board.specs.declared.error.CloseError.{CloseError}
use Rattle.board.specs.declared.error.CloseError.TheVariants as closing
use Rattle.board.specs.declared.error.RegionError.{RegionError}
use Rattle.board.specs.declared.error.RegionError.TheVariants as region
use Rattle.c_board.specs.declared.misuse.Misuse.{Misuse}
use Rattle.c_board.specs.declared.misuse.Misuse.TheVariants.{NoPost, NoBoard, InUse, WrongNumber, OtherBoard, NoMessage}
use Rattle.c_board.specs.declared.misuse.Numbering.{Numbering}
use Rattle.c_board.specs.declared.misuse.Numbering.TheVariants.{Alike, ByCause}

-- a misuse by its cause: 101 for what is empty or was freed, 103 for what is in use, 104 for a wrong number, 105 for
-- posts of two boards, and 100 for what has no cause of its own
abbrev pub of_cause : Misuse → ℕ
of_cause NoPost = 101
of_cause NoBoard = 101
of_cause InUse = 103
of_cause WrongNumber = 104
of_cause OtherBoard = 105
of_cause NoMessage = 100

abbrev pub of_misuse : Numbering → Misuse → ℕ
of_misuse Alike _ = 100
of_misuse ByCause it = of_cause it

abbrev pub of_name : NameError → ℕ
of_name naming.Empty = 1
of_name naming.TooLong = 2
of_name (naming.BadByte place) = 3
of_name naming.Reserved = 4

abbrev pub of_board : BoardError → ℕ
of_board opening.Instances = 8
of_board opening.Capacity = 9
of_board opening.Memory = 6

abbrev pub of_send : SendError → ℕ
of_send sending.NoSuchInstance = 14
of_send sending.ToItself = 13
of_send sending.InCoregion = 30
of_send sending.Closed = 12
of_send sending.TooMany = 27
of_send sending.LineFull = 7
of_send sending.Full = 11
of_send sending.Memory = 6

abbrev pub of_take : TakeError → ℕ
of_take taking.NoSuchInstance = 14
of_take taking.ToItself = 13
of_take taking.LineFull = 7
of_take taking.Memory = 6

abbrev pub of_close : CloseError → ℕ
of_close closing.NoSuchInstance = 14
of_close closing.ToItself = 13
of_close closing.Closed = 12

abbrev pub of_region : RegionError → ℕ
of_region region.CoregionOpen = 28
of_region region.CoregionNotOpen = 29
