-- What copying out the text of a gathered board's chart answers (this project's profile).
use Rattle.std.specs.Prelude.{◌≡◌, ℕ, List, length, Option, None, Some, Result, Ok, Err}
use Rattle.chart.specs.Charts.{LineView}
use Rattle.chart.specs.NameSets.{AreNames}
use Rattle.msc_text.specs.ChartText.{chart_text}
use Rattle.c_board.specs.declared.boards.text.TextRefusal.{TextRefusal}
use Rattle.c_board.specs.declared.boards.text.TextRefusal.TheVariants.{NoBoard, WrongNumber, Names, Memory}
use Rattle.c_board.specs.declared.kept.Kept.{Kept}
use Rattle.c_board.specs.declared.misuse.Misuse.TheVariants as misuse
use Rattle.c_board.specs.declared.misuse.Numbering.{Numbering}
use Rattle.c_board.specs.Boards.Naming.{ReadsNames, AreAllNames, of_names}
use Rattle.c_board.specs.Copying.{put_over}
use Rattle.c_board.specs.Contents.{board_in}
use Rattle.c_board.specs.Refusals.{of_misuse}
use Rattle.c_board.specs.Wholes.{WholeView}

-- each instance has one of these names, and no two have the same
pub record AreNamesOf (chart : List LineView) (names : List (List ℕ)) : Type 0 where
  pub each : length names ≡ length chart
  pub distinct : AreNames names
  pub are_names : AreAllNames names

-- these are the instances' names, and the text is copied out
pub record IsWritten (chart : List LineView) (names : List (List ℕ)) (room : List ℕ) (many : ℕ)
    (out : List ℕ) : Type 0 where
  pub named : AreNamesOf chart names
  pub output : many ≡ length (chart_text names chart)
  pub copied : out ≡ put_over (chart_text names chart) room

-- The first of these that applies refuses the text (docs/reference/refusals.md): that no board is kept, which is a
-- misuse; another number of names than instances, which is a misuse too; what refuses the first bad name, F1 to F4, F22
-- and F6; and memory for the text, F6.
abbrev pub IsFirstOfText : Option Kept → List (List ℕ) → TextRefusal → Type 0
IsFirstOfText kept names NoBoard = board_in kept ≡ None
IsFirstOfText kept names WrongNumber = (board : WholeView) × (board_in kept ≡ Some board)
    × (length names ≡ length board.gathered.chart → ⊥)
IsFirstOfText kept names (Names refusal) = (board : WholeView) × (board_in kept ≡ Some board)
    × (length names ≡ length board.gathered.chart) × ReadsNames names (Err refusal)
IsFirstOfText kept names Memory = (board : WholeView) × (board_in kept ≡ Some board)
    × AreNamesOf board.gathered.chart names

-- what copying out the text with these names answers for the board that a handle keeps
abbrev pub HandleWritesText : Option Kept → List (List ℕ) → List ℕ → Result ℕ TextRefusal → List ℕ → Type 0
HandleWritesText kept names room (Ok many) out = (board : WholeView) × (board_in kept ≡ Some board)
    × IsWritten board.gathered.chart names room many out
HandleWritesText kept names room (Err refusal) out = (out ≡ room) × IsFirstOfText kept names refusal

-- the number of each refusal
abbrev pub of_text : Numbering → TextRefusal → ℕ
of_text misuses NoBoard = of_misuse misuses misuse.NoBoard
of_text misuses WrongNumber = of_misuse misuses misuse.WrongNumber
of_text misuses (Names refusal) = of_names refusal
of_text misuses Memory = 6
