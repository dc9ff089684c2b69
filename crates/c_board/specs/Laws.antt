-- Laws of posts in handles (this project's profile).
use Rattle.std.specs.Prelude.{ℕ, List, Option, Result, Ok}
use Rattle.c_board.specs.declared.board_number.BoardNumber.{BoardNumber}
use Rattle.c_board.specs.declared.kept.Kept.{Kept}
use Rattle.c_board.specs.declared.opening.OpenRefusal.{OpenRefusal}
use Rattle.c_board.specs.Chairs.{AreOfTwoBoards}
use Rattle.c_board.specs.Opening.{Opens}

-- posts that were opened together are of no two boards
abbrev pub OpenedLaw : Type 0
OpenedLaw = (k : ℕ) (number : BoardNumber) (old new : List (Option Kept)) (done : Unit {0}) → Opens k number old (Ok done) new
    → AreOfTwoBoards new → ⊥
