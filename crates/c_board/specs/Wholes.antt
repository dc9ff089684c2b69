-- What a contract sees of a gathered board in a handle (this project's profile).
use Rattle.std.specs.Prelude.{ℕ}
use Rattle.board.specs.declared.gathering.Gathered.{Gathered}

-- the result of gathering, and how many slots each lane had
pub record WholeView : Type 0 where
  pub gathered : Gathered
  pub capacity : ℕ
