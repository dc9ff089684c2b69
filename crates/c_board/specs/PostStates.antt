-- What a contract sees of a seated post (this project's profile).
use Rattle.std.specs.Prelude.{◌≡◌, ℕ, List}
use Rattle.board.specs.declared.answer.Arrival.{Arrival}
use Rattle.board.specs.Views.{PostView}
use Rattle.c_board.specs.declared.board_number.BoardNumber.{BoardNumber}

-- the post, the instance from which it received last, 0 for none, the messages of the last call that received some, and
-- the number of its board
pub record PostStateView : Type 0 where
  pub post : PostView
  pub last : ℕ
  pub came : List Arrival
  pub board_number : BoardNumber

-- the messages that were received last stay, and the board's number
pub record Keeps (old new : PostStateView) : Type 0 where
  pub last : new.last ≡ old.last
  pub came : new.came ≡ old.came
  pub board_number : new.board_number ≡ old.board_number
