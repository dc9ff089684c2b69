-- What asking a board for its posts answers (this project's profile).
use Rattle.std.specs.Prelude.{◌≡◌, true, false}
use Rattle.board.specs.declared.error.PostsError.{PostsError}
use Rattle.board.specs.declared.error.PostsError.TheVariants.{PostsTaken, Memory}
use Rattle.board.specs.Boards.{BoardState}

-- why a board gives no posts: F10 exactly if they were asked for before
abbrev pub IsUngiven : BoardState → PostsError → Type 0
IsUngiven old PostsTaken = old.asked ≡ true
IsUngiven old Memory = old.asked ≡ false
