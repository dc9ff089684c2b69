-- What a handle keeps, and what a call over its post answers (this project's profile).
use Rattle.std.specs.Prelude.{◌≡◌, Option, None, Some}
use Rattle.c_board.specs.declared.kept.Kept.{Kept}
use Rattle.c_board.specs.declared.kept.Kept.TheVariants.{Post, Board, Away}
use Rattle.c_board.specs.PostStates.{PostStateView}
use Rattle.c_board.specs.Wholes.{WholeView}

-- the post that a handle keeps, if it keeps one
abbrev pub post_in : Option Kept → Option PostStateView
post_in None = None
post_in (Some (Post state)) = Some state
post_in (Some (Board it)) = None
post_in (Some Away) = None

-- the board that a handle keeps, if it keeps one
abbrev pub board_in : Option Kept → Option WholeView
board_in None = None
board_in (Some (Post state)) = None
board_in (Some (Board it)) = Some it
board_in (Some Away) = None

-- a call over the post of a handle: the post does this, and stays in the handle; without a post the call is a misuse
abbrev pub OverPost : Option PostStateView → Option Kept → Option Kept → Type 0 → (PostStateView → PostStateView → Type 0)
    → Type 0
OverPost None old new refused Does = (new ≡ old) × refused
OverPost (Some state) old new refused Does = (after : PostStateView) × (new ≡ Some (Post after)) × Does state after
