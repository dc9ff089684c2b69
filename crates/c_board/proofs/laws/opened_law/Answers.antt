use Rattle.std.proofs.Common.{◌≡◌, ◌∙◌, suc, length, sym, ap}
use Rattle.std.specs.Prelude.{Some}
use Rattle.board.specs.Boards.{new_post}
use Rattle.board.specs.Views.{BoardView}
use Rattle.c_board.specs.declared.kept.Kept.TheVariants.{Post}
use Rattle.c_board.specs.Opening.{seated}
use Rattle.c_board.specs.PostStates.{PostStateView}
use Rattle.c_board.proofs.laws.opened_law.Goals as goal

kept_same : (x y : PostStateView) → Some (Post x) ≡ Some (Post y) → x ≡ y
kept_same x y same = cc

pub returns : goal.returns
returns c = λ k number old new done its two.
    let board : BoardView = record { table = its.3; size = length old; capacity = k } in
    let one = kept_same two.2 (seated number (new_post board (suc two.0))) (its.4 two.0 (Some (Post two.2)) two.4) in
    let other = kept_same two.3 (seated number (new_post board (suc two.1))) (its.4 two.1 (Some (Post two.3)) two.5) in
    two.6 (ap (λ (state : PostStateView). state.board_number) one ∙ sym (ap (λ (state : PostStateView). state.board_number) other))
