use Rattle.std.proofs.Common.{ℕ, refl, sym, ap, ◌∙◌, subst}
use Rattle.board.specs.Boards.{IsUnmade}
use Rattle.board.specs.Known.{IsSized}
use Rattle.c_board.specs.Opening.{all_of}
use Rattle.c_board.proofs.KeptLists.{are_seated, length-kept_by}
use Rattle.c_board.proofs.opening.open.Goals as goal

pub returns-in-Err : goal.returns-in-Err
returns-in-Err c = (
  refl,
  (
    c.are_empty.ensures.yes c.if-not-are_empty.false,
    subst (λ (n : ℕ). IsUnmade n c.args.capacity c.in-Err.error) (sym (length-kept_by c.args.handles.now)) c.in-Err.ensures,
  ),
)

pub returns : goal.returns
returns c =
    let made = c.in-Ok.ensures in
    let seated = are_seated c.args.board_number c.args.handles.now c.args.capacity made.1 made.4 c.put_all.new.handles made.2 made.3 made.5 (c.put_all.ensures ∙ ap all_of made.6) in
    (c.are_empty.ensures.yes c.if-not-are_empty.false, subst (λ (n : ℕ). IsSized n c.args.capacity) (sym (length-kept_by c.args.handles.now)) made.0, seated.0, seated.1, seated.2)
