use Rattle.std.proofs.Common.{◌∙◌, List, sym, ap, subst}
use Rattle.std.specs.Prelude.{Some}
use Rattle.board.specs.declared.gathering.Left.{Left}
use Rattle.c_board.specs.Boards.BoardCopies.{CopiesWaiting, message_at}
use Rattle.c_board.specs.Wholes.{WholeView}
use Rattle.c_board.proofs.boards.left.copy_kept.Goals as goal

pub returns : goal.returns
returns c = (
  record { gathered = c.whole.inside.gathered; capacity = c.whole.inside.capacity },
  c.in-Some.ensures ∙ ap (λ (it : WholeView). Some it) (sym c.whole.view_is),
  subst (λ (left : List Left). CopiesWaiting (message_at left c.args.place.now) (record { name = c.args.name.now; body = c.args.body.now }) c.copy_nth.result (record { name = c.copy_nth.new.name; body = c.copy_nth.new.body }))
      c.as_slice.ensures.value c.copy_nth.ensures,
)
