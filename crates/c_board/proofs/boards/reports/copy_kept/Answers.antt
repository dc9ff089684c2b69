use Rattle.std.proofs.Common.{◌∙◌, List, sym, ap, subst}
use Rattle.std.specs.Prelude.{Some, None}
use Rattle.chart.specs.Events.{ith}
use Rattle.chart.specs.Reports.{ReportView}
use Rattle.c_board.specs.Boards.BoardCopies.{CopiesReport}
use Rattle.c_board.specs.Wholes.{WholeView}
use Rattle.c_board.proofs.boards.reports.copy_kept.Goals as goal

pub returns-in-Some-copy_nth : goal.returns-in-Some-copy_nth
returns-in-Some-copy_nth c = (
  record { gathered = c.whole.inside.gathered; capacity = c.whole.inside.capacity },
  c.in-Some.ensures ∙ ap (λ (it : WholeView). Some it) (sym c.whole.view_is),
  subst (λ (reports : List ReportView). CopiesReport (ith reports c.args.number) c.args.out.now (Some c.in-Some-copy_nth.reported) c.copy_nth.new.out) c.as_slice.ensures.value c.in-Some-copy_nth.ensures,
)

pub returns-in-None : goal.returns-in-None
returns-in-None c = (
  record { gathered = c.whole.inside.gathered; capacity = c.whole.inside.capacity },
  c.in-Some.ensures ∙ ap (λ (it : WholeView). Some it) (sym c.whole.view_is),
  subst (λ (reports : List ReportView). CopiesReport (ith reports c.args.number) c.args.out.now None c.copy_nth.new.out) c.as_slice.ensures.value c.in-None.ensures,
)
