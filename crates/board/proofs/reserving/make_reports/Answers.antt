use Rattle.std.proofs.Common.{◌≡◌, ◌++◌, [], ◌∷◌, List, sym, subst, arith}
use Rattle.chart.specs.Charts.{LineView}
use Rattle.chart.specs.Histories.{chart_of}
use Rattle.chart.specs.HistoryLines.{history_line, history_lines}
use Rattle.chart.specs.Reports.{AreReportsOf}
use Rattle.board.proofs.RoomsMade.{lines_next}
use Rattle.board.proofs.reserving.make_reports.Goals as goal

pub loop-place-preserved : goal.loop-place-preserved
loop-place-preserved c = λ h joint.
    let place = c.loop-place.place in
    let post = c.post_of.ensures in
    let grown = c.in_ok-add_reports.ensures h (history_lines place h) (joint post.among.0 _ post.among.1) (c.loop-place.invariant h joint) in
    subst (λ (ls : List LineView). AreReportsOf (chart_of h) ls c.add_reports.new.reports.items) (sym (lines_next h place)) (subst (λ p. AreReportsOf (chart_of h) (history_lines place h ++ history_line h p ∷ []) c.add_reports.new.reports.items) post.number grown)

pub returns : goal.returns
returns c = λ h joint.
    let all : c.loop-place.place ≡ c.args.instances = omega arith in
    subst (λ n. AreReportsOf (chart_of h) (history_lines n h) c.loop-place.reports.items) all (c.loop-place.invariant h joint)
