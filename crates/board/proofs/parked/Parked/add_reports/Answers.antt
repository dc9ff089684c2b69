use Rattle.std.proofs.Common.{List, [], ◌∷◌, sym, ◌∙◌, subst}
use Rattle.chart.specs.declared.history.Occurrence.{Occurrence}
use Rattle.chart.specs.Histories.{chart_of}
use Rattle.chart.specs.HistoryLines.{history_line}
use Rattle.chart.specs.Reports.{AreReportsOf}
use Rattle.board_table.specs.Knowing.{held}
use Rattle.board_core.proofs.OwnEvents.{same_recorder}
use Rattle.board.specs.Views.{PostView}
use Rattle.board.specs.Meeting.{IsJoint}
use Rattle.board.proofs.RoomsMade.{own_reports, reports_added}
use Rattle.board.proofs.parked.Parked.add_reports.Goals as goal

pub returns : goal.returns
returns c = reports_added c.add_reports.result c.args.self.now.number c.self.inside.recorder.reports c.args.reports.now.items c.add_reports.new.reports.items (λ (h : List Occurrence). IsJoint h c.args.self.now) c.add_reports.ensures.ok (λ h joint.
    let its = c.self.invariant in
    let inside = c.self.inside in
    let seen = (held inside.seat.me).seen in
    let same = subst (IsJoint h) (sym c.self.view_is) joint in
    let later = same_recorder inside.shape.instances seen h same.later inside.shape.capacity inside.number inside.recorder its.knows.legal (same.own ∙ sym its.made) its.knows.own.recorder in
    subst (λ (post : PostView). AreReportsOf (chart_of h) (history_line h post.number ∷ []) inside.recorder.reports) c.self.view_is (own_reports inside.shape.instances h inside.number inside.recorder later))
