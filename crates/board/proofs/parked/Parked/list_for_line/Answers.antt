use Rattle.std.proofs.Common.{List, length, sym, ap, ◌∙◌, subst}
use Rattle.chart.specs.declared.history.Occurrence.{Occurrence}
use Rattle.chart.specs.Charts.{LineView}
use Rattle.chart.specs.Histories.{chart_of}
use Rattle.board_table.specs.Knowing.{held}
use Rattle.board_core.proofs.OwnEvents.{same_recorder}
use Rattle.board.specs.Views.{PostView}
use Rattle.board.specs.Meeting.{IsJoint}
use Rattle.board.proofs.RoomsMade.{for_line_made}
use Rattle.board.proofs.parked.Parked.list_for_line.Goals as goal

pub returns : goal.returns
returns c = for_line_made c.with_capacity.result c.len.result c.args.self.now.number (λ (h : List Occurrence). IsJoint h c.args.self.now) c.with_capacity.ensures.items c.with_capacity.ensures.exact (λ h joint.
    let its = c.self.invariant in
    let inside = c.self.inside in
    let seen = (held inside.seat.me).seen in
    let same = subst (IsJoint h) (sym c.self.view_is) joint in
    let later = same_recorder inside.shape.instances seen h same.later inside.shape.capacity inside.number inside.recorder its.knows.legal (same.own ∙ sym its.made) its.knows.own.recorder in
    c.len.ensures.value ∙ ap (λ (line : LineView). length line.events) (c.line.ensures ∙ later.line) ∙ ap (λ (post : PostView). length (chart_of h post.number)) c.self.view_is)
