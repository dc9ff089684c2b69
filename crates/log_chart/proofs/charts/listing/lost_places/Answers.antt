use Rattle.std.proofs.Common.{sym, ◌∙◌}
use Rattle.log_chart.proofs.ChartsLemmas.WalkLemmas.{lost_more, lost_same, lost_end}
use Rattle.log_chart.proofs.charts.listing.lost_places.Goals as goal
use Rattle.log_chart.proofs.charts.listing.lost_places.Goals.{then-is_lost+in_ok-push, else-is_lost}

pub loop-number-preserved : goal.loop-number-preserved
loop-number-preserved c =
    let lines = c.args.lines.now in
    let fates = c.args.fates.now in
    let f = c.fate_at.result in
    elim c.if-is_lost.branch [
      | then-is_lost+in_ok-push w ↦
          rw w.places-is
          (lost_more lines fates c.loop-number.number c.index-lines-number.result f c.loop-number-test.true c.requires c.index-lines-number.is (c.fate_at.ensures f) c.loop-number.places.items
          w.push.new.self.items (sym c.is_lost.ensures ∙ w.if-is_lost.true) w.in_ok-push.ensures.items
          ∙ c.loop-number.invariant)
      | else-is_lost w ↦
          rw w.places-is
          (lost_same lines fates c.loop-number.number c.index-lines-number.result f c.loop-number-test.true c.requires c.index-lines-number.is (c.fate_at.ensures f) c.loop-number.places.items
          (sym c.is_lost.ensures ∙ w.if-is_lost.false)
          ∙ c.loop-number.invariant)
    ]

pub returns : goal.returns
returns c = sym (lost_end c.loop-number.places.items c.args.lines.now c.args.fates.now c.loop-number.number c.loop-number-test.false) ∙ c.loop-number.invariant
