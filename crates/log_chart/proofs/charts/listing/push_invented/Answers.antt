use Rattle.std.proofs.Common.{◌+◌, sym, ◌∙◌}
use Rattle.log_chart.proofs.ChartsLemmas.WalkLemmas.{invented_more, invented_same, invented_end}
use Rattle.log_chart.proofs.charts.listing.push_invented.Goals as goal
use Rattle.log_chart.proofs.charts.listing.push_invented.Goals.{then-is_invented+in_ok-push, else-is_invented}

pub loop-place-preserved : goal.loop-place-preserved
loop-place-preserved c =
    let items = c.args.items.now in
    elim c.if-is_invented.branch [
      | then-is_invented+in_ok-push w ↦
          rw w.listed-is
          (invented_more c.args.host items c.loop-place.place c.index-items-place.result c.loop-place-test.true c.index-items-place.is c.loop-place.listed.items w.push.new.self.items
          (sym c.is_invented.ensures ∙ w.if-is_invented.true) w.in_ok-push.ensures.items
          ∙ c.loop-place.invariant)
      | else-is_invented w ↦
          rw w.listed-is
          (invented_same c.args.host items c.loop-place.place c.index-items-place.result c.loop-place-test.true c.index-items-place.is c.loop-place.listed.items (sym c.is_invented.ensures ∙ w.if-is_invented.false)
          ∙ c.loop-place.invariant)
    ]

pub returns : goal.returns
returns c = sym (invented_end c.args.host (c.loop-place.place + 1) c.loop-place.listed.items c.args.items.now c.loop-place.place c.loop-place-test.false) ∙ c.loop-place.invariant
