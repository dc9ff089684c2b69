use Rattle.std.proofs.Common.{◌+◌}
use Rattle.std.specs.Prelude.{slice_index}
use Rattle.cmd_base.specs.declared.pairs.saying.Saying.TheVariants.{Row}
use Rattle.cmd_base.specs.Pairs.Sayings.{rows}
use Rattle.cmd_base.proofs.PairsLemmas.Growing.{grown, grown_none, rows-next}
use Rattle.cmd_explain_race.proofs.explaining.add_rows.Goals as goal

pub loop-place-init : goal.loop-place-init
loop-place-init c = grown_none c.args.sayings.now.items

pub loop-place-preserved : goal.loop-place-preserved
loop-place-preserved c =
    let numbers = c.args.order.now in
    let n = c.loop-place.place in
    grown c.args.sayings.now.items (rows numbers n) (rows numbers (n + 1)) c.loop-place.sayings.items c.push.new.self.items (Row (n + 1) (slice_index numbers n)) c.loop-place.invariant c.in_ok-push.ensures.items (rows-next numbers n)
