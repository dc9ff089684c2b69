use Rattle.std.proofs.Common.{sym, ◌∙◌}
use Rattle.log_chart.proofs.ChartsLemmas.WalkLemmas.{overtakings_more, overtakings_end}
use Rattle.log_chart.proofs.charts.listing.overtakings.Goals as goal

pub loop-number-preserved : goal.loop-number-preserved
loop-number-preserved c =
    overtakings_more c.args.lines.now c.args.fates.now c.loop-number.number c.index-lines-number.result c.fate_at.result c.loop-number-test.true c.requires c.index-lines-number.is
    (c.fate_at.ensures c.fate_at.result) c.args.log.now c.loop-number.listed.items c.push_overtaking.new.listed.items c.in_ok-push_overtaking.ensures
    ∙ c.loop-number.invariant

pub returns : goal.returns
returns c = sym (overtakings_end c.args.log.now c.loop-number.listed.items c.args.lines.now c.args.fates.now c.loop-number.number c.loop-number-test.false) ∙ c.loop-number.invariant
