use Rattle.std.proofs.Common.{◌<◌, ◌∙◌, ap, length, arith}
use Rattle.std.proofs.lemmas.List.{length-set}
use Rattle.chart.specs.Charts.{chart_lines}
use Rattle.race_verdicts.proofs.LuckLemmas.BeginningLemmas.{known_more}
use Rattle.race_verdicts.proofs.luck.invented.known_of.Goals as goal

pub loop-place-preserved : goal.loop-place-preserved
loop-place-preserved c =
    let old = c.loop-place.known in
    let place = c.loop-place.place in
    let first = c.in_ok-first_known.field-0 in
    let within : place < length old = omega (arith, c.loop-place.invariant.whole, c.len-count.ensures.value) in
    record {
      whole = ap length c.set.ensures ∙ length-set old place first ∙ c.loop-place.invariant.whole;
      each = known_more (chart_lines c.args.closure.now) c.args.invented.now place old c.set.new.self first within c.set.ensures c.in_ok-first_known.ensures c.loop-place.invariant.each;
    }
