use Rattle.std.proofs.Common.{◌≡◌, ◌∙◌, length, ap, ap₂, get_or, set, None}
use Rattle.std.proofs.lemmas.List.{length-set}
use Rattle.race_verdicts.specs.Luck.LaneTables.{until_of}
use Rattle.race_verdicts.proofs.LuckLemmas.LaneLemmas.{over_more, over_all}
use Rattle.race_verdicts.proofs.luck.lanes.over_of.Goals as goal

pub loop-number-preserved : goal.loop-number-preserved
loop-number-preserved c =
    let i = c.loop-number.number in
    let over = c.loop-number.over in
    let above = c.args.above.now in
    let takers = c.args.takers.now in
    let until : c.until_of-until.result ≡ until_of (get_or above i None) (get_or takers i None) over = c.until_of-until.ensures ∙ ap₂ (λ a b. until_of a b over) c.at.ensures c.at-in-loop-number.ensures in
    record {
      whole = ap length c.set.ensures ∙ length-set over i c.until_of-until.result ∙ c.loop-number.invariant.whole;
      each =
          over_more c.args.lines.now above takers over c.requires.above c.requires.takers i c.loop-number-test.true c.loop-number.invariant.whole c.loop-number.invariant.each c.set.new.self
          (c.set.ensures ∙ ap (set over i) until);
    }

pub returns : goal.returns
returns c = over_all c.args.lines.now c.loop-number.number c.loop-number.over c.loop-number-test.false c.loop-number.invariant.whole c.loop-number.invariant.each
