use Rattle.std.proofs.Common.{◌∙◌}
use Rattle.race_verdicts.proofs.LuckLemmas.LineLemmas.{takers_some, takers_none, takers_all}
use Rattle.race_verdicts.proofs.luck.lines.takers_of.Goals as goal
use Rattle.race_verdicts.proofs.luck.lines.takers_of.Goals.{in-Some, in_default}

pub loop-number-preserved : goal.loop-number-preserved
loop-number-preserved c =
    let lines = c.args.lines.now in
    let i = c.loop-number.number in
    let x = c.index-lines-number.result in
    elim c.match-line.branch [
      | in-Some w ↦
          rw w.takers-is record {
            whole = w.note.ensures.whole ∙ c.loop-number.invariant.whole;
            each =
                takers_some lines i x c.loop-number-test.true c.index-lines-number.is w.in-Some.send c.loop-number.takers w.note.new.self w.in-Some.is c.loop-number.invariant.whole w.note.ensures
                c.loop-number.invariant.each;
          }
      | in_default w ↦
          rw w.takers-is record {
            whole = c.loop-number.invariant.whole;
            each = takers_none lines i x c.loop-number-test.true c.index-lines-number.is c.loop-number.takers w.in_default.not-Some c.loop-number.invariant.each;
          }
    ]

pub returns : goal.returns
returns c = takers_all c.args.lines.now c.loop-number.number c.loop-number-test.false c.loop-number.takers c.loop-number.invariant.whole c.loop-number.invariant.each
