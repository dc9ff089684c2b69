use Rattle.texts.proofs.Writes.{buffers_more, adds_in}
use Rattle.cmd_page.specs.Text.RaceText.{behind_space}
use Rattle.cmd_page.proofs.text.race.add_numbers.Goals as goal

pub loop-number-preserved : goal.loop-number-preserved
loop-number-preserved g c = buffers_more (behind_space) c.args.numbers.now c.loop-number.number-index 0 c.loop-number-test.true c.loop-number.invariant c.in_ok-add_behind_space.ensures

pub returns-in_err-add_behind_space : goal.returns-in_err-add_behind_space
returns-in_err-add_behind_space g c = adds_in (behind_space) c.from_residual.result c.args.numbers.now c.loop-number.number-index 0 c.from_residual.ensures.0 c.loop-number-test.true c.loop-number.invariant c.in_err-add_behind_space.ensures
