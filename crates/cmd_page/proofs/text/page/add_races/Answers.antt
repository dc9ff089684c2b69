use Rattle.texts.proofs.Writes.{buffers_more_read, adds_in_read}
use Rattle.cmd_page.specs.Text.RaceText.{race_text}
use Rattle.cmd_page.proofs.text.page.add_races.Goals as goal

pub loop-race-preserved : goal.loop-race-preserved
loop-race-preserved g c = buffers_more_read (race_text) c.args.races.now c.loop-race.race-index _ c.loop-race-test.true c.race-item.is c.loop-race.invariant c.in_ok-add_race.ensures

pub returns-in_err-add_race : goal.returns-in_err-add_race
returns-in_err-add_race g c = adds_in_read (race_text) c.from_residual.result c.args.races.now c.loop-race.race-index _ c.from_residual.ensures.0 c.loop-race-test.true c.race-item.is c.loop-race.invariant c.in_err-add_race.ensures
