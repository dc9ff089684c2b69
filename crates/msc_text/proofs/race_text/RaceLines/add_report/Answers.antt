use Rattle.std.proofs.Common.{subst}
use Rattle.texts.specs.Writing.{Adds}
use Rattle.msc_text.proofs.RaceTexts.{race_lines}
use Rattle.msc_text.proofs.race_text.RaceLines.add_report.Goals as goal

pub returns : goal.returns
returns g c =
    rw (← c.named.ensures)
    (subst (Adds g.W.Out.sink c.args.text.now c.add_all.new.text c.add_all.result) (race_lines _ _ _ c.args.receive.index _ c.set.ensures.front c.set.ensures.end) c.add_all.ensures)
