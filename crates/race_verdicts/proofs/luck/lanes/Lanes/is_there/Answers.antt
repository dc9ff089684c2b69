use Rattle.std.proofs.Common.{◌∙◌, sym, subst}
use Rattle.race_verdicts.specs.Luck.LaneTables.{AreLaneTables}
use Rattle.race_verdicts.proofs.LuckLemmas.BehindLemmas.{there_some, there_none}
use Rattle.race_verdicts.specs.Recordings.{RecordingView}
use Rattle.race_verdicts.proofs.luck.lanes.Lanes.is_there.Goals as goal

pub returns-in-Some : goal.returns-in-Some
returns-in-Some c =
    there_some c.args.self.now c.self.inside.takers c.self.inside.above c.self.inside.over
    (subst (λ (r : RecordingView). AreLaneTables r.lines c.self.inside.takers c.self.inside.above c.self.inside.over) c.self.view_is c.self.invariant) c.args.line c.args.send c.requires c.in-Some.taker
    (sym c.at.ensures ∙ c.in-Some.is)

pub returns-in-None : goal.returns-in-None
returns-in-None c =
    there_none c.args.self.now c.self.inside.takers c.self.inside.above c.self.inside.over
    (subst (λ (r : RecordingView). AreLaneTables r.lines c.self.inside.takers c.self.inside.above c.self.inside.over) c.self.view_is c.self.invariant) c.args.line c.args.send c.requires
    (sym c.at.ensures ∙ c.in-None.is)
