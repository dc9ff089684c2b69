use Rattle.std.proofs.Common.{◌∙◌, sym, subst}
use Rattle.std.proofs.lemmas.Bool.{ltb-true}
use Rattle.race_verdicts.specs.Luck.LaneTables.{AreLaneTables}
use Rattle.race_verdicts.proofs.LuckLemmas.BehindLemmas.{is_over}
use Rattle.race_verdicts.specs.Recordings.{RecordingView}
use Rattle.race_verdicts.proofs.luck.lanes.Lanes.is_over.Goals as goal

pub returns-in-Some : goal.returns-in-Some
returns-in-Some c =
    λ less. is_over c.args.self.now c.self.inside.takers c.self.inside.above c.self.inside.over
    (subst (λ (r : RecordingView). AreLaneTables r.lines c.self.inside.takers c.self.inside.above c.self.inside.over) c.self.view_is c.self.invariant) c.args.line c.args.send c.requires c.in-Some.until
    (sym c.at.ensures ∙ c.in-Some.is) (ltb-true c.in-Some.until c.args.line less)
