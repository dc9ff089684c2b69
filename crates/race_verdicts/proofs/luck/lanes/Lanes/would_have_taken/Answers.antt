use Rattle.std.proofs.Common.{◌↔◌, subst}
use Rattle.std.specs.Prelude.{IsTrue}
use Rattle.log_chart.specs.declared.item.MessageNo.TheVariants as messages
use Rattle.race_verdicts.specs.Luck.Arrivals.{CameFirst}
use Rattle.race_verdicts.specs.Luck.Taking.{WouldTake}
use Rattle.race_verdicts.specs.Recordings.{RecordingView}
use Rattle.race_verdicts.proofs.LuckLemmas.BehindLemmas.{would_yes, would_not_take}
use Rattle.race_verdicts.proofs.luck.lanes.Lanes.would_have_taken.Goals as goal

pub returns-then-not-would_take : goal.returns-then-not-would_take
returns-then-not-would_take c =
    would_not_take c.args.self.now c.args.line c.args.own c.args.send c.would_take.result
    (subst (λ (r : RecordingView). IsTrue c.would_take.result ↔ WouldTake r c.args.line c.args.send) c.requires.taking c.would_take.ensures) c.if-not-would_take.true

pub returns : goal.returns
returns c =
    would_yes c.args.self.now c.args.line c.args.own c.args.send c.would_take.result c.came_first.result (c.is_there.ensures.0 c.if-not-is_there.false)
    (subst (λ (r : RecordingView). IsTrue c.would_take.result ↔ WouldTake r c.args.line c.args.send) c.requires.taking c.would_take.ensures) c.if-not-would_take.false
    (subst (λ (r : RecordingView). IsTrue c.came_first.result ↔ CameFirst r (messages.Sent c.args.send) c.args.own) c.requires.arrivals c.came_first.ensures)
