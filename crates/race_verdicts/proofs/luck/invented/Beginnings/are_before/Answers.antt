use Rattle.std.proofs.Common.{◌↔◌, ℕ, sym, subst}
use Rattle.std.specs.Prelude.{IsTrue}
use Rattle.chart.specs.Charts.{Place, chart_lines, IsReceiveFrom}
use Rattle.chart.specs.Order.{Before}
use Rattle.closure.specs.Faults.{place_of}
use Rattle.race_verdicts.specs.Luck.Places.{IsInvented}
use Rattle.race_verdicts.specs.Luck.Recorded.{JudgeView}
use Rattle.race_verdicts.proofs.LuckLemmas.BeginningLemmas.{known_before, send_within}
use Rattle.race_verdicts.specs.Recordings.{recording_view}
use Rattle.race_verdicts.proofs.luck.invented.Beginnings.are_before.Goals as goal

pub unreachable-requires : goal.unreachable-requires
unreachable-requires c =
    let received = subst (λ (j : JudgeView). (q : ℕ) × IsReceiveFrom (chart_lines j.lines) q (place_of c.args.receive.now)) (sym c.self.view_is) c.requires in
    c.in_default.ensures received.0 received.1

pub returns : goal.returns
returns c =
    let lines = c.self.inside.closure.now in
    let rec = recording_view c.self.inside.recording in
    subst (λ (j : JudgeView). IsTrue c.is_up_to.result ↔ ((e : Place) × IsInvented j.recording e × Before (chart_lines j.lines) e (place_of c.args.receive.now))) c.self.view_is
    (known_before lines rec c.self.inside.known c.self.invariant (place_of c.in-Some.send) (place_of c.args.receive.now) c.place.result c.at.result c.is_up_to.result c.in-Some.ensures c.place.ensures.value
    (send_within lines (place_of c.in-Some.send) (place_of c.args.receive.now) c.place.result c.in-Some.ensures c.place.ensures.value) c.at.ensures c.is_up_to.ensures)
