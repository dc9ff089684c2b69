use Rattle.std.proofs.Common.{◌<◌, ◌↔◌, ◌∙◌, sym, subst, length, false, inl, inr}
use Rattle.std.specs.Prelude.{IsTrue, nat_lt}
use Rattle.log_chart.specs.Items.{naming_line}
use Rattle.race_verdicts.specs.Luck.ArrivalTables.{arrival_in}
use Rattle.race_verdicts.specs.Luck.Arrivals.{CameFirst}
use Rattle.race_verdicts.proofs.LuckLemmas.ArrivalLemmas.{came_both, came_not}
use Rattle.race_verdicts.specs.Recordings.{RecordingView, recording_view}
use Rattle.race_verdicts.proofs.luck.arrivals.Arrivals.came_first.Goals as goal

pub returns-in_default : goal.returns-in_default
returns-in_default c =
    let rec = recording_view c.self.inside.recording in
    let sent = c.self.inside.arrived.sent in
    let begun = c.self.inside.arrived.begun in
    let own = c.self.invariant.each c.args.message (subst (λ (r : RecordingView). naming_line c.args.message < length r.lines) (sym c.self.view_is) c.requires.message) in
    let others = c.self.invariant.each c.args.other (subst (λ (r : RecordingView). naming_line c.args.other < length r.lines) (sym c.self.view_is) c.requires.other) in
    subst (λ (r : RecordingView). IsTrue false ↔ CameFirst r c.args.message c.args.other) c.self.view_is (came_not rec c.args.message c.args.other (arrival_in sent begun c.args.message) (arrival_in sent begun c.args.other) own others (inl (sym c.at.ensures ∙ c.in_default.is)))

pub returns-in_default-at : goal.returns-in_default-at
returns-in_default-at c =
    let rec = recording_view c.self.inside.recording in
    let sent = c.self.inside.arrived.sent in
    let begun = c.self.inside.arrived.begun in
    let own = c.self.invariant.each c.args.message (subst (λ (r : RecordingView). naming_line c.args.message < length r.lines) (sym c.self.view_is) c.requires.message) in
    let others = c.self.invariant.each c.args.other (subst (λ (r : RecordingView). naming_line c.args.other < length r.lines) (sym c.self.view_is) c.requires.other) in
    subst (λ (r : RecordingView). IsTrue false ↔ CameFirst r c.args.message c.args.other) c.self.view_is (came_not rec c.args.message c.args.other (arrival_in sent begun c.args.message) (arrival_in sent begun c.args.other) own others (inr (sym c.at-2.ensures ∙ c.in_default-at.is)))

pub returns : goal.returns
returns c =
    let rec = recording_view c.self.inside.recording in
    let sent = c.self.inside.arrived.sent in
    let begun = c.self.inside.arrived.begun in
    let own = c.self.invariant.each c.args.message (subst (λ (r : RecordingView). naming_line c.args.message < length r.lines) (sym c.self.view_is) c.requires.message) in
    let others = c.self.invariant.each c.args.other (subst (λ (r : RecordingView). naming_line c.args.other < length r.lines) (sym c.self.view_is) c.requires.other) in
    subst (λ (r : RecordingView). IsTrue (nat_lt c.in-Some.place c.in-Some-at.other_place) ↔ CameFirst r c.args.message c.args.other) c.self.view_is
    (came_both rec c.args.message c.args.other (arrival_in sent begun c.args.message) (arrival_in sent begun c.args.other) own others c.in-Some.place c.in-Some-at.other_place (sym c.at.ensures ∙ c.in-Some.is) (sym c.at-2.ensures ∙ c.in-Some-at.is))
