use Rattle.std.proofs.Common.{true, ◌<◌, ◌↔◌, ◌∙◌, sym, subst, length, None, Some}
use Rattle.std.specs.Prelude.{IsTrue}
use Rattle.race_verdicts.specs.Luck.Taking.{WouldTake}
use Rattle.race_verdicts.proofs.LuckLemmas.TakingLemmas.{entry_placed, first_known, words_at, takes_unknown, takes_known}
use Rattle.race_verdicts.specs.Recordings.{RecordingView, recording_view}
use Rattle.race_verdicts.proofs.luck.taking.Taking.would_take.Goals as goal

pub returns-in_default : goal.returns-in_default
returns-in_default c =
    let rec = recording_view c.self.inside.recording in
    let within = subst (λ (r : RecordingView). c.args.line < length r.lines) (sym c.self.view_is) c.requires.line in
    subst (λ (r : RecordingView). IsTrue true ↔ WouldTake r c.args.line c.args.send) c.self.view_is
    (takes_unknown rec c.args.line c.args.send (entry_placed rec.taken (length rec.lines) c.self.inside.places c.self.invariant.placed c.args.line within None (sym c.at.ensures ∙ c.in_default.is)))

pub any_fits-requires-clause-first : goal.any_fits-requires-clause-first
any_fits-requires-clause-first c =
    let rec = recording_view c.self.inside.recording in
    let within = subst (λ (r : RecordingView). c.args.line < length r.lines) (sym c.self.view_is) c.requires.line in
    first_known c.self.inside.recording.taken.now c.args.line c.in-Some.first
    (entry_placed rec.taken (length rec.lines) c.self.inside.places c.self.invariant.placed c.args.line within (Some c.in-Some.first) (sym c.at.ensures ∙ c.in-Some.is))

pub returns : goal.returns
returns c =
    let rec = recording_view c.self.inside.recording in
    let within = subst (λ (r : RecordingView). c.args.line < length r.lines) (sym c.self.view_is) c.requires.line in
    let sent = subst (λ (r : RecordingView). c.args.send < length r.words) (sym c.self.view_is) c.requires.send in
    subst (λ (r : RecordingView). IsTrue c.any_fits.result ↔ WouldTake r c.args.line c.args.send) c.self.view_is
    (takes_known rec c.args.line c.args.send c.in-Some.first _ c.any_fits.result
    (entry_placed rec.taken (length rec.lines) c.self.inside.places c.self.invariant.placed c.args.line within (Some c.in-Some.first) (sym c.at.ensures ∙ c.in-Some.is))
    (words_at c.self.inside.recording.words.now c.args.send _ sent) c.any_fits.ensures)
