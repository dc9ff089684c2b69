use Rattle.std.proofs.Common.{◌≡◌, List, Bool, ap, subst}
use Rattle.texts.specs.Writing.{Buffers, Stops}
use Rattle.texts.proofs.Writes.{adds_early, buffers_then, stops_then}
use Rattle.races_text.proofs.NamedLemmas.FoundRaces.{vacuous}
use Rattle.races_text.specs.declared.judged.part.Part.{Part}
use Rattle.races_text.specs.Judged.Parts.{shown_parts, has_parts}
use Rattle.races_text.specs.Judged.Summaries.{summary_of_parts}
use Rattle.races_text.specs.declared.judged.summary.RaceSummary.{RaceSummary}
use Rattle.races_text.specs.Judged.Listing.{ended_text}
use Rattle.races_text.proofs.JudgedLemmas.PartLemmas.{judged_all, judged_begun}
use Rattle.races_text.proofs.JudgedLemmas.TextLemmas.{adds_failed}
use Rattle.races_text.proofs.judged.listing.add_parts.Goals as goal

pub returns-in_err-summary : goal.returns-in_err-summary
returns-in_err-summary g c =
    let query = c.args.query.now in
    let is = g.V.Verdicts.is_verdict query.verdicts.now c.args.receive.now in
    let added = c.in_err-summary.ensures in
    let parts : List Part = added.0 in
    let failed = c.from_residual.ensures.0 in (
      parts,
      judged_begun is c.from_residual.result failed added.1,
      adds_early c.from_residual.result (ended_text query.query.form (has_parts (shown_parts query.luck parts))) failed added.2,
      vacuous (λ (summary : RaceSummary). summary ≡ summary_of_parts query.luck parts) c.from_residual.result failed,
    )

pub returns-in_err-add_end : goal.returns-in_err-add_end
returns-in_err-add_end g c =
    let query = c.args.query.now in
    let is = g.V.Verdicts.is_verdict query.verdicts.now c.args.receive.now in
    let added = c.in_ok-summary.ensures in
    let parts : List Part = added.0 in
    let failed = c.from_residual-in_err-add_end.ensures.0 in
    let end = subst (λ (has : Bool). Stops g.W.Out.sink c.add_begun.new.text c.add_end.new.text (ended_text query.query.form has)) (ap (λ (t : RaceSummary). t.shown) added.3) c.in_err-add_end.ensures in (
      parts,
      judged_all is c.from_residual-in_err-add_end.result added.1,
      adds_failed c.from_residual-in_err-add_end.result failed (stops_then added.2 end),
      vacuous (λ (summary : RaceSummary). summary ≡ summary_of_parts query.luck parts) c.from_residual-in_err-add_end.result failed,
    )

pub returns : goal.returns
returns g c =
    let query = c.args.query.now in
    let added = c.in_ok-summary.ensures in
    let end = subst (λ (has : Bool). Buffers g.W.Out.sink c.add_begun.new.text c.add_end.new.text (ended_text query.query.form has)) (ap (λ (t : RaceSummary). t.shown) added.3) c.in_ok-add_end.ensures in
    (added.0, added.1, buffers_then added.2 end, added.3)
