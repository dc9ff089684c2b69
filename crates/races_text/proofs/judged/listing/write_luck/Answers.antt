use Rattle.std.proofs.Common.{◌≡◌, Ok, sym, ◌∙◌, subst}
use Rattle.texts.specs.Writing.{Puts, Wrote}
use Rattle.texts.specs.declared.text_buffer.WriteError.{WriteError}
use Rattle.texts.proofs.Writes.{wrote_then}
use Rattle.races_text.proofs.NamedLemmas.FoundRaces.{wrote_less, vacuous}
use Rattle.races_text.specs.Judged.Listing.{luck_manner, luck_text, summary_of}
use Rattle.races_text.specs.declared.judged.summary.RaceSummary.{RaceSummary}
use Rattle.races_text.proofs.JudgedLemmas.FoundParts.{parted_early, parted_whole}
use Rattle.races_text.proofs.judged.listing.write_luck.Goals as goal

pub returns-in_err-finish : goal.returns-in_err-finish
returns-in_err-finish g c =
    let query = c.args.query.now.query in
    let manner = luck_manner c.args.query.now in
    let verdict = g.V.Verdicts.is_verdict c.args.query.now.verdicts.now in
    let added = c.in_ok-summary.ensures in
    let failed = c.from_residual-in_err-finish.ensures.0 in
    let same = sym (c.finish.ensures.same_out ∙ added.4.same_out ∙ c.new-text.ensures.out.0) in (
      added.0,
      added.1,
      added.2,
      parted_early verdict manner.races query.lines.now c.from_residual-in_err-finish.result failed (parted_whole verdict manner.races query.lines.now added.3),
      subst (λ end. Wrote g.W.Out.sink c.args.out.now end c.from_residual-in_err-finish.result (luck_text manner query.names.now query.lines.now added.1)) (sym (c.out-2-1.given.1 same))
          (wrote_less _ _ c.from_residual-in_err-finish.result failed c.new-text.ensures.out.1 c.new-text.ensures.empty added.4 c.in_err-finish.ensures.wrote),
      vacuous (λ (summary : RaceSummary). summary ≡ summary_of manner added.1) c.from_residual-in_err-finish.result failed,
    )

pub returns : goal.returns
returns g c =
    let query = c.args.query.now.query in
    let manner = luck_manner c.args.query.now in
    let added = c.in_ok-summary.ensures in
    let same = sym (c.finish.ensures.same_out ∙ added.4.same_out ∙ c.new-text.ensures.out.0) in (
      added.0,
      added.1,
      added.2,
      added.3,
      subst (λ end. Puts g.W.Out.sink c.args.out.now end (luck_text manner query.names.now query.lines.now added.1)) (sym (c.out-2-1.given.1 same))
          (wrote_then {E = WriteError} _ _ (Ok c.in_ok-summary.summary) c.new-text.ensures.out.1 c.new-text.ensures.empty added.4 c.in_ok-finish.ensures.wrote),
      added.5,
    )
