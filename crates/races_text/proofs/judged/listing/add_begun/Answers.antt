use Rattle.std.proofs.Common.{◌≡◌, List, [], ◌∷◌, ◌++◌, Ok, sym, ap, ◌∙◌, subst, append-nil}
use Rattle.chart.specs.declared.instance.EventNo.{EventNo}
use Rattle.texts.proofs.Writes.{buffers_nothing}
use Rattle.texts.specs.declared.text_buffer.WriteError.{WriteError}
use Rattle.races_text.proofs.NamedLemmas.FoundRaces.{vacuous}
use Rattle.races_text.specs.declared.judged.part.Part.{Part}
use Rattle.races_text.specs.declared.judged.summary.RaceSummary.{RaceSummary}
use Rattle.races_text.specs.Judged.Parts.{AreParts, events_in}
use Rattle.races_text.specs.Judged.PartsLeft.{events_left}
use Rattle.races_text.specs.Judged.Summaries.{summary_of_parts}
use Rattle.races_text.proofs.JudgedLemmas.PartLemmas.{no_parts, judged_some}
use Rattle.races_text.proofs.JudgedLemmas.NextParts.{fewer_left, longest_begun, longest_next, parts_next, taken_part}
use Rattle.races_text.proofs.JudgedLemmas.TextLemmas.{adds_part, adds_failed}
use Rattle.races_text.proofs.JudgedLemmas.SummaryLemmas.{summary_push}
use Rattle.races_text.proofs.judged.listing.add_begun.Goals as goal

pub loop-part-init : goal.loop-part-init
loop-part-init g c =
    let is = g.V.Verdicts.is_verdict c.args.query.now.verdicts.now c.args.receive.now in
    let left = c.parts_of-left.result in
    ([], [], sym c.parts_of-left.ensures.events, c.parts_of-left.ensures.left, no_parts is, longest_begun is left.next, buffers_nothing c.args.text.now, c.none-summary.ensures)

pub next_part-requires : goal.next_part-requires
next_part-requires g c = c.loop-part.invariant.3

pub add_shown-requires : goal.add_shown-requires
add_shown-requires g c = c.in-Some.ensures.part.holds.range

pub loop-part-preserved : goal.loop-part-preserved
loop-part-preserved g c =
    let query = c.args.query.now in
    let is = g.V.Verdicts.is_verdict query.verdicts.now c.args.receive.now in
    let so_far = c.loop-part.invariant in
    let old = c.loop-part.left in
    let new = c.next_part.new.left in
    let part = c.in-Some.part in
    let its = c.in-Some.ensures.part in (
      so_far.0 ++ part ∷ [],
      so_far.1 ++ events_in part,
      taken_part c.args.kept so_far.1 (events_left old) (events_in part) (events_left new) so_far.2 its.events,
      c.in-Some.ensures.left,
      parts_next is old new so_far.0 part its so_far.5 so_far.1 so_far.4,
      longest_next is old new so_far.0 part its so_far.5,
      adds_part query.query.form query.query.names.now c.args.events.now c.args.receive.now {E = WriteError} c.add_shown.new.text (Ok c.in_ok-summary.summary) query.luck c.loop-part.summary.shown so_far.0 part (ap (λ (t : RaceSummary). t.shown) so_far.7) so_far.6 c.in_ok-summary.ensures.added,
      c.in_ok-summary.ensures.summary ∙ summary_push query.luck c.loop-part.summary so_far.0 part so_far.7,
    )

pub loop-part-smaller : goal.loop-part-smaller
loop-part-smaller g c =
    let its = c.in-Some.ensures.part in
    fewer_left c.in-Some.part (events_left c.loop-part.left) (events_left c.next_part.new.left) its.holds.range.some its.events

pub returns-in_err-summary : goal.returns-in_err-summary
returns-in_err-summary g c =
    let query = c.args.query.now in
    let is = g.V.Verdicts.is_verdict query.verdicts.now c.args.receive.now in
    let so_far = c.loop-part.invariant in
    let old = c.loop-part.left in
    let new = c.next_part.new.left in
    let part = c.in-Some.part in
    let its = c.in-Some.ensures.part in
    let parts : List Part = so_far.0 ++ part ∷ [] in
    let failed = c.from_residual.ensures.0 in (
      parts,
      judged_some is (events_left new) c.from_residual.result failed (taken_part c.args.kept so_far.1 (events_left old) (events_in part) (events_left new) so_far.2 its.events) (parts_next is old new so_far.0 part its so_far.5 so_far.1 so_far.4),
      adds_part query.query.form query.query.names.now c.args.events.now c.args.receive.now c.add_shown.new.text c.from_residual.result query.luck c.loop-part.summary.shown so_far.0 part (ap (λ (t : RaceSummary). t.shown) so_far.7) so_far.6
          (adds_failed c.from_residual.result failed c.in_err-summary.ensures.added),
      vacuous (λ (summary : RaceSummary). summary ≡ summary_of_parts query.luck parts) c.from_residual.result failed,
    )

pub returns : goal.returns
returns g c =
    let query = c.args.query.now in
    let is = g.V.Verdicts.is_verdict query.verdicts.now c.args.receive.now in
    let so_far = c.loop-part.invariant in
    let all : c.args.kept ≡ so_far.1 = so_far.2 ∙ ap (λ (es : List EventNo). so_far.1 ++ es) c.in_default.ensures.part ∙ append-nil so_far.1 in
    (so_far.0, subst (λ (es : List EventNo). AreParts is es so_far.0) (sym all) so_far.4, so_far.6, so_far.7)
