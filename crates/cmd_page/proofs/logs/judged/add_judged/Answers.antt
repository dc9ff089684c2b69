use Rattle.std.proofs.Common.{◌≡◌, ◌<◌, List, ◌++◌, All, map, sym, ◌∙◌, subst, subst₂}
use Rattle.std.proofs.lemmas.List.Elements.{All-weaker}
use Rattle.chart.specs.declared.instance.EventNo.{EventNo}
use Rattle.chart.specs.Ranges.{IsRange}
use Rattle.race_verdicts.specs.declared.verdict.Verdict.{Verdict}
use Rattle.races_text.specs.Judged.LogVerdicts.{IsReceiveAndEvent, verdict_in}
use Rattle.races_text.specs.Judged.Parts.{IsPart, AreParts}
use Rattle.races_text.specs.declared.judged.part.Part.{Part}
use Rattle.cmd_page.specs.Marks.Judging.{judged_pair}
use Rattle.cmd_page.proofs.logs.judged.add_judged.Goals as goal

pub all_parts-requires-clause-begun : goal.all_parts-requires-clause-begun
all_parts-requires-clause-begun c =
    let race : EventNo → Type 0 = λ e. IsReceiveAndEvent c.args.verdicts.now.judge.lines c.args.report.now.receive e in
    let begun = All-weaker race (λ (e : EventNo). 0 < e.index) (λ e its. its.1.0) c.args.report.now.earlier c.requires.races in
    subst (All (λ (e : EventNo). 0 < e.index)) (sym (c.as_slice-earlier.ensures.events ∙ c.earlier.ensures)) begun

pub all_parts-requires-clause-races : goal.all_parts-requires-clause-races
all_parts-requires-clause-races c =
    let lines = c.args.verdicts.now.judge.lines in
    subst₂ (λ (r : EventNo) (es : List EventNo). All (λ (e : EventNo). IsReceiveAndEvent lines r e) es) (sym c.receive-receive.ensures) (sym (c.as_slice-earlier.ensures.events ∙ c.earlier.ensures)) c.requires.races

pub add_parts-requires-clause-ranges : goal.add_parts-requires-clause-ranges
add_parts-requires-clause-ranges c =
    let judge = c.args.verdicts.now.judge in
    let is : EventNo → Verdict → Type 0 = verdict_in judge.lines judge.recording c.receive-receive.result in
    let parts = c.in_ok-parts.parts.items in
    subst (All (λ (p : Part). IsRange p.range)) (sym c.as_slice-list.ensures.value) (All-weaker (IsPart is) (λ (p : Part). IsRange p.range) (λ p its. its.range) parts c.in_ok-parts.ensures.each)

pub returns-clause-pairs : goal.returns-clause-pairs
returns-clause-pairs c =
    let judge = c.args.verdicts.now.judge in
    let parts = c.in_ok-parts.parts.items in (
      parts,
      subst₂ (λ (r : EventNo) (es : List EventNo). AreParts (verdict_in judge.lines judge.recording r) es parts) c.receive-receive.ensures (c.as_slice-earlier.ensures.events ∙ c.earlier.ensures) c.in_ok-parts.ensures,
      subst₂ (λ (r : EventNo) (ps : List Part). c.add_parts.new.pairs.items ≡ c.args.pairs.now.items ++ map (judged_pair r) ps) c.receive-receive.ensures c.as_slice-list.ensures.value c.in_ok-add_parts.ensures.pairs,
    )
