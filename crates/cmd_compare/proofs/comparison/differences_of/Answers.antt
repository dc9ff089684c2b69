use Rattle.std.proofs.Common.{List, length, sym, ap, ◌∙◌, subst, arith, eqb-true, vec_len}
use Rattle.std.proofs.lemmas.Result.{IfOk-weaker}
use Rattle.std.proofs.lemmas.List.{nil_from_length}
use Rattle.chart.specs.Charts.{LineView, chart_lines}
use Rattle.cmd_compare.specs.Comparing.{AreDifferences}
use Rattle.reordering.proofs.CompletionLemmas.Possible.{is_sound}
use Rattle.cmd_compare.specs.declared.pairs.Difference.{Difference}
use Rattle.cmd_compare.proofs.DifferenceLemmas.{differences_so, no_differences}
use Rattle.cmd_compare.proofs.comparison.differences_of.Goals as goal

pub returns-then-is_empty : goal.returns-then-is_empty
returns-then-is_empty c =
    let r = c.args.recordings.now in
    let pairs = c.in_ok-pairs.pairs in
    let zero = eqb-true (vec_len pairs) 0 (sym c.is_empty.ensures ∙ c.if-is_empty.true) in
    let none = sym c.in_ok-pairs.ensures ∙ nil_from_length pairs.items (omega (arith, zero, pairs.ok.0)) in
    subst (λ (l : List Difference). AreDifferences r.others.now (chart_lines r.here.now) (chart_lines r.there.now) c.args.instance l) (sym c.new.ensures.items)
    (no_differences r.others.now (chart_lines r.here.now) (chart_lines r.there.now) c.args.instance c.args.found.now c.requires.matches c.requires.whole none)

pub returns : goal.returns
returns c =
    let r = c.args.recordings.now in
    let p = c.args.instance in
    let q = c.other_of-other.result in
    IfOk-weaker c.judge.result _ (λ differences. AreDifferences r.others.now (chart_lines r.here.now) (chart_lines r.there.now) p differences.items)
    (λ differences made. differences_so r.others.now (chart_lines r.here.now) (chart_lines r.there.now) p q c.args.found.now c.events_of.result.now c.events_of-2.result.now c.fronts_on.result.now c.fronts_on-2.result.now c.as_slice.result.now differences.items c.requires.matches c.requires.whole c.other_of-other.ensures
    (c.events_of.ensures.events ∙ ap (λ (l : List LineView). chart_lines l p) c.lines.ensures)
    (c.events_of-2.ensures.events ∙ ap (λ (l : List LineView). chart_lines l q) c.lines-2.ensures)
    (is_sound (length r.here.now) (chart_lines r.here.now) c.fronts_on.ensures.possible)
    (is_sound (length r.there.now) (chart_lines r.there.now) c.fronts_on-2.ensures.possible)
    c.fronts_on.ensures.fronts
    c.fronts_on-2.ensures.fronts
    (c.as_slice.ensures.value ∙ c.in_ok-pairs.ensures) made) c.judge.ensures
