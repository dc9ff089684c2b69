use Rattle.std.proofs.Common.{◌≡◌, ◌<◌, ◌+◌, ◌-◌, suc, length, drop, map, ap, sym, ◌∙◌, subst, arith}
use Rattle.std.proofs.lemmas.List.{length-map, get_or-map}
use Rattle.chart.specs.Ranges.{IsRange, events_in}
use Rattle.line_recorder.specs.Kept.{range_of}
use Rattle.line_recorder.proofs.KeptLemmas.{read_before}
use Rattle.line_recorder.proofs.kept_reports.ranges_of.Goals as goal

pub put_before-requires : goal.put_before-requires
put_before-requires c =
    let p = c.args.instance in
    let kept = c.args.kept.now in
    let place = length kept - 1 - c.loop-passed.passed in
    let inside : place < length kept = omega arith in
    let range = c.of_line.result in
    let there = c.requires place range (omega (arith, inside, length-map kept (range_of p))) in
    subst IsRange (get_or-map (range_of p) kept place _ range inside ∙ sym c.of_line.ensures) there

pub loop-passed-preserved : goal.loop-passed-preserved
loop-passed-preserved c =
    let p = c.args.instance in
    let kept = c.args.kept.now in
    let place = length kept - 1 - c.loop-passed.passed in
    let here : length kept - (c.loop-passed.passed + 1) ≡ place = omega arith in
    let behind : length kept - c.loop-passed.passed ≡ suc place = omega arith in
    let inside : place < length kept = omega arith in (
      omega arith,
      read_before p kept place _ c.of_line.result c.loop-passed.builder c.put_before.new.self inside c.of_line.ensures (c.loop-passed.invariant.1 ∙ ap (λ k. events_in (map (range_of p) (drop k kept))) behind) c.in_ok-put_before.ensures.ok
          ∙ ap (λ k. events_in (map (range_of p) (drop k kept))) (sym here),
    )
