use Rattle.std.proofs.Common.{◌≡◌, ◌+◌, ◌-◌, ◌*◌, ◌≤◌, List, [], length, drop, take, sym, ap, ◌∙◌, subst, arith}
use Rattle.std.proofs.lemmas.List.{drop_all, take_all, length-drop}
use Rattle.chart.specs.declared.line.TheConstants.{MAX_EVENTS}
use Rattle.chart.specs.Charts.{LineView, chart_lines}
use Rattle.cmd_compare.specs.Verdicts.{AreFronts}
use Rattle.cmd_compare.proofs.FrontLemmas.{fronts_so}
use Rattle.cmd_compare.proofs.fronts.Ordered.fronts_on.Goals as goal

pub returns-then-len-start-clause-fronts : goal.returns-then-len-start-clause-fronts
returns-then-len-start-clause-fronts c =
    let inside = c.self.inside in
    let p = c.args.instance in
    let few : length inside.fronts.items ≤ (p - 1) * MAX_EVENTS + 1 = omega (arith, c.place.ensures.value, c.len.ensures, c.if-len-start.true, inside.fronts.ok.0) in
    subst (λ (ls : List LineView). AreFronts (chart_lines ls) p []) c.self.view_is
    (fronts_so (chart_lines inside.closure.now) inside.fronts.items p [] c.self.invariant.0 (sym (drop_all ((p - 1) * MAX_EVENTS + 1) inside.fronts.items few)))

pub returns-clause-fronts : goal.returns-clause-fronts
returns-clause-fronts c =
    let inside = c.self.inside in
    let p = c.args.instance in
    let s = c.as_slice.result.now in
    let start = c.place.result * 4096 + 1 in
    let own = take (length s - start) (drop start s) in
    let same : start ≡ (p - 1) * MAX_EVENTS + 1 = omega (arith, c.place.ensures.value) in
    let is : own ≡ drop ((p - 1) * MAX_EVENTS + 1) inside.fronts.items =
    take_all (length s - start) (drop start s) (omega (arith, length-drop start s)) ∙ ap (drop start) c.as_slice.ensures.value ∙ ap (λ n. drop n inside.fronts.items) same in
    subst (λ (ls : List LineView). AreFronts (chart_lines ls) p own) c.self.view_is
    (fronts_so (chart_lines inside.closure.now) inside.fronts.items p own c.self.invariant.0 is)
