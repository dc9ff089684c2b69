use Rattle.std.proofs.Common.{◌≡◌, suc, ◌-◌, length, map, subst, sym, ap, arith}
use Rattle.chart.specs.declared.instance.EventNo.{EventNo}
use Rattle.chart.specs.Charts.{chart_lines}
use Rattle.chart.specs.Ranges.{events_in}
use Rattle.chart.proofs.Tally.{ith_within}
use Rattle.reordering.specs.Completion.Tables.{IsFrom}
use Rattle.reordering.proofs.CompletionLemmas.Possible.{is_sound}
use Rattle.reordering.proofs.CompletionLemmas.QueryLemmas.{IsFirstOf, first_is, first_begun, finished_query}
use Rattle.reordering.proofs.completion.completion.Completion.before_receive.Goals as goal

pub overflow_sub-first : goal.overflow_sub-first
overflow_sub-first c =
    let r = c.args.receive.now in
    let chart = chart_lines c.args.self.now in
    let events = events_in c.args.earlier.now in
    let is = c.requires.report.exact in
    let m = c.requires.receive in
    let first = subst (λ e. IsFirstOf r.index (map (λ (x : EventNo). x.index) events) e) (sym c.first_index-first.ensures) (first_is r.index events is.rising) in
    (first_begun chart r.instance r.index (map (λ (x : EventNo). x.index) events) c.first_index-first.result is (ith_within (chart r.instance) r.index m.1.0 m.1.1).0 first).0

pub last_within-within-requires-clause-events : goal.last_within-within-requires-clause-events
last_within-within-requires-clause-events c =
    let r = c.args.receive.now in
    let chart = chart_lines c.args.self.now in
    let events = events_in c.args.earlier.now in
    let is = c.requires.report.exact in
    let m = c.requires.receive in
    let inside = ith_within (chart r.instance) r.index m.1.0 m.1.1 in
    let first = subst (λ e. IsFirstOf r.index (map (λ (x : EventNo). x.index) events) e) (sym c.first_index-first.ensures) (first_is r.index events is.rising) in
    let low = (first_begun chart r.instance r.index (map (λ (x : EventNo). x.index) events) c.first_index-first.result is inside.0 first).1 in
    omega (arith, low, inside, ap (λ x. length (chart x)) c.place-line.ensures.value)

pub at-same_sender-requires-clause-place : goal.at-same_sender-requires-clause-place
at-same_sender-requires-clause-place c =
    let r = c.args.receive.now in
    let chart = chart_lines c.args.self.now in
    let m = c.requires.receive in
    let inside = ith_within (chart r.instance) r.index m.1.0 m.1.1 in
    omega (arith, inside, ap (λ x. length (chart x)) c.place-line.ensures.value)

pub returns : goal.returns
returns c =
    let r = c.args.receive.now in
    let chart = chart_lines c.args.self.now in
    let line = c.place-line.result in
    let events = events_in c.args.earlier.now in
    let report = map (λ (x : EventNo). x.index) events in
    let is = c.requires.report.exact in
    let m = c.requires.receive in
    let inside = ith_within (chart r.instance) r.index m.1.0 m.1.1 in
    let first = subst (λ e. IsFirstOf r.index report e) (sym c.first_index-first.ensures) (first_is r.index events is.rising) in
    let same : suc (r.index - 1) ≡ r.index = omega (arith, inside) in
    let from : IsFrom (chart (suc line)) m.0 (suc (r.index - 1)) = subst (λ x. IsFrom (chart x) m.0 (suc (r.index - 1))) c.place-line.ensures.value (subst (λ x. IsFrom (chart r.instance) m.0 x) (sym same) m.1) in
    finished_query chart (is_sound (length c.args.self.now) chart c.at-same_sender.ensures.possible.possible) r.instance (suc line) r.index m.0 m.1 c.place-line.ensures.value report is c.first_index-first.result first
    c.last_within-within.result c.at-same_sender.result.same_sender c.max.result c.last_within-within.ensures (c.at-same_sender.ensures.value.same_sender m.0 from) c.max.ensures
