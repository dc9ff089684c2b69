use Rattle.std.proofs.Common.{◌≡◌, suc, ◌-◌, subst, sym, arith}
use Rattle.chart.specs.Charts.{chart_lines}
use Rattle.reordering.specs.Completion.Tables.{IsAmong, IsLastSettled}
use Rattle.reordering.proofs.CompletionLemmas.TableLemmas.{none_settled}
use Rattle.reordering.proofs.completion.completion.Completion.last_within.Goals as goal

pub returns-then-events-eq0 : goal.returns-then-events-eq0
returns-then-events-eq0 c =
    let line = chart_lines c.args.self.now (suc c.args.line) in
    subst (λ n. IsLastSettled (IsAmong n) line 0) (sym c.if-events-eq0.true) (none_settled (IsAmong 0) line (λ d le. le))

pub returns : goal.returns
returns c =
    let line = chart_lines c.args.self.now (suc c.args.line) in
    let same : suc (c.args.events - 1) ≡ c.args.events = omega (arith, c.if-events-eq0.false) in
    subst (λ n. IsLastSettled (IsAmong n) line c.at.result.within) same c.at.ensures.value.within
