use Rattle.std.proofs.Common.{refl, sym, ◌∙◌}
use Rattle.log_chart.specs.Cycles.Choosing.HasPassed.{on}
use Rattle.log_chart.proofs.CyclesLemmas.FirstLemmas.{own_line, is_found}
use Rattle.log_chart.proofs.cycles.first.soonest_with.Goals as goal

pub returns-then-is_on_cycle : goal.returns-then-is_on_cycle
returns-then-is_on_cycle c =
    let own = own_line c.args.line.now c.args.host c.args.soonest (sym c.is_own.ensures ∙ c.if-not-is_own.false) in
    let found = is_found c.args.line.now c.pass.new.self.seen.items (sym c.is_on_cycle.ensures ∙ c.if-is_on_cycle.true) in
    on own.0 own.1 c.in_ok-pass.ensures.whole c.in_ok-pass.ensures.stack c.in_ok-pass.ensures.past found.0.0 found.0.1 found.1 refl
