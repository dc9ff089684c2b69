use Rattle.std.proofs.Common.{sym, ◌∙◌}
use Rattle.log_chart.proofs.CyclesLemmas.FirstLemmas.{none_gone, host_gone, first_found, none_found}
use Rattle.log_chart.proofs.cycles.first.first_on_cycle.Goals as goal

pub loop-place-init : goal.loop-place-init
loop-place-init c = none_gone c.args.lines.now c.args.hosts c.requires.among

pub loop-place-preserved : goal.loop-place-preserved
loop-place-preserved c =
    host_gone c.args.lines.now c.loop-place.place c.loop-place.found _ c.loop-place.invariant c.in_ok-found.ensures.found c.in_ok-found.ensures.ahead
    (λ j on own. c.in_ok-found.ensures.soonest j on (own ∙ sym c.at_place-host.ensures))

pub returns-in-None : goal.returns-in-None
returns-in-None c = none_found c.args.lines.now c.args.hosts c.loop-place.place c.loop-place.found c.requires.among c.loop-place-test.false c.loop-place.invariant c.in-None.is

pub returns : goal.returns
returns c = first_found c.args.lines.now c.args.hosts c.loop-place.place c.loop-place.found c.requires.among c.loop-place-test.false c.loop-place.invariant c.in-Some.line c.in-Some.is
