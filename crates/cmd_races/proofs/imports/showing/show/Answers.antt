use Rattle.std.proofs.Common.{ℕ, List, Ok, Err, subst₂}
use Rattle.chart.specs.Charts.{LineView}
use Rattle.cmd_races.specs.Showing.{Shows}
use Rattle.cmd_races.proofs.imports.showing.show.Goals as goal

pub returns-in-Ok-show_chart : goal.returns-in-Ok-show_chart
returns-in-Ok-show_chart g c =
    let r = c.in-Ok.ensures.reads in
    (r.0, r.1, r.2, subst₂ (λ (ns : List (List ℕ)) (ls : List LineView). Shows g.W.Out.sink c.args.out.now c.show_chart.new.out (Ok c.in-Ok-show_chart.status) c.args.wanted.now (ns, ls)) r.3 r.4 c.in-Ok-show_chart.ensures)

pub returns-in-Err-show_chart : goal.returns-in-Err-show_chart
returns-in-Err-show_chart g c =
    let r = c.in-Ok.ensures.reads in
    (r.0, r.1, subst₂ (λ (ns : List (List ℕ)) (ls : List LineView). Shows g.W.Out.sink c.args.out.now c.show_chart.new.out (Err c.in-Err-show_chart.error) c.args.wanted.now (ns, ls)) r.3 r.4 c.in-Err-show_chart.ensures)
