use Rattle.std.proofs.Common.{refl, arith}
use Rattle.chart.specs.Charts.{chart_lines}
use Rattle.cmd_explain_race.specs.Reordering.{first_of}
use Rattle.cmd_explain_race.proofs.ReorderingLemmas.{has_shown}
use Rattle.cmd_explain_race.proofs.finding.found_of.Goals as goal

pub show-requires-clause-several : goal.show-requires-clause-several
show-requires-clause-several c = let several = c.lines-lines.ensures.chart.several in omega (arith, several, c.requires.named)

pub returns-in-Ok : goal.returns-in-Ok
returns-in-Ok c origin begun is kept =
    (refl, has_shown c.args.names.now c.args.chart.now origin c.args.pair.now c.args.reordered.now c.in-Ok.shown kept c.in-Ok.ensures.steps (c.in-Ok.ensures.shown (first_of origin) (chart_lines c.args.chart.now) _ _ begun is))
