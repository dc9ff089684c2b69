use Rattle.std.proofs.Common.{List, ℕ, sym, subst, subst₂}
use Rattle.chart.specs.Charts.{LineView}
use Rattle.cmd_base.specs.declared.source.Source.{Source}
use Rattle.cmd_base.specs.Texts.{named_of}
use Rattle.cmd_explain_race.specs.Finding.{origin_of, IsFound}
use Rattle.cmd_explain_race.specs.Reordering.Origin.{from_chart}
use Rattle.cmd_explain_race.proofs.finding.found_in.Goals as goal

pub returns-in-Written : goal.returns-in-Written
returns-in-Written c =
    subst (λ (s : Source). IsFound (named_of s) (origin_of s) c.args.asked.now c.found_in_chart.result) (sym c.in-Written.is)
    (subst₂ (λ (ns : List (List ℕ)) (ls : List LineView). IsFound (ns, ls) from_chart c.args.asked.now c.found_in_chart.result) c.names.ensures c.chart.ensures.value c.found_in_chart.ensures)
