use Rattle.std.proofs.Common.{sym, ◌∙◌}
use Rattle.diagram_import.proofs.TextLemmas.{line_more, lines_all}
use Rattle.diagram_import.proofs.places.without_lines.Goals as goal

pub loop-line-preserved : goal.loop-line-preserved
loop-line-preserved c = line_more c.args.count c.loop-line.line _ _ c.loop-line-test.true c.behind_line-rest.ensures.value ∙ c.loop-line.invariant

pub returns : goal.returns
returns c = sym (lines_all c.args.count c.loop-line.line _ c.loop-line-test.false) ∙ c.loop-line.invariant
