use Rattle.texts.proofs.Parts.{lines_cut, end_cut, no_lines, all_end}
use Rattle.texts.proofs.lines.next_line.Goals as goal

pub returns-in-None-clause-no_line : goal.returns-in-None-clause-no_line
returns-in-None-clause-no_line c = no_lines c.args.bytes.now c.in-None.ensures.whole

pub returns-in-None-clause-all_end : goal.returns-in-None-clause-all_end
returns-in-None-clause-all_end c = all_end c.args.bytes.now c.in-None.ensures.whole

pub returns-in-Some-clause-line : goal.returns-in-Some-clause-line
returns-in-Some-clause-line c = lines_cut _ _ _ c.in-Some.ensures.cut

pub returns-in-Some-clause-end : goal.returns-in-Some-clause-end
returns-in-Some-clause-end c = end_cut _ _ _ c.in-Some.ensures.cut
