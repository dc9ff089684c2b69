use Rattle.std.proofs.Common.{sym}
use Rattle.std.proofs.lemmas.List.{take_rest}
use Rattle.texts.proofs.Parts.{parts_at, parts_whole, lines_cut, end_cut, no_lines, all_end}
use Rattle.texts.proofs.reading.lines.next_line.Goals as goal

pub returns-in-None-clause-no_line : goal.returns-in-None-clause-no_line
returns-in-None-clause-no_line c = no_lines c.args.bytes.now (parts_whole 10 c.args.bytes.now (sym c.in-None.ensures))

pub returns-in-None-clause-all_end : goal.returns-in-None-clause-all_end
returns-in-None-clause-all_end c = all_end c.args.bytes.now (parts_whole 10 c.args.bytes.now (sym c.in-None.ensures))

pub returns-in-Some-clause-line : goal.returns-in-Some-clause-line
returns-in-Some-clause-line c = rw take_rest (lines_cut _ _ _ (parts_at 10 c.args.bytes.now c.in-Some.place (sym c.in-Some.ensures)))

pub returns-in-Some-clause-end : goal.returns-in-Some-clause-end
returns-in-Some-clause-end c = rw take_rest (end_cut _ _ _ (parts_at 10 c.args.bytes.now c.in-Some.place (sym c.in-Some.ensures)))
