use Rattle.std.proofs.Common.{sym}
use Rattle.std.proofs.lemmas.List.{take_rest}
use Rattle.texts.proofs.Parts.{parts_at, parts_whole}
use Rattle.texts.proofs.lines.cut_at.Goals as goal

pub returns-in-None-clause-whole : goal.returns-in-None-clause-whole
returns-in-None-clause-whole c = parts_whole c.args.byte c.args.bytes.now (sym c.in-None.ensures)

pub returns-in-Some-clause-cut : goal.returns-in-Some-clause-cut
returns-in-Some-clause-cut c = rw take_rest (parts_at c.args.byte c.args.bytes.now c.in-Some.place (sym c.in-Some.ensures))
