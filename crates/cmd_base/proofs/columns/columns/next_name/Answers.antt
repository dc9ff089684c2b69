use Rattle.std.proofs.Common.{sym}
use Rattle.std.proofs.lemmas.List.{take_rest}
use Rattle.texts.proofs.Parts.{parts_at, parts_whole}
use Rattle.cmd_base.proofs.columns.columns.next_name.Goals as goal

pub returns-in-None-clause-cut : goal.returns-in-None-clause-cut
returns-in-None-clause-cut c = parts_whole 44 c.args.bytes.now (sym c.in-None.ensures)

pub returns-in-Some-clause-cut : goal.returns-in-Some-clause-cut
returns-in-Some-clause-cut c = rw take_rest (parts_at 44 c.args.bytes.now c.in-Some.place (sym c.in-Some.ensures))
