use Rattle.cmd_mend.proofs.logs.was_luck.Goals as goal

pub returns : goal.returns
returns c = (c.verdict.result, c.verdict.ensures, c.is_luck.ensures)
