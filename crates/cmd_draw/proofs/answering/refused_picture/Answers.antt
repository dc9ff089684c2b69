use Rattle.cmd_draw.proofs.answering.refused_picture.Goals as goal

pub returns-in-NoSuchEvent-clause-line : goal.returns-in-NoSuchEvent-clause-line
returns-in-NoSuchEvent-clause-line g c = rw c.in-NoSuchEvent.is c.refused_missing.ensures.line
