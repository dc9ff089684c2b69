use Rattle.cmd_draw.proofs.title.file_name.Goals as goal

pub returns : goal.returns
returns c = record { slash = c.memrchr.result; last = c.memrchr.ensures; is = c.behind.ensures }
