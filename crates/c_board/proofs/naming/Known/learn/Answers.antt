use Rattle.std.proofs.Common.{sym, ◌∙◌}
use Rattle.c_board.proofs.Names.{named_same, is_name}
use Rattle.c_board.proofs.naming.Known.learn.Goals as goal

pub returns-in-Ok-clause-ok : goal.returns-in-Ok-clause-ok
returns-in-Ok-clause-ok c = (c.of.ensures ∙ named_same _ _ (sym c.new.ensures ∙ c.in-Ok.is), is_name _ _ (sym c.new.ensures ∙ c.in-Ok.is))
