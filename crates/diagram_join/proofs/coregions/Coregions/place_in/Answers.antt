use Rattle.std.proofs.Common.{sym, ◌∙◌}
use Rattle.diagram_join.proofs.CoregionLemmas.{place_none}
use Rattle.diagram_join.proofs.coregions.Coregions.place_in.Goals as goal

pub returns-in-None : goal.returns-in-None
returns-in-None c = λ messages are many. place_none c.args.self.now.coregions.entries messages c.args.count c.args.place c.args.message.now are many (sym c.of.ensures ∙ c.in-None.is)
