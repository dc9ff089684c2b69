use Rattle.chart.proofs.NameLists.{is_found}
use Rattle.chart.proofs.names.Names.contains.Goals as goal

pub returns : goal.returns
returns c = rw (← c.self.view_is) (is_found c.self.inside.names.keys c.args.name c.contains.result c.contains.ensures)
