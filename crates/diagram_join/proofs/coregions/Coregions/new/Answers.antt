use Rattle.std.proofs.Common.{ap}
use Rattle.std.specs.Map.{lookup}
use Rattle.diagram_join.specs.Tables.{next_line, same_row}
use Rattle.diagram_join.proofs.coregions.Coregions.new.Goals as goal

pub returns-clause-lines : goal.returns-clause-lines
unfolding next_line
returns-clause-lines c = λ row p. ap (lookup (same_row (record { row = row; instance = p }))) c.new-2.ensures.empty
