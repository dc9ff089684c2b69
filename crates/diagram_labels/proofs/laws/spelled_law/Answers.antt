use Rattle.diagram_labels.proofs.Spellings.{spelled_is_name}
use Rattle.diagram_labels.proofs.Kept.{name_kept}
use Rattle.diagram_labels.proofs.laws.spelled_law.Goals as goal

pub returns-clause-name : goal.returns-clause-name
returns-clause-name c = spelled_is_name

pub returns-clause-stays : goal.returns-clause-stays
returns-clause-stays c = name_kept
