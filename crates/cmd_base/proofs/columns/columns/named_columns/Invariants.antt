use Rattle.std.proofs.Common.{length}
use Rattle.texts.specs.Lines.{parts}
use Rattle.cmd_base.proofs.ColumnsLemmas.ColumnLemmas.{AreSoFar}
use Rattle.cmd_base.proofs.columns.columns.named_columns.Given as goal

abbrev pub invariant-names : goal.invariant-names
invariant-names l = AreSoFar l.names (parts 44 l.only) (parts 44 l.rest) l.columns.items

abbrev pub decreases-names : goal.decreases-names
decreases-names l = length l.rest
