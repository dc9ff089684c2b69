use Rattle.std.proofs.Common.{take}
use Rattle.std.specs.List.{flat_map}
use Rattle.texts.specs.Writing.{Buffers}
use Rattle.pictures.specs.ColumnText.{column_text}
use Rattle.pictures.proofs.columns.add_columns.Given as goal

-- the columns so far were added
abbrev pub invariant-loop-column : goal.invariant-loop-column
invariant-loop-column g l = Buffers g.W.Out.sink l.initial.text l.text (flat_map (column_text l.picture) (take l.column-index l.columns))
