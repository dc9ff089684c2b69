use Rattle.std.proofs.Common.{◌≡◌, ◌++◌, drop}
use Rattle.picture_parts.specs.Columns.Choices.{places_from, count_from}
use Rattle.picture_parts.proofs.columns.choice.places_of.Given as goal

-- the rows so far were counted, and with the remaining ones they are all
abbrev pub invariant-loop-row : goal.invariant-loop-row
invariant-loop-row l = record {
  places : l.places.items ++ places_from l.choice l.count (drop l.row-index l.rows) ≡ places_from l.choice 0 l.rows;
  count : count_from l.choice l.count (drop l.row-index l.rows) ≡ count_from l.choice 0 l.rows;
}
