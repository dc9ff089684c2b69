use Rattle.std.proofs.Common.{◌≡◌, ◌≤◌, map, drop}
use Rattle.diagram_mscgen.specs.Grammar.Arcs.{arc_view}
use Rattle.diagram_mscgen.specs.Reading.Arcs.{with_arcs}
use Rattle.diagram_mscgen.proofs.reading.arcs.rows_of.Given as goal

abbrev pub invariant-loop-arc : goal.invariant-loop-arc
invariant-loop-arc l = record {
  same : with_arcs (map (λ w. w.now) l.words) l.last (map arc_view (drop l.arc-index l.arcs)) l.rows
      ≡ with_arcs (map (λ w. w.now) l.words) l.last (map arc_view l.arcs) l.initial.rows;
  row : l.rows.row ≤ l.arc-index;
}
