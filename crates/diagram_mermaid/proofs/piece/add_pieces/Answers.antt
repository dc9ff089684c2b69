use Rattle.std.proofs.Common.{◌++◌, map, arith, ap, sym, ◌∙◌}
use Rattle.diagram_statements.specs.Statements.{line_view}
use Rattle.diagram_mermaid.specs.Pieces.{listed}
use Rattle.diagram_mermaid.proofs.PieceLoops.{first_piece, next_piece}
use Rattle.diagram_mermaid.proofs.piece.add_pieces.Goals as goal

pub pieces-init : goal.pieces-init
pieces-init c = record { same = first_piece (map line_view c.args.pieces.now.items) (line_view c.args.line); room = omega arith }

pub pieces-preserved : goal.pieces-preserved
pieces-preserved c = record {
  same =
      next_piece _ _ _ _ _ _ (line_view c.args.line) c.piece_length-length.result c.pieces.invariant.same c.piece_length-length.ensures.value
      (c.in_ok-add_piece.ensures ∙ ap (λ p. map line_view c.pieces.pieces.items ++ listed p) c.front.ensures)
      c.after-behind.ensures.line (sym c.if-not-begins_with.ensures.value) c.after-left.ensures.line (omega arith);
  room = omega arith;
}
