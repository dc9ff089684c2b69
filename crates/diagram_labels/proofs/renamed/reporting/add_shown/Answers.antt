use Rattle.texts.proofs.Writes.{buffers_more, adds_in}
use Rattle.diagram_labels.specs.Renamed.Reporting.{shown_byte}
use Rattle.diagram_labels.proofs.renamed.reporting.add_shown.Goals as goal

pub loop-byte-preserved : goal.loop-byte-preserved
loop-byte-preserved g c = buffers_more shown_byte c.args.label.now c.loop-byte.byte-index 0 c.loop-byte-test.true c.loop-byte.invariant c.in_ok-add_shown_byte.ensures

pub returns-in_err-add_shown_byte : goal.returns-in_err-add_shown_byte
returns-in_err-add_shown_byte g c = adds_in shown_byte c.from_residual.result c.args.label.now c.loop-byte.byte-index 0 c.from_residual.ensures.0 c.loop-byte-test.true c.loop-byte.invariant c.in_err-add_shown_byte.ensures
