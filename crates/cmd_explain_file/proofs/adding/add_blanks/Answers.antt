use Rattle.cmd_explain_file.proofs.adding.add_blanks.Goals as goal
use Rattle.cmd_explain_file.specs.Sayings.{blank}
use Rattle.texts.proofs.Writes.{buffers_more, adds_in}

pub loop-byte-preserved : goal.loop-byte-preserved
loop-byte-preserved g c = buffers_more blank c.args.bytes.now c.loop-byte.byte-index 0 c.loop-byte-test.true c.loop-byte.invariant c.in_ok-add.ensures

pub returns-in_err-add : goal.returns-in_err-add
returns-in_err-add g c = adds_in blank c.from_residual.result c.args.bytes.now c.loop-byte.byte-index 0 c.from_residual.ensures.0 c.loop-byte-test.true c.loop-byte.invariant c.in_err-add.ensures
