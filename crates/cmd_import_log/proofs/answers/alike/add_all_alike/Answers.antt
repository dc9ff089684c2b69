use Rattle.texts.proofs.Writes.{buffers_more_read, adds_in_read}
use Rattle.cmd_import_log.specs.Answers.AlikeHosts.{alike_text}
use Rattle.cmd_import_log.proofs.answers.alike.add_all_alike.Goals as goal

pub loop-hosts-preserved : goal.loop-hosts-preserved
loop-hosts-preserved g c = buffers_more_read alike_text c.args.alike.now c.loop-hosts.hosts-index _ c.loop-hosts-test.true c.hosts-item.is c.loop-hosts.invariant c.in_ok-add_alike.ensures

pub returns-in_err-add_alike : goal.returns-in_err-add_alike
returns-in_err-add_alike g c = adds_in_read alike_text c.from_residual.result c.args.alike.now c.loop-hosts.hosts-index _ c.from_residual.ensures.0 c.loop-hosts-test.true c.hosts-item.is c.loop-hosts.invariant c.in_err-add_alike.ensures
