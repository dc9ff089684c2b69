use Rattle.std.proofs.Common.{◌≡◌, ◌+◌, length, ap, ◌∙◌}
use Rattle.line_recorder.specs.Recorders.{after_send}
use Rattle.clock.proofs.EntryLemmas.{length-with_entry}
use Rattle.bench_library.proofs.Partnering.{sent, received}
use Rattle.bench_library.proofs.pair.pass.Goals as goal

pub returns : goal.returns
returns c =
    let from = c.args.from.now in
    let to = c.args.to.now in
    let clock = c.in_ok-clock.clock in
    let same : length clock ≡ length to.knowledge = ap length c.in_ok-clock.ensures.clock ∙ length-with_entry from.knowledge from.line.instance (length from.line.events + 1) ∙ c.requires.entries in
    rw (c.in_ok-clock.ensures.ok, c.in_ok-report.ensures.ok) (received (after_send from c.instance.result c.args.name) to c.instance-2.result c.args.name 0 clock c.in_ok-report.report same (sent from to c.instance.result c.args.name c.requires))
