use Rattle.std.proofs.Common.{length, ap, sym, ◌∙◌}
use Rattle.schedule_threads.proofs.run_outcome.RunOutcome.of.Goals as goal

pub new-requires : goal.new-requires
new-requires c = record { as_many = ap length c.names-names.ensures.value ∙ sym c.requires.lines; exact = c.requires.reports }
